-- `undo::undo_found`. Assumes nothing.
use mathlib.Core.Path.{sym, ap, ◌∙◌, subst}
use Rattle.problem.specs.Held.{held}
use Rattle.problem.specs.Masks.{state_of}
use Rattle.trace.specs.declared.RecordRead.{RecordRead}
use Rattle.undo.specs.Found.{UndoableFound, undone_found}
use Rattle.undo.proofs.undo_found.Goals as goal

pub undo_record-requires : goal.undo_record-requires
undo_record-requires c = let p = c.requires in let a = c.args in (subst (λ (y : RecordRead). UndoableFound a.view.table.now a.view.state.now y a.out.now) c.in-Read.is p)

pub returns-in-Read : goal.returns-in-Read
returns-in-Read c = let a = c.args in c.undo_record.ensures ∙ sym (ap (λ (y : RecordRead). undone_found (held a.view.table.now) (state_of a.view.state.now) y a.out.now) c.in-Read.is)
