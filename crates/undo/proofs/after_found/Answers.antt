-- `undo::after_found`. Assumes nothing.
use mathlib.Core.Path.{sym, ap, ◌∙◌, subst}
use Rattle.problem.specs.Held.{held}
use Rattle.undo.specs.Found.{LawfulFound, after_found}
use Rattle.undo.proofs.after_found.Goals as goal

pub after_lawful-requires : goal.after_lawful-requires
after_lawful-requires c = let p = c.requires in let a = c.args in (subst (LawfulFound a.view.table.now a.view.state.now) c.in-Read.is p)

pub returns-in-Read : goal.returns-in-Read
returns-in-Read c = let a = c.args in c.after_lawful.ensures ∙ sym (ap (after_found (held a.view.table.now) a.view.state.now) c.in-Read.is)
