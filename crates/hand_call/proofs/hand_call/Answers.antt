-- `hand_call::hand_call`: what reading the sheet finds, and the table that it fills. Assumes nothing.
use mathlib.Core.Path.{sym, ◌∙◌}
use Rattle.problem.specs.Problem.{Problem}
use Rattle.hand.specs.Hand.{call_over}
use Rattle.jobs.proofs.Opened.{table_refused, table_rows, table_job}
use Rattle.hand.proofs.Opened.{call_refused_lem, call_kept}
use Rattle.hand_call.proofs.hand_call.Goals as goal

pub returns-in-Err : goal.returns-in-Err
returns-in-Err c = c.refused_call.ensures ∙ sym (call_refused_lem _ _ _ _ (table_refused _ _ (c.read_table.ensures.answer, c.read_table.ensures.filled) c.in-Err.is))

pub returns-in-Ok : goal.returns-in-Ok
returns-in-Ok c =
    let a = c.args in
    c.call_over.ensures ∙ table_job _ _ (c.read_table.ensures.answer, c.read_table.ensures.filled) c.in-Ok.is (λ (P : Problem). call_over P a.st a.i) (call_kept _ a.st a.i)

pub read_table-requires : goal.read_table-requires
read_table-requires c = c.blank_table-t.ensures

pub call_over-requires : goal.call_over-requires
call_over-requires c = table_rows _ _ (c.read_table.ensures.answer, c.read_table.ensures.filled) c.in-Ok.is
