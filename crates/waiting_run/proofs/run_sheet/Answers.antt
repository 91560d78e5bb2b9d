-- `waiting_run::run_sheet`: what reading the sheet finds, and the table that it fills. Assumes nothing.
use mathlib.Core.Path.{sym, ap, ◌∙◌}
use Rattle.problem.specs.Problem.{Problem}
use Rattle.run.specs.Run.{RunResult, run_over}
use Rattle.jobs.proofs.Opened.{table_refused, table_rows, table_job}
use Rattle.run.proofs.Opened.{run_sheet_refused, run_kept}
use Rattle.waiting_run.proofs.run_sheet.Goals as goal

pub returns-in-Err : goal.returns-in-Err
returns-in-Err c =
    let a = c.args in
    let q = sym (run_sheet_refused a.s.now a.b.now _ (table_refused _ _ (c.read_table.ensures.answer, c.read_table.ensures.filled) c.in-Err.is)) in
    (c.refused.ensures ∙ ap (λ (x : RunResult). x.answer) q, ap (λ (x : RunResult). x.buffer) q)

pub returns-in-Ok : goal.returns-in-Ok
returns-in-Ok c =
    let a = c.args in
    let q = table_job _ _ (c.read_table.ensures.answer, c.read_table.ensures.filled) c.in-Ok.is (λ (P : Problem). run_over P a.b.now) (run_kept a.s.now a.b.now) in
    let p = c.run_over.ensures in
    (p.0 ∙ ap (λ (x : RunResult). x.answer) q, p.1 ∙ ap (λ (x : RunResult). x.buffer) q)

pub read_table-requires : goal.read_table-requires
read_table-requires c = c.blank_table-t.ensures

pub run_over-requires : goal.run_over-requires
run_over-requires c = table_rows _ _ (c.read_table.ensures.answer, c.read_table.ensures.filled) c.in-Ok.is
