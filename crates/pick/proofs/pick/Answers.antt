-- `pick::pick`: what reading the sheet finds, and the table that it fills. Assumes nothing.
use mathlib.Core.Path.{sym, ap, ◌∙◌}
use Rattle.problem.specs.Problem.{Problem}
use Rattle.jobs.proofs.Opened.{table_refused, table_rows, table_job}
use Rattle.pick.specs.Pick.{PickResult, pick_over}
use Rattle.pick.proofs.Causes.{pick_sheet_refused, pick_kept}
use Rattle.pick.proofs.pick.Goals as goal

pub returns-in-Err : goal.returns-in-Err
returns-in-Err c =
    let a = c.args in
    let q = sym (pick_sheet_refused a.s.now a.trace.now a.plan.now _ (table_refused _ _ (c.read_table.ensures.answer, c.read_table.ensures.filled) c.in-Err.is)) in
    record { answer = c.refused.ensures ∙ ap (λ (x : PickResult). x.answer) q; trace = ap (λ (x : PickResult). x.trace) q; plan = ap (λ (x : PickResult). x.plan) q }

pub returns-in-Ok : goal.returns-in-Ok
returns-in-Ok c =
    let a = c.args in
    let q = table_job _ _ (c.read_table.ensures.answer, c.read_table.ensures.filled) c.in-Ok.is (λ (P : Problem). pick_over P a.trace.now a.plan.now) (pick_kept a.s.now a.trace.now a.plan.now) in
    let p = c.pick_over.ensures in
    record { answer = p.answer ∙ ap (λ (x : PickResult). x.answer) q; trace = p.trace ∙ ap (λ (x : PickResult). x.trace) q; plan = p.plan ∙ ap (λ (x : PickResult). x.plan) q }

pub read_table-requires : goal.read_table-requires
read_table-requires c = c.blank_table-t.ensures

pub pick_over-requires : goal.pick_over-requires
pick_over-requires c = table_rows _ _ (c.read_table.ensures.answer, c.read_table.ensures.filled) c.in-Ok.is
