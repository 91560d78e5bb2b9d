-- `putting_back::put_back`: what reading the sheet finds, and the table that it fills. Assumes nothing.
use mathlib.Core.Path.{sym, ap, ◌∙◌}
use Rattle.std.proofs.lemmas.Result.{err_from_is_err_and}
use Rattle.problem.specs.Problem.{Problem}
use Rattle.put_back.specs.PutBack.{PutBackResult, put_back_over}
use Rattle.jobs.proofs.Opened.{table_refused, table_rows, table_job}
use Rattle.put_back.proofs.Opened.{put_back_sheet_refused, put_back_kept}
use Rattle.putting_back.proofs.put_back.Goals as goal

pub returns-in_err-read_table : goal.returns-in_err-read_table
returns-in_err-read_table c =
    let a = c.args in
    let p = err_from_is_err_and c.from_residual.result c.from_residual.ensures.1 in
    let q = sym (put_back_sheet_refused a.s.now a.trace.now a.plan.now a.out.now _ (table_refused _ _ (c.read_table.ensures.answer, c.read_table.ensures.filled) c.in_err-read_table.was)) in
    rw (p.1, p.2) (ap (λ (x : PutBackResult). x.answer) q, ap (λ (x : PutBackResult). x.result) q)

pub returns : goal.returns
returns c =
    let a = c.args in
    let q = table_job _ _ (c.read_table.ensures.answer, c.read_table.ensures.filled) c.in_ok-read_table.was (λ (P : Problem). put_back_over P a.trace.now a.plan.now a.out.now) (put_back_kept a.s.now a.trace.now a.plan.now a.out.now) in
    let p = c.put_back_over.ensures in
    (p.0 ∙ ap (λ (x : PutBackResult). x.answer) q, p.1 ∙ ap (λ (x : PutBackResult). x.result) q)

pub read_table-requires : goal.read_table-requires
read_table-requires c = c.blank_table-t.ensures

pub put_back_over-requires : goal.put_back_over-requires
put_back_over-requires c = table_rows _ _ (c.read_table.ensures.answer, c.read_table.ensures.filled) c.in_ok-read_table.was
