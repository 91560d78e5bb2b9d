-- `report::put_sheet`: what the run answers, as lines. Assumes nothing.
use mathlib.Core.Path.{ap, ◌∙◌}
use native.Mathlib.Nat.{zero-add}
use native.Mathlib.Omega.{arith}
use lib.ListN.{length}
use Rattle.fields.specs.Print.{refused_line}
use Rattle.buffers.specs.Written.{written}
use Rattle.report.proofs.Text.{done_keeps, done_ran, read_lines, refused_text}
use Rattle.report.proofs.put_sheet.Goals as goal

pub put_run-requires : goal.put_run-requires
put_run-requires c =
    let a = c.args in
    let r = c.run_sheet-done in
    let o = c.in-Ok.is in
    (done_keeps a.s.now _ (omega arith) _ r.ensures.0 _ _ _ o, (done_ran a.s.now _ (omega arith) _ r.ensures.0 _ _ _ o _ r.ensures.1, omega arith))

pub returns-in-Ok : goal.returns-in-Ok
returns-in-Ok c =
    let a = c.args in
    let r = c.run_sheet-done in
    let K = done_keeps a.s.now _ (omega arith) _ r.ensures.0 _ _ _ c.in-Ok.is in
    record { text = rw (read_lines a.s.now K) c.put_run.ensures.text; within = c.put_run.ensures.within }

pub returns-in-Err : goal.returns-in-Err
returns-in-Err c =
    let a = c.args in
    let r = c.run_sheet-done in
    let e = refused_text a.s.now _ (omega arith) _ r.ensures.0 _ c.in-Err.is in
    let p = c.put_refused_line.ensures in
    let n = ap refused_line c.from.ensures ∙ e in
    record { text = (p.text.0 ∙ ap (written a.out.now 0) n, p.text.1 ∙ zero-add _ ∙ ap length n); within = omega arith }
