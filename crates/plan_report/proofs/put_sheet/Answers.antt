-- `plan_report::put_sheet`: by what the reader answers. Assumes nothing.
use mathlib.Core.Path.{sym, ap, ◌∙◌}
use native.Mathlib.Nat.{zero-add}
use native.Mathlib.Omega.{arith}
use lib.ListN.{length, replicate}
use lib.Seq.{length-take-le}
use Rattle.sheet.specs.Sheet.{layout}
use Rattle.sheet.proofs.Accepted.{keeps}
use Rattle.fields.specs.Print.{refused_line}
use Rattle.buffers.specs.Written.{written}
use Rattle.plan_report.proofs.Text.{refused_lines, few_items, blank_plan}
use Rattle.plan_report.proofs.put_sheet.Goals as goal

pub slice_bounds-plan-end : goal.slice_bounds-plan-end
slice_bounds-plan-end c = few_items c.args.s.now _ _ (sym c.read_sheet.ensures ∙ c.in-Ok.is)

pub slice_bounds-put_kept-end : goal.slice_bounds-put_kept-end
slice_bounds-put_kept-end c = sym (length-take-le _ (replicate 32 255) (few_items c.args.s.now _ _ (sym c.read_sheet.ensures ∙ c.in-Ok.is)))

pub put_kept-requires : goal.put_kept-requires
put_kept-requires c =
    let s = c.args.s.now in
    let e = sym c.read_sheet.ensures ∙ c.in-Ok.is in
    (keeps layout s _ _ e, (blank_plan s _ _ e, omega arith))

pub returns-in-Err : goal.returns-in-Err
returns-in-Err c =
    let a = c.args in
    let e = refused_lines a.s.now _ (sym c.read_sheet.ensures ∙ c.in-Err.is) in
    let p = c.put_refused_line.ensures in
    let n = ap refused_line c.from.ensures ∙ e in
    record { text = (p.text.0 ∙ ap (written a.out.now 0) n, p.text.1 ∙ zero-add _ ∙ ap length n); within = omega arith }
