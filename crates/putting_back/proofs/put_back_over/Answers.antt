-- `putting_back::put_back_over`: the lengths, then the trace and the plan. Assumes nothing.
use mathlib.Core.Path.{sym, ap, ◌∙◌}
use native.Mathlib.Omega.{arith}
use Rattle.problem.specs.Held.{held}
use Rattle.put_back.specs.PutBack.{PutBackResult}
use Rattle.put_back.proofs.Opened.{put_back_plan_length_over, put_back_result_length_over, put_back_checked_over}
use Rattle.putting_back.proofs.put_back_over.Goals as goal

pub returns-then-plan-n : goal.returns-then-plan-n
returns-then-plan-n c =
    let a = c.args in
    let g = sym (put_back_plan_length_over (held a.t.now) a.trace.now a.plan.now a.out.now (λ q. c.if-plan-n.true (q ∙ sym c.variables-n.ensures))) in
    (ap (λ (r : PutBackResult). r.answer) g, ap (λ (r : PutBackResult). r.result) g)

pub returns-then-out-n : goal.returns-then-out-n
returns-then-out-n c =
    let a = c.args in
    let e = c.variables-n.ensures in
    let g = sym (put_back_result_length_over (held a.t.now) a.trace.now a.plan.now a.out.now (omega arith) (λ q. c.if-out-n.true (q ∙ sym e))) in
    (ap (λ (r : PutBackResult). r.answer) g, ap (λ (r : PutBackResult). r.result) g)

pub put_back_sized-requires : goal.put_back_sized-requires
put_back_sized-requires c = let e = c.variables-n.ensures in (c.requires, (c.if-plan-n.false ∙ e, c.if-out-n.false ∙ e))

pub returns : goal.returns
returns c =
    let a = c.args in
    let e = c.variables-n.ensures in
    let g = sym (put_back_checked_over (held a.t.now) a.trace.now a.plan.now a.out.now (c.if-plan-n.false ∙ e) (c.if-out-n.false ∙ e)) in
    let r = c.put_back_sized.ensures in
    (r.0 ∙ ap (λ (r : PutBackResult). r.answer) g, r.1 ∙ ap (λ (r : PutBackResult). r.result) g)
