-- `pick::pick_over`: the trace's buffer first, by the sum of the sizes; then the plan's, by the variables. Assumes nothing.
use mathlib.Core.Path.{ap, sym, ◌∙◌}
use Prim.Native.Nat.{◌+◌, ◌*◌, ◌≤◌}
use native.Mathlib.Omega.{arith}
use lib.ListN.{length}
use Rattle.problem.specs.Problem.{size_sum}
use Rattle.problem.specs.Held.{held}
use Rattle.pick.specs.Pick.{PickResult}
use Rattle.pick.proofs.Causes.{pick_buffer_over, pick_length_over, pick_accepted_over}
use Rattle.pick.proofs.pick_over.Goals as goal

pub returns-then-trace-size_sum : goal.returns-then-trace-size_sum
returns-then-trace-size_sum c =
    let a = c.args in
    let q = sym (pick_buffer_over (held a.t.now) a.trace.now a.plan.now (omega (arith, c.if-trace-size_sum.true, c.size_sum.ensures.is))) in
    record { answer = c.refused.ensures ∙ ap (λ (x : PickResult). x.answer) q; trace = ap (λ (x : PickResult). x.trace) q; plan = ap (λ (x : PickResult). x.plan) q }

pub returns-then-plan-variables : goal.returns-then-plan-variables
returns-then-plan-variables c =
    let a = c.args in
    let l : 1 + 5 * size_sum (held a.t.now) ≤ length a.trace.now = omega (arith, c.if-trace-size_sum.false, c.size_sum.ensures.is) in
    let q = sym (pick_length_over (held a.t.now) a.trace.now a.plan.now l (λ e. c.if-plan-variables.true (e ∙ sym c.variables.ensures))) in
    record { answer = c.refused-then-plan-variables.ensures ∙ ap (λ (x : PickResult). x.answer) q; trace = ap (λ (x : PickResult). x.trace) q; plan = ap (λ (x : PickResult). x.plan) q }

pub returns : goal.returns
returns c =
    let a = c.args in
    let l : 1 + 5 * size_sum (held a.t.now) ≤ length a.trace.now = omega (arith, c.if-trace-size_sum.false, c.size_sum.ensures.is) in
    let q = sym (pick_accepted_over (held a.t.now) a.trace.now a.plan.now l (c.if-plan-variables.false ∙ c.variables.ensures)) in
    let p = c.pick_sized.ensures in
    record { answer = p.answer ∙ ap (λ (x : PickResult). x.answer) q; trace = p.trace ∙ ap (λ (x : PickResult). x.trace) q; plan = p.plan ∙ ap (λ (x : PickResult). x.plan) q }
