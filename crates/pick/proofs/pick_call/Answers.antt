-- `pick::pick_call`: the length of the buffer, then what the job answers; its numbers fit. Assumes nothing.
use mathlib.Core.Path.{sym, ap, ◌∙◌}
use native.Mathlib.Omega.{arith}
use Rattle.pick.specs.Call.{PickCall}
use Rattle.pick.proofs.Call.{pick_bad, pick_says, pick_fits}
use Rattle.pick.proofs.pick_call.Goals as goal

pub returns-then-state-ne-STATE_LENGTH : goal.returns-then-state-ne-STATE_LENGTH
returns-then-state-ne-STATE_LENGTH c =
    let a = c.args in
    let e = sym (pick_bad a.sheet.now a.trace.now a.plan.now a.state.now (λ l. omega arith)) in
    record { answer = c.bad_state.ensures ∙ ap (λ (y : PickCall). y.answer) e; trace = ap (λ (y : PickCall). y.trace) e; plan = ap (λ (y : PickCall). y.plan) e; state = ap (λ (y : PickCall). y.state) e }

pub picked_number-requires : goal.picked_number-requires
picked_number-requires c =
    let a = c.args in
    rw c.pick-done.ensures.answer (pick_fits a.sheet.now a.trace.now a.plan.now a.state.now)

pub returns : goal.returns
returns c =
    let a = c.args in
    let x = c.pick-done.ensures in
    let e = pick_says a.sheet.now a.trace.now a.plan.now a.state.now (omega arith) _ _ _ x.answer x.trace x.plan in
    record { answer = c.picked_number.ensures ∙ ap (λ (y : PickCall). y.answer) e; trace = ap (λ (y : PickCall). y.trace) e; plan = ap (λ (y : PickCall). y.plan) e; state = c.put_picked_state.ensures ∙ ap (λ (y : PickCall). y.state) e }
