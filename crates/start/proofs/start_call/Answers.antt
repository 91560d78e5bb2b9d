-- `start::start_call`: the length of the buffer, then what the job answers. Assumes nothing.
use mathlib.Core.Path.{sym, ap, ◌∙◌}
use native.Mathlib.Omega.{arith}
use Rattle.hand.specs.Call.{HandCall}
use Rattle.hand.proofs.Call.{start_bad, start_says}
use Rattle.start.proofs.start_call.Goals as goal

pub returns-then-state-ne-STATE_LENGTH : goal.returns-then-state-ne-STATE_LENGTH
returns-then-state-ne-STATE_LENGTH c =
    let a = c.args in
    let e = sym (start_bad a.sheet.now a.state.now (λ l. omega arith)) in
    record { answer = c.bad_hand_state.ensures ∙ ap (λ (y : HandCall). y.answer) e; state = ap (λ (y : HandCall). y.state) e }

pub returns-in-Err : goal.returns-in-Err
returns-in-Err c =
    let a = c.args in
    let e = start_says a.sheet.now a.state.now (omega arith) _ c.start-first.ensures _ c.in-Err.is in
    record { answer = c.from.ensures ∙ ap (λ (y : HandCall). y.answer) e; state = ap (λ (y : HandCall). y.state) e }

pub returns-in-Ok : goal.returns-in-Ok
returns-in-Ok c =
    let a = c.args in
    let e = start_says a.sheet.now a.state.now (omega arith) _ c.start-first.ensures _ c.in-Ok.is in
    record { answer = ap (λ (y : HandCall). y.answer) e; state = c.put_state.ensures ∙ ap (λ (y : HandCall). y.state) e }
