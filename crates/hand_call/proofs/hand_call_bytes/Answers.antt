-- `hand_call::hand_call_bytes`: the length of the buffer, then what the job answers; its number fits. Assumes nothing.
use mathlib.Core.Path.{sym, ap, ◌∙◌}
use native.Mathlib.Omega.{arith}
use Rattle.hand.specs.Call.{HandCall}
use Rattle.hand.proofs.Call.{call_small, hand_bad, hand_reads, hand_says}
use Rattle.hand_call.proofs.hand_call_bytes.Goals as goal

pub returns-then-state-ne-STATE_LENGTH : goal.returns-then-state-ne-STATE_LENGTH
returns-then-state-ne-STATE_LENGTH c =
    let a = c.args in
    let e = sym (hand_bad a.sheet.now a.state.now a.item (λ l. omega arith)) in
    record { answer = c.bad_hand_state.ensures ∙ ap (λ (y : HandCall). y.answer) e; state = ap (λ (y : HandCall). y.state) e }

pub overflow_mul-result : goal.overflow_mul-result
overflow_mul-result c = let l = call_small _ _ _ _ c.hand_call-called.ensures _ c.in-Ok.is in omega arith

pub returns-in-Err : goal.returns-in-Err
returns-in-Err c =
    let a = c.args in
    let x = hand_reads a.sheet.now a.state.now a.item _ _ c.read_state-masks.ensures c.hand_call-called.ensures in
    let e = hand_says a.sheet.now a.state.now a.item (omega arith) _ x _ c.in-Err.is in
    record { answer = c.from.ensures ∙ ap (λ (y : HandCall). y.answer) e; state = ap (λ (y : HandCall). y.state) e }

pub returns-in-Ok : goal.returns-in-Ok
returns-in-Ok c =
    let a = c.args in
    let x = hand_reads a.sheet.now a.state.now a.item _ _ c.read_state-masks.ensures c.hand_call-called.ensures in
    let e = hand_says a.sheet.now a.state.now a.item (omega arith) _ x _ c.in-Ok.is in
    record { answer = ap (λ (y : HandCall). y.answer) e; state = c.put_state.ensures ∙ ap (λ (y : HandCall). y.state) e }
