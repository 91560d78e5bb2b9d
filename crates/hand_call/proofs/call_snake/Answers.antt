-- `hand_call::call_snake`. Assumes nothing.
use mathlib.Core.Path.{sym, ap, ◌∙◌}
use native.Mathlib.Omega.{arith}
use Rattle.problem.specs.Held.{held}
use Rattle.problem.specs.Masks.{state_of}
use Rattle.hand.specs.Hand.{call_answer}
use Rattle.hand_call.specs.Parts.{call_eliminated}
use Rattle.hand_call.proofs.Calls.{ready_none, ready_done}
use Rattle.hand_call.proofs.call_snake.Goals as goal

pub invariant_of-view : goal.invariant_of-view
invariant_of-view c = record { ready = c.requires.0 }

pub returns-in-Some : goal.returns-in-Some
returns-in-Some c =
    let a = c.args in
    let p = c.requires in
    let P = held a.t.now in
    let e = c.in-Some.ensures in
    c.eliminated.ensures
    ∙ ap (call_eliminated P (state_of a.st.masks) a.i) e.0
    ∙ sym (ap (call_answer P a.st a.i) (ready_done p.0 a.i p.2 p.3 (omega (arith, e.0, e.1))))

pub returns-in-None : goal.returns-in-None
returns-in-None c =
    let a = c.args in
    let p = c.requires in
    c.refused_call.ensures
    ∙ sym (ap (call_answer (held a.t.now) a.st a.i) (ready_none p.0 a.i p.2 p.3 (omega (arith, c.in-None.ensures))))
