-- `hand_call::call_fitting`: the refusals in their order. Assumes nothing.
use mathlib.Core.Path.{sym, ap, ◌∙◌}
use Rattle.problem.specs.Held.{held}
use Rattle.hand.specs.Hand.{call_answer}
use Rattle.hand_call.proofs.Calls.{active_below, ready_item, ready_emptied}
use Rattle.hand_call.proofs.call_fitting.Goals as goal

pub returns-then-not-named : goal.returns-then-not-named
returns-then-not-named c =
    let a = c.args in
    let p = c.requires in
    let off = sym p.1 ∙ c.if-not-named.true in
    c.refused_call.ensures ∙ sym (ap (call_answer (held a.t.now) a.st a.i) (ready_item p.0 a.i off))

pub returns-then-not-filled : goal.returns-then-not-filled
returns-then-not-filled c =
    let a = c.args in
    let p = c.requires in
    let on = sym p.1 ∙ c.if-not-named.false in
    let e = sym p.2 ∙ c.if-not-filled.true in
    c.refused_call-then-not-filled.ensures ∙ sym (ap (call_answer (held a.t.now) a.st a.i) (ready_emptied p.0 a.i on e))

pub call_snake-requires : goal.call_snake-requires
call_snake-requires c =
    let a = c.args in
    let p = c.requires in
    let on = sym p.1 ∙ c.if-not-named.false in
    (p.0, active_below p.0 a.i on, on, sym p.2 ∙ c.if-not-filled.false)
