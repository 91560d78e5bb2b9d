-- `replay::check_trace`. Assumes nothing.
use mathlib.Core.Path.{sym, ap, ◌∙◌}
use Rattle.problem.specs.Problem.{State, full}
use Rattle.problem.specs.Held.{held}
use Rattle.replay.specs.Walk.{checked_from, walk_ended}
use Rattle.held.proofs.First.{ready_full}
use Rattle.replay.proofs.Walk.{no_front, wrong_front, right_front}
use Rattle.replay.proofs.check_trace.Goals as goal

pub returns-then-trace-eq0 : goal.returns-then-trace-eq0
returns-then-trace-eq0 c = let a = c.args in let P = held a.t.now in c.fault.ensures ∙ ap (walk_ended P (full P)) (sym (no_front P a.trace.now c.if-trace-eq0.true))

pub returns-then-trace-ne1 : goal.returns-then-trace-ne1
returns-then-trace-ne1 c = let a = c.args in let P = held a.t.now in c.fault-then-trace-ne1.ensures ∙ ap (walk_ended P (full P)) (sym (wrong_front P a.trace.now c.if-trace-eq0.false c.if-trace-ne1.true))

pub invariant_of-view : goal.invariant_of-view
invariant_of-view c = let p = c.requires in record { ready = (ready_full p.0 _ p.1).0 }

pub returns : goal.returns
returns c = let a = c.args in let p = c.requires in let P = held a.t.now in let e = (ready_full p.0 a.first p.1).1 in c.check_records.ensures ∙ ap (λ (z : State). walk_ended P z (checked_from P a.trace.now z 0 1)) e ∙ ap (walk_ended P (full P)) (sym (right_front P a.trace.now c.if-trace-eq0.false c.if-trace-ne1.false))
