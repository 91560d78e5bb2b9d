use Prim.Native.Nat.{◌≤◌}
use Rattle.any_plan.proofs.Laws.{MetTo, EmptiedTo}
use Rattle.any_plan.proofs.meet.Given as goal

abbrev pub invariant-loop-j : goal.invariant-loop-j
invariant-loop-j l = (l.j ≤ 32) × MetTo l.lines l.initial.on l.p l.j l.on × EmptiedTo l.lines l.initial.on l.p l.j l.dead
