use Prim.Native.Nat.{◌≤◌}
use Rattle.any_plan.proofs.Laws.{ClosedBelow}
use Rattle.any_plan.proofs.first_open.Given as goal

abbrev pub invariant-loop-j : goal.invariant-loop-j
invariant-loop-j l = (l.j ≤ 32) × ClosedBelow l.on l.j
