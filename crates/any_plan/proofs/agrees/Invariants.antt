use Prim.Native.Nat.{◌≤◌}
use Rattle.any_plan.proofs.Laws.{AgreeBelow}
use Rattle.any_plan.proofs.agrees.Given as goal

abbrev pub invariant-loop-k : goal.invariant-loop-k
invariant-loop-k l = (l.k ≤ 32) × AgreeBelow l.lines l.on l.k
