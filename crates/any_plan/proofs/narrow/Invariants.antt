use Prim.Native.Nat.{◌<◌, ◌^◌}
use Rattle.any_plan.specs.Steps.{Pruned}
use Rattle.any_plan.proofs.narrow.Given as goal

abbrev pub invariant-loop-todo : goal.invariant-loop-todo
invariant-loop-todo l = (l.todo < 2 ^ 32) × Pruned l.lines l.initial.on l.on

abbrev pub decreases-loop-todo : goal.decreases-loop-todo
decreases-loop-todo l = l.turns
