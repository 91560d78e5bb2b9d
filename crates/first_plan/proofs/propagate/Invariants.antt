use Rattle.bounded.proofs.Members.{Left}
use Rattle.problem.specs.Masks.{state_of}
use Rattle.first_plan.specs.Steps.{Pruned}
use Rattle.first_plan.proofs.propagate.Given as goal

abbrev pub invariant-loop-todo : goal.invariant-loop-todo
invariant-loop-todo l = Left 32 l.m.active l.todo × Pruned l.t (state_of l.m) l.left

abbrev pub decreases-loop-todo : goal.decreases-loop-todo
decreases-loop-todo l = l.turns
