use Rattle.bounded.proofs.Members.{Left}
use Rattle.problem.specs.Masks.{state_of}
use Rattle.first_plan.specs.Steps.{Pruned}
use Rattle.first_plan.proofs.spread.Given as goal

abbrev pub invariant-loop-rest : goal.invariant-loop-rest
invariant-loop-rest l = Left 32 l.initial.rest l.rest × Pruned l.t (state_of l.initial.m) l.m

abbrev pub decreases-loop-rest : goal.decreases-loop-rest
decreases-loop-rest l = l.rest
