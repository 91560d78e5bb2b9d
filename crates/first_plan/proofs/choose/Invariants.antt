use Rattle.bounded.proofs.Members.{Left}
use Rattle.first_plan.proofs.Choices.{Passed}
use Rattle.first_plan.proofs.choose.Given as goal

abbrev pub invariant-loop-rest : goal.invariant-loop-rest
invariant-loop-rest l = Passed l.t l.m l.i l.v l.rest l.on × Left 32 l.initial.rest l.rest

abbrev pub decreases-loop-rest : goal.decreases-loop-rest
decreases-loop-rest l = l.rest
