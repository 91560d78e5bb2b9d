use Rattle.bounded.proofs.Members.{Left}
use Rattle.problem.specs.Held.{held}
use Rattle.problem.specs.Masks.{state_of}
use Rattle.waiting_unsupported.proofs.Words.{Seen}
use Rattle.waiting_unsupported.proofs.unsupported_of.Given as goal

abbrev pub invariant-loop-rest : goal.invariant-loop-rest
invariant-loop-rest l = Left 32 l.initial.rest l.rest × Seen (held l.view.table.now) (state_of l.view.state.now) l.i l.rest l.x

abbrev pub decreases-loop-rest : goal.decreases-loop-rest
decreases-loop-rest l = l.rest
