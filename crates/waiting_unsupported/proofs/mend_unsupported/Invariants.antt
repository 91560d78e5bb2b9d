use Rattle.bounded.proofs.Members.{Left}
use Rattle.problem.specs.Held.{held}
use Rattle.problem.specs.Masks.{state_of}
use Rattle.waiting_unsupported.proofs.Words.{Mending}
use Rattle.waiting_unsupported.proofs.mend_unsupported.Given as goal

abbrev pub invariant-loop-left : goal.invariant-loop-left
invariant-loop-left l = Left 32 l.initial.left l.left × Mending (held l.view.table.now) (state_of l.view.state.now) l.l l.c l.left l.initial.words l.words

abbrev pub decreases-loop-left : goal.decreases-loop-left
decreases-loop-left l = l.left
