use lib.ListN.{get_or}
use Rattle.bounded.proofs.Members.{Left}
use Rattle.problem.specs.Held.{held}
use Rattle.problem.specs.Masks.{state_of}
use Rattle.snake_substitution.specs.Parts.{Narrowed}
use Rattle.snake_substitution.proofs.Goals.{Past}
use Rattle.snake_substitution.proofs.narrow_at.Given as goal

abbrev pub invariant-loop-left : goal.invariant-loop-left
invariant-loop-left l = Left 16 (get_or l.view.state.now.domains l.k 0) l.left × Narrowed (held l.view.table.now) (state_of l.view.state.now) l.i (Past l.k l.left) l.initial.goals l.goals l.rests

abbrev pub decreases-loop-left : goal.decreases-loop-left
decreases-loop-left l = l.left
