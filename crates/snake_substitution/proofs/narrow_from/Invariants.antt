use Rattle.bounded.proofs.Members.{Left}
use Rattle.problem.specs.Held.{held}
use Rattle.problem.specs.Masks.{state_of}
use Rattle.snake_substitution.specs.Parts.{Narrowed}
use Rattle.snake_substitution.proofs.Goals.{Away}
use Rattle.snake_substitution.proofs.narrow_from.Given as goal

abbrev pub invariant-loop-left : goal.invariant-loop-left
invariant-loop-left l = Left 32 l.initial.left l.left × Narrowed (held l.view.table.now) (state_of l.view.state.now) l.i (Away l.i l.left) l.initial.goals l.goals l.rests

abbrev pub decreases-loop-left : goal.decreases-loop-left
decreases-loop-left l = l.left
