use mathlib.Core.Bool.{not}
use Rattle.bounded.specs.Quantifiers.{imp}
use Rattle.bounded.specs.Mask.{bit}
use Rattle.bounded.proofs.Members.{Sought}
use Rattle.problem.specs.Held.{held}
use Rattle.problem.specs.Masks.{state_of}
use Rattle.snake.specs.Parts.{snake_at}
use Rattle.snake.proofs.snake_rests.Given as goal

abbrev pub invariant-loop-left : goal.invariant-loop-left
invariant-loop-left l = Sought 32 (λ j. not (imp (bit l.rest j) (snake_at (held l.view.table.now) (state_of l.view.state.now) l.i l.v j))) l.initial.left l.left

abbrev pub decreases-loop-left : goal.decreases-loop-left
decreases-loop-left l = l.left
