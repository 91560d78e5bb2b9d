use mathlib.Core.Bool.{not}
use Rattle.bounded.specs.Quantifiers.{imp}
use Rattle.bounded.specs.Mask.{bit}
use Rattle.bounded.proofs.Members.{Sought}
use Rattle.problem.specs.Held.{held}
use Rattle.problem.specs.Masks.{state_of}
use Rattle.snake_substitution.specs.Parts.{substitution_at}
use Rattle.snake_substitution.proofs.substitution_others.Given as goal

abbrev pub invariant-loop-left : goal.invariant-loop-left
invariant-loop-left l = Sought 32 (λ k. not (imp (bit l.rest k) (substitution_at (held l.view.table.now) (state_of l.view.state.now) l.i l.b l.a k))) l.initial.left l.left

abbrev pub decreases-loop-left : goal.decreases-loop-left
decreases-loop-left l = l.left
