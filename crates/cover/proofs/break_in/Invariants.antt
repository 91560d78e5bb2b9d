use Rattle.std.specs.Prelude.{Option, ℕ}
use mathlib.Core.Bool.{Bool, not}
use Rattle.bounded.proofs.Members.{Sought}
use Rattle.problem.specs.Problem.{unspoilt}
use Rattle.problem.specs.Held.{held}
use Rattle.problem.specs.Masks.{state_of}
use Rattle.cover.specs.Words.{spoiler_in}
use Rattle.cover.proofs.break_in.Given as goal

-- the answer of a turn, read as yes or no
abbrev pub asked : Option ℕ → Bool
asked x = not (unspoilt x)

abbrev pub invariant-loop-left : goal.invariant-loop-left
invariant-loop-left w = Sought 32 (λ l. asked (spoiler_in (held w.view.table.now) (state_of w.view.state.now) w.rest w.i w.a w.j w.b l)) w.initial.left w.left

abbrev pub decreases-loop-left : goal.decreases-loop-left
decreases-loop-left l = l.left
