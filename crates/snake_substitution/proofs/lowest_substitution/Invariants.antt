use Rattle.std.specs.Prelude.{None}
use Prim.Native.Nat.{◌≤◌}
use mathlib.Core.Path.{◌≡◌}
use lib.ListN.{get_or}
use Rattle.problem.specs.Run.{first}
use Rattle.snake_substitution.specs.Parts.{lowest_goal}
use Rattle.snake_substitution.proofs.lowest_substitution.Given as goal

abbrev pub invariant-loop-b : goal.invariant-loop-b
invariant-loop-b l = (l.b ≤ 16) × (first l.b (λ k. lowest_goal l.i k (get_or l.goals k 0)) ≡ None)
