use Prim.Native.Nat.{◌≤◌}
use lib.ListN.{get_or}
use Rattle.snake_substitution.proofs.Words.{Gathered}
use Rattle.snake_substitution.proofs.some_goal.Given as goal

abbrev pub invariant-loop-b : goal.invariant-loop-b
invariant-loop-b l = (l.b ≤ 16) × Gathered (λ k. get_or l.goals k 0) l.b l.all
