use Prim.Native.Nat.{◌≤◌}
use Rattle.snake_substitution.proofs.Words.{Stored, others_of}
use Rattle.snake_substitution.proofs.all_goals.Given as goal

abbrev pub invariant-loop-b : goal.invariant-loop-b
invariant-loop-b l = (l.b ≤ 16) × Stored (others_of l.domain) l.initial.goals l.goals l.b
