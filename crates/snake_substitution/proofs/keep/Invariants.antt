use Prim.Native.Nat.{◌≤◌}
use Rattle.snake_substitution.proofs.Words.{Stored, limited_word}
use Rattle.snake_substitution.proofs.keep.Given as goal

abbrev pub invariant-loop-b : goal.invariant-loop-b
invariant-loop-b l = (l.b ≤ 16) × Stored (limited_word l.set l.kept l.initial.goals) l.initial.goals l.goals l.b
