-- Eliminating a variable as the code does it.
use Rattle.std.specs.Prelude.{ℕ}
use Rattle.bounded.specs.Mask.{mask_of}
use Rattle.problem.specs.Problem.{Problem, State, eliminate}

module _ (P : Problem) where
  -- the domain of j after i is eliminated
  unfoldable pub domain_after : (s : State) (i j : ℕ) → ℕ
  domain_after s i j = mask_of 16 ((eliminate P s i).live j)
