-- Supports as the code finds them: a union of rows, and what is left of a domain after one sweep.
use Rattle.std.specs.Prelude.{Bool, ◌&&◌, ℕ}
use Rattle.bounded.specs.Quantifiers.{any_below}
use Rattle.bounded.specs.Mask.{bit, mask_of}
use Rattle.problem.specs.Problem.{Problem, State, max_values}
use Rattle.problem.specs.Hand.{prune}

module _ (P : Problem) where
  -- value c of j has the support v at i, where i has the set `domain` of values
  abbrev pub supported_by : (domain i j c v : ℕ) → Bool
  supported_by domain i j c v = bit domain v && P.allowed i v j c

  -- the values of j with a support there
  unfoldable pub partners_of : (domain i j : ℕ) → ℕ
  partners_of domain i j = mask_of max_values (λ c. any_below max_values (supported_by domain i j c))

  -- the domain of i after one sweep
  unfoldable pub domain_left : State → ℕ → ℕ
  domain_left s i = mask_of max_values ((prune P s).live i)
