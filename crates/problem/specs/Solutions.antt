-- How many solutions a state has: only for small problems, and only for the worked examples. No job counts.
use Rattle.std.specs.Prelude.{Bool, true, false, ℕ, zero, suc, ltb}
use Rattle.bounded.specs.Quantifiers.{sum_to, one_if}
use Rattle.problem.specs.Problem.{Problem, State}
use Rattle.problem.specs.PutBack.{solves, put}

-- the solutions that agree with p at the variables not below k
unfoldable pub solutions_from : Problem → State → ℕ → (ℕ → ℕ) → ℕ
solutions_from P s zero p = one_if (solves P s p)
solutions_from P s (suc k) p = elim (s.active k) [ true ↦ sum_to (P.size k) (λ v. solutions_from P s k (put k v p)) | false ↦ solutions_from P s k p ]

unfoldable pub solution_count : Problem → State → ℕ
solution_count P s = solutions_from P s P.n (λ _. 255)

unfoldable pub solvable : Problem → State → Bool
solvable P s = ltb 0 (solution_count P s)
