-- The plan test as the code makes it: each entry by itself, then each two entries.
use Rattle.std.specs.Prelude.{Bool, true, false, not, ◌&&◌, List, ℕ, ◌≤◌, ◌<◌, T, eqb, length}
use Rattle.bounded.specs.Quantifiers.{imp, all_below}
use Rattle.problem.specs.Problem.{Problem, State}
use Rattle.problem.specs.PutBack.{plan_of}
use Rattle.problem.specs.Masks.{state_of}
use Rattle.problem.specs.declared.Masks.{Masks}

-- an active variable has a value of its domain, and one that is not active has 255
unfoldable pub entry_fits : State → ℕ → ℕ → Bool
entry_fits s i v = elim (s.active i) [ true ↦ s.live i v | false ↦ eqb v 255 ]

-- each entry of the plan fits
pub record Entries (m : Masks) (plan : List ℕ) : Type 0 where
  pub few : length plan ≤ 32
  pub each : (i : ℕ) → i < length plan → T (entry_fits (state_of m) i (plan_of plan i))

-- two active variables have an allowed pair
abbrev pub pair_fits : Problem → State → (ℕ → ℕ) → ℕ → ℕ → Bool
pair_fits P s p i j = imp (s.active i && (s.active j && not (eqb i j))) (P.allowed i (p i) j (p j))

unfoldable pub pairs_of : Problem → State → (ℕ → ℕ) → ℕ → Bool
pairs_of P s p i = all_below P.n (pair_fits P s p i)
