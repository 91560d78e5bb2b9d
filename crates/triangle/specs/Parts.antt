-- What trying a triangle, the format's fold, comes to.
use Rattle.std.specs.Prelude.{◌≡◌, ◌⊎◌, ℕ, ◌<◌, T, Option, Some, None}
use Rattle.bounded.specs.Mask.{bit}
use Rattle.problem.specs.Problem.{Problem, State}
use Rattle.problem.specs.Sentences.{Triangle}
use Rattle.rests.specs.Rests.{Rests}
use Rattle.triangle.specs.declared.Unserved.{Unserved}

module _ (P : Problem) (s : State) where
  -- none where the rule holds, else a value of j for which nothing of i serves; its failure rests on that value and on variables of a word
  abbrev pub TriangleTried : (i j : ℕ) → Option Unserved → Type 0
  TriangleTried i j None = Triangle P s i j
  TriangleTried i j (Some u) = (u.value < 16) × Rests P s (λ q. Triangle P q i j) (λ l x. T (bit u.rests l) ⊎ ((l ≡ j) × (x ≡ u.value)))
