-- What trying to substitute for a value of a variable, the format's cover, comes to.
use Rattle.std.specs.Prelude.{◌≡◌, ◌↔◌, ℕ, T}
use Rattle.bounded.specs.Mask.{bit}
use Rattle.problem.specs.Problem.{Problem, State}
use Rattle.problem.specs.Sentences.{Neighbourhood}
use Rattle.rests.specs.Rests.{Rests, Of}

module _ (P : Problem) (s : State) where
  -- `left` has the values of i that substitute for b; where it has none, that rests on the variables of `rests`
  pub record NeighbourhoodTried (i b left rests : ℕ) : Type 0 where
    pub holds : (a : ℕ) → T (bit left a) ↔ Neighbourhood P s i b a
    pub fails : left ≡ 0 → Rests P s (λ q. (a : ℕ) × Neighbourhood P q i b a) (Of rests)
