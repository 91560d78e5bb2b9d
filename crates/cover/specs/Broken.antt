-- Why no value of a set covers another: where the cover test of each of them answers a value that spoils it.
use Rattle.std.specs.Prelude.{◌≡◌, ◌≢◌, ℕ, ◌^◌, ◌<◌, T, None}
use Rattle.bounded.specs.Mask.{bit}
use Rattle.problem.specs.Problem.{Problem, State, spoiler}
use Rattle.cover.specs.Words.{all_served_in}

module _ (P : Problem) (s : State) where
  -- each value of `good`, a set of values of i, that is not left does not cover w of j at a variable of `rest`, and that is one of `broken`
  pub record BrokenIn (rest good left broken i j w : ℕ) : Type 0 where
    pub small : broken < 2 ^ 32
    pub at : (u : ℕ) → T (bit good u) → (T (bit left u) → ⊥) → (l : ℕ) × (l < 32) × T (bit broken l) × T (bit rest l) × (spoiler P s i u j w l ≢ None)

  -- a value of `bad`, not one of `good`, for which each of `good` breaks; r has j and the variables where they do
  pub record UnservedBy (rest good bad j r : ℕ) : Type 0 where
    pub w : ℕ
    pub small : w < 16
    pub asked : T (bit bad w)
    pub other : T (bit good w) → ⊥
    pub own : T (bit r j)
    pub broken : BrokenIn rest good 0 r j j w

  -- 0 where each of `bad` that is not one of `good` is served by one of `good`, else why one is not
  pub record UnservedIn (rest good bad j r : ℕ) : Type 0 where
    pub served : r ≡ 0 → T (all_served_in P s rest good bad j)
    pub fails : r ≢ 0 → UnservedBy rest good bad j r
