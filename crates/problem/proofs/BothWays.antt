-- A test of pairs, asked either way round: which side tells. Assumes nothing.
use mathlib.Core.Path.{◌≡◌}
use mathlib.Core.Bool.{Bool, false}
use Prim.Native.Nat.{ℕ, ◌≤◌, ◌<◌}
use native.Mathlib.Omega.{arith}
use borrow.Author.Tests.{lt-ltb, le-ltb}
use Rattle.problem.specs.Problem.{both_ways}

module _ (f : ℕ → ℕ → ℕ → ℕ → Bool) (i a j b : ℕ) where
  pub both_up : i < j → both_ways f i a j b ≡ f i a j b
  unfolding both_ways
  both_up h = simp (lt-ltb i j h)

  pub both_down : j < i → both_ways f i a j b ≡ f j b i a
  unfolding both_ways
  both_down h = let k : j ≤ i = omega arith in simp (le-ltb i j k, lt-ltb j i h)

  pub both_same : i ≡ j → both_ways f i a j b ≡ false
  unfolding both_ways
  both_same e = simp (le-ltb i j (omega arith), le-ltb j i (omega arith))
