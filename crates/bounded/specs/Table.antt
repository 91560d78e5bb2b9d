-- Lists given by their entries.
use Rattle.std.specs.Prelude.{List, [], ◌∷◌, ◌++◌, ℕ, zero, suc, drop}

module _ {A : Type 0} where
  -- f 0, f 1, .., f (n - 1)
  unfoldable pub tab : ℕ → (ℕ → A) → List A
  tab zero f = []
  tab (suc n) f = f zero ∷ tab n (λ k. f (suc k))

  -- d with its first k entries replaced by f's
  unfoldable pub filled : ℕ → (ℕ → A) → List A → List A
  filled k f d = tab k f ++ drop k d
