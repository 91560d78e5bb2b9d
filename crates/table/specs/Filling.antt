-- A table filled place by place, x = 32 i + j from 0 on: `has` tells which two variables i < j below n have a block, and `says` gives its rows.
use Rattle.std.specs.Prelude.{◌≡◌, Bool, true, false, cond, ◌&&◌, List, ℕ, ◌+◌, ◌*◌, ◌/◌, ◌%◌, ◌≤◌, ◌<◌, ltb, get_or}
use Rattle.bounded.specs.Mask.{bit}
use Rattle.problem.specs.Held.{Located}
use Rattle.problem.specs.Filling.{Shows, Entered}

-- place x is that of a block: two variables i < j below n that have one
unfoldable pub block_here : (has : ℕ → ℕ → Bool) (n x : ℕ) → Bool
block_here has n x = ltb (x / 32) (x % 32) && (ltb (x % 32) n && has (x / 32) (x % 32))

-- what a table says of the pair i < j: as its rows say where it has a block, and everything is allowed where it has none
abbrev pub pair_says : (has : ℕ → ℕ → Bool) (says : ℕ → ℕ → List ℕ) (i j a b : ℕ) → Bool
pair_says has says i j a b = cond (has i j) (bit (get_or (says i j) a 0) b) true

-- the block at place x, if there is one, is entered: t becomes u
pub record PlaceEntered (has : ℕ → ℕ → Bool) (says : ℕ → ℕ → List ℕ) (n x : ℕ) (t u : List ℕ) : Type 0 where
  pub block : block_here has n x ≡ true → Entered t (x / 32) (x % 32) (says (x / 32) (x % 32)) u
  pub none : block_here has n x ≡ false → u ≡ t

-- the blocks at places below x are entered, and none from x on: t became u
pub record EnteredTo (has : ℕ → ℕ → Bool) (says : ℕ → ℕ → List ℕ) (n x : ℕ) (t u : List ℕ) : Type 0 where
  pub located : Located u
  pub sizes : (q : ℕ) → q < 32 → get_or u q 0 ≡ get_or t q 0
  pub below : (i j : ℕ) → i < j → j < n → 32 * i + j < x → Shows u i j (pair_says has says i j)
  pub above : (i j : ℕ) → i < j → j < 32 → x ≤ 32 * i + j → Shows u i j (λ a b. true)
