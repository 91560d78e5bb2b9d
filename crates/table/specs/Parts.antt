-- What the parts of filling a table say to one another.
use Rattle.std.specs.Prelude.{◌≡◌, List, ℕ, ◌+◌, ◌%◌, ◌≤◌, ◌<◌, length, get_or, set}
use Rattle.bounded.specs.Mask.{bit, mask_of, without}
use Rattle.bounded.specs.Table.{tab}
use Rattle.problem.specs.Held.{far_start, table_length, far_at, Located}

-- a block of 16 rows turned: turned row b has a where row a has b
unfoldable pub transposed_row : List ℕ → ℕ → ℕ
transposed_row rows b = mask_of 16 (λ a. bit (get_or rows a 0) b)

unfoldable pub transposed_rows : List ℕ → List ℕ
transposed_rows rows = tab 16 (transposed_row rows)

-- a table in which j is no longer one that has no block with i
unfoldable pub cleared : List ℕ → (i j : ℕ) → List ℕ
cleared t i j = set t (far_at i j) (without 16 (get_or t (far_at i j) 0) (j % 16))

-- u is t with n entries from p on replaced by f's
pub record Wrote (n : ℕ) (t u : List ℕ) (p : ℕ) (f : ℕ → ℕ) : Type 0 where
  pub long : length u ≡ length t
  pub there : (a : ℕ) → a < n → get_or u (p + a) 0 ≡ f a
  pub below : (k : ℕ) → k < p → get_or u k 0 ≡ get_or t k 0
  pub above : (k : ℕ) → p + n ≤ k → get_or u k 0 ≡ get_or t k 0

-- u is t with the list of places in it
pub record HasPlaces (t u : List ℕ) : Type 0 where
  pub located : Located u
  pub sizes : (k : ℕ) → k < 32 → get_or u k 0 ≡ get_or t k 0
  pub rest : (k : ℕ) → far_start ≤ k → get_or u k 0 ≡ get_or t k 0

-- a table before it is filled: every bit of every entry is set
pub record Blank (t : List ℕ) : Type 0 where
  pub long : length t ≡ table_length
  pub each : (k : ℕ) → k < table_length → get_or t k 0 ≡ 65535
