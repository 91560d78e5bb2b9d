-- What the parts of the reader say to one another.
use Rattle.std.specs.Prelude.{◌≡◌, cond, List, ℕ, ◌+◌, ◌≤◌, ◌<◌, ltb, length, Option}
use Rattle.buffers.specs.Bytes.{byte_at}
use Rattle.sheet.specs.Sheet.{Layout, variables_of, row_bytes}
use Rattle.sheet.specs.Relation.{rows_of}

-- r is the width that a layout gives a row; a row of this width can be read
pub record Width (w r : ℕ) : Type 0 where
  pub is : r ≡ w
  pub some : 1 ≤ r
  pub few : r ≤ 2

module _ (L : Layout) (s : List ℕ) where
  -- a whole block of two items stands at p
  pub record BlockAt (p : ℕ) : Type 0 where
    pub rises : byte_at s p < byte_at s (p + 1)
    pub ends : byte_at s (p + 1) < variables_of s
    pub within : p + 2 + row_bytes L s (byte_at s p) (byte_at s (p + 1)) ≤ length s

  -- the rows of two items, whichever way round they are asked for: the lower item has them
  unfoldable pub pair_rows : (i j : ℕ) → Option ℕ
  pair_rows i j = cond (ltb i j) (rows_of L s i j) (rows_of L s j i)
