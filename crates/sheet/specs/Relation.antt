-- Which settings of two items a sheet allows together, and so which problem a sheet is.
use Rattle.std.specs.Prelude.{◌≡◌, Bool, cond, ◌&&◌, List, ℕ, zero, suc, ◌+◌, ◌*◌, ltb, eqb, None, Option, Some}
use Rattle.std.proofs.Math.Path.{refl}
use Rattle.std.proofs.Math.Bool.{true, false, and_comm}
use Rattle.bounded.specs.Mask.{bit}
use Rattle.problem.specs.Problem.{Problem, both_ways, both_ways_symmetric}
use Rattle.buffers.specs.Bytes.{byte_at, number_at}
use Rattle.sheet.specs.Sheet.{Layout, variables_of, blocks_of, size_at, row_width, row_bytes}

module _ (L : Layout) (s : List ℕ) where
  -- where the rows of the block of i and j start, among k blocks from p
  unfoldable pub rows_from : (i j k p : ℕ) → Option ℕ
  rows_from i j zero p = None
  rows_from i j (suc k) p =
      elim (eqb (byte_at s p) i && eqb (byte_at s (p + 1)) j) [ true ↦ Some (p + 2) | false ↦ rows_from i j k (p + 2 + row_bytes L s (byte_at s p) (byte_at s (p + 1))) ]

  unfoldable pub rows_of : (i j : ℕ) → Option ℕ
  rows_of i j = rows_from i j (blocks_of s) (8 + variables_of s)

  -- the row of setting a of i among those that start at r, of pairs with j
  abbrev pub row_in : (j r a : ℕ) → ℕ
  row_in j r a = number_at s (row_width L s j) (r + a * row_width L s j)

  -- "In a row, the bit worth 2^c is set when setting c of j is allowed"; "A pair with no block allows everything"
  abbrev pub rows_allow : Option ℕ → (j a c : ℕ) → Bool
  rows_allow (Some r) j a c = bit (row_in j r a) c
  rows_allow None j a c = true

  -- the lower item's row tells, whichever way round the pair is asked for; an item makes no pair with itself
  unfoldable pub pair_allowed : (i a j b : ℕ) → Bool
  pair_allowed = both_ways (λ i a j b. rows_allow (rows_of i j) j a b)

  pair_symmetric : (i a j b : ℕ) → pair_allowed i a j b ≡ pair_allowed j b i a
  unfolding pair_allowed
  pair_symmetric = both_ways_symmetric (λ i a j b. rows_allow (rows_of i j) j a b)

  -- the settings that the sheet lists: a is one of i
  unfoldable pub size_of : ℕ → ℕ
  size_of i = cond (ltb i (variables_of s)) (size_at s i) 0

  unfoldable pub listed : ℕ → ℕ → Bool
  listed i a = ltb i (variables_of s) && ltb a (size_of i)

  -- only settings that the sheet lists are allowed with one another
  unfoldable pub allowed_of : (i a j b : ℕ) → Bool
  allowed_of i a j b = elim (listed i a && listed j b) [ true ↦ pair_allowed i a j b | false ↦ false ]

  pub allowed_symmetric : (i a j b : ℕ) → allowed_of i a j b ≡ allowed_of j b i a
  unfolding allowed_of
  allowed_symmetric i a j b = go (listed i a && listed j b) refl
    where
      go : (x : Bool) → (listed i a && listed j b) ≡ x → allowed_of i a j b ≡ allowed_of j b i a
      go true e = rw (and_comm (listed j b) (listed i a), e, allowed_of) (pair_symmetric i a j b)
      go false e = rw (and_comm (listed j b) (listed i a), e, allowed_of)

  -- the problem that a sheet is
  unfoldable pub problem_of : Problem
  problem_of = record { n = variables_of s; size = size_of; allowed = allowed_of; symmetric = allowed_symmetric }
