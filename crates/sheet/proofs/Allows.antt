-- What a sheet allows, sentence by sentence, and that a block may bar everything. Assumes nothing.
use mathlib.Core.Path.{◌≡◌, refl, ap, ◌∙◌}
use mathlib.Core.Bool.{true}
use mathlib.Core.List.{List}
use Prim.Native.Nat.{ℕ, zero, suc, ◌+◌, ◌*◌, ◌^◌, ◌≤◌, ◌<◌}
use native.Mathlib.Omega.{arith}
use lib.ListN.{length}
use lib.Pow.{pow_pos, pow_mono}
use Rattle.bounded.specs.Mask.{bit}
use Rattle.bounded.proofs.Truth.{T_true, T_false}
use Rattle.buffers.specs.Bytes.{byte_at, number_at}
use Rattle.sheet.specs.Sheet.{Layout, size_at, row_width, row_bytes, in_order, block_of, next_block}
use Rattle.sheet.specs.Relation.{rows_of, row_in, rows_allow, listed, allowed_of}
use Rattle.std.specs.Prelude.{None, Option, Some}
use Rattle.sheet.proofs.Laws.{row_within, none_beyond, full_rows, block_next}
use Rattle.sheet.proofs.Accepted.{allowed_listed, pair_up}

-- That a setting which is not listed is allowed with nothing, and two settings of one item neither: `allowed_left`, `allowed_right` and
-- `allowed_same` of Accepted.antt.
module _ (L : Layout) (s : List ℕ) (i a j b : ℕ) (rises : i < j) (one : listed L s i a ≡ true) (other : listed L s j b ≡ true) where
  rows_tell : (x : Option ℕ) → rows_of L s i j ≡ x → allowed_of L s i a j b ≡ rows_allow L s x j a b
  rows_tell x e = allowed_listed L s i a j b one other ∙ pair_up L s i a j b rises ∙ ap (λ (y : Option ℕ). rows_allow L s y j a b) e

  -- "A pair with no block allows everything"
  pub unconstrained_allowed : rows_of L s i j ≡ None → allowed_of L s i a j b ≡ true
  unconstrained_allowed e = rows_tell None e

  -- "In a row, the bit worth 2^c is set when setting c of j is allowed"
  pub row_tells : (r : ℕ) → rows_of L s i j ≡ Some r → allowed_of L s i a j b ≡ bit (row_in L s j r a) b
  row_tells r e = rows_tell (Some r) e

-- ---- "A block that bars everything is accepted"

-- the number of bytes that are all 0
zeros : (s : List ℕ) (w p : ℕ) → ((q : ℕ) → p ≤ q → q < p + w → byte_at s q ≡ 0) → number_at s w p ≡ 0
zeros s zero p h = refl
zeros s (suc w) p h =
    let e = h p (omega arith) (omega arith) in
    let f = zeros s w (p + 1) (λ q l m. h q (omega arith) (omega arith)) in
    ap (λ (x : ℕ). x * 256 ^ w + number_at s w (p + 1)) e ∙ omega arith

-- a block in order whose rows are whole and bar everything is good
pub barred_good : (L : Layout) (s : List ℕ) (least p i j : ℕ) → in_order L s least i j ≡ true → p + 2 + row_bytes L s i j ≤ length s
    → 1 ≤ size_at s i → 1 ≤ size_at s j → ((q : ℕ) → p + 2 ≤ q → q < p + 2 + row_bytes L s i j → byte_at s q ≡ 0)
    → block_of L s least p i j ≡ next_block (32 * i + j + 1) (p + 2 + row_bytes L s i j)
barred_good L s least p i j o whole zi zj h =
    block_next L s least p i j o whole
    (none_beyond L s w (size_at s j) (size_at s i) (p + 2) (λ a l. let e = row a l in let q = pow_pos (size_at s j) in omega arith))
    (T_false _ (λ t. let e = row 0 zi in let f = full_rows L s w (size_at s j) (size_at s i) (p + 2) (T_true _ t) 0 zi in let q : 2 ≤ 2 ^ size_at s j = pow_mono {i = 1} zj in omega arith))
  where
    w : ℕ
    w = row_width L s j

    row : (a : ℕ) → a < size_at s i → number_at s (row_width L s j) (p + 2 + a * row_width L s j) ≡ 0
    row a l = zeros s (row_width L s j) (p + 2 + a * row_width L s j) (λ q m n. let x = row_within a (size_at s i) (row_width L s j) l in h q (omega arith) (omega arith))
