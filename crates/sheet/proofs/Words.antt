-- The row of a setting towards another item: what the bytes of an accepted sheet say of it. Assumes nothing.
use mathlib.Core.Path.{◌≡◌, refl, sym, ap, ◌∙◌}
use mathlib.Core.Bool.{true}
use mathlib.Core.Logic.{◌⊎◌, inl, inr, ⊎_elim, ◌≢◌}
use mathlib.Core.List.{List}
use Prim.Native.Nat.{ℕ, ◌+◌, ◌-◌, ◌*◌, ◌^◌, ◌≤◌, ◌<◌}
use native.Mathlib.Nat.{mul_comm}
use native.Mathlib.Omega.{arith}
use lib.Pow.{pow_mono, pow_pos}
use borrow.Author.Tests.{lt-ltb, le-ltb}
use Rattle.bounded.specs.Mask.{bit, mask_of}
use Rattle.bounded.proofs.Truth.{lt_dec}
use Rattle.bounded.proofs.Mask.{mask_lt, bit_mask, bit_high, full_bit}
use Rattle.problem.specs.Problem.{Problem}
use Rattle.problem.specs.Held.{row_word}
use Rattle.problem.proofs.HeldTable.{row_only, row_word_lem}
use Rattle.buffers.specs.Bytes.{number_at}
use Rattle.sheet.specs.Sheet.{Layout, layout, version_of, variables_of, size_at, row_width, Keeps}
use Rattle.sheet.specs.Relation.{rows_from, rows_of, row_in, rows_allow, pair_allowed, listed, problem_of}
use Rattle.sheet.specs.Parts.{pair_rows}
use Rattle.sheet.specs.Row.{word_at, block_row, own_row, turned_row, sheet_row, sample_sheet, sample_shorter, sample_mixed, AllRows, sample_rows, mixed_rows}
use Rattle.std.specs.Prelude.{None, Option, Some}
use Rattle.sheet.proofs.Accepted.{row_widths, facts, found, size_in, listed_in, listed_of, listed_out, allowed_listed, allowed_right, pair_up, pair_down, problem_bounded}

module _ (L : Layout) (s : List ℕ) where
  pub rows_up : (i j : ℕ) → i < j → pair_rows L s i j ≡ rows_of L s i j
  unfolding pair_rows
  rows_up i j h = simp (lt-ltb i j h)

  pub rows_down : (i j : ℕ) → j ≤ i → pair_rows L s i j ≡ rows_of L s j i
  unfolding pair_rows
  rows_down i j h = simp (le-ltb i j h)

  module _ (y : Keeps L s) (i a j : ℕ) (on : listed L s i a ≡ true) (other : j < variables_of s) where
    -- what is right at the settings of j, and has no bit beyond them, is the row
    row_is : (x : ℕ) → x < 2 ^ size_at s j → ((b : ℕ) → b < size_at s j → bit x b ≡ pair_allowed L s i a j b) → x ≡ row_word (problem_of L s) i j a
    unfolding problem_of
    row_is x l h =
        let z = ((facts L s y).front.sizes j other).1 in
        let p : 2 ^ size_at s j ≤ 2 ^ 16 = pow_mono z in
        row_only (problem_of L s) i j a x (omega arith)
        (λ b k.
        ⊎_elim
        (λ m. h b m ∙ sym (allowed_listed L s i a j b on (listed_of L s j b other m)))
        (λ m.
        let e = size_in L s j other in
        bit_high (size_at s j) x b l m ∙ sym (allowed_right L s i a j b (listed_out L s j b (omega arith))))
        (lt_dec b (size_at s j)))

    -- "A pair with no block allows everything"
    pub row_free : i ≢ j → pair_rows L s i j ≡ None → 2 ^ size_at s j - 1 ≡ row_word (problem_of L s) i j a
    row_free d e =
        let q = pow_pos (size_at s j) in
        row_is (2 ^ size_at s j - 1) (omega arith)
        (λ b l. full_bit (size_at s j) b l ∙ ⊎_elim
        (λ (m : i < j). sym (pair_up L s i a j b m ∙ ap (λ (r : Option ℕ). rows_allow L s r j a b) (sym (rows_up i j m) ∙ e)))
        (λ (m : j ≤ i). sym (pair_down L s i a j b (omega arith) ∙ ap (λ (r : Option ℕ). rows_allow L s r i b a) (sym (rows_down i j m) ∙ e)))
        (lt_dec i j))

    -- the lower item's row
    pub row_up : (r : ℕ) → i < j → rows_of L s i j ≡ Some r → row_in L s j r a ≡ row_word (problem_of L s) i j a
    row_up r h e =
        row_is (row_in L s j r a) ((found L s i j r y e).low a (listed_in L s i a on).1)
        (λ b l. sym (pair_up L s i a j b h ∙ ap (λ (q : Option ℕ). rows_allow L s q j a b) e))

    -- and the row turned, from the lower item's rows
    pub row_down : (r : ℕ) → j < i → rows_of L s j i ≡ Some r → mask_of (size_at s j) (λ b. bit (row_in L s i r b) a) ≡ row_word (problem_of L s) i j a
    row_down r h e =
        row_is _ (mask_lt (size_at s j) (λ b. bit (row_in L s i r b) a))
        (λ b l. bit_mask (size_at s j) (λ b. bit (row_in L s i r b) a) b l ∙ sym (pair_down L s i a j b h ∙ ap (λ (q : Option ℕ). rows_allow L s q i b a) e))

-- ---- down to the bytes

-- a row of one byte, or two, is the number that stands there
word_number : (s : List ℕ) (w p : ℕ) → (w ≡ 1) ⊎ (w ≡ 2) → number_at s w p ≡ word_at s w p
word_number s w p (inl e) = rw e (omega arith)
word_number s w p (inr e) = rw e (omega arith)

-- a row of a block, read in one go
row_word_at : (s : List ℕ) (j r a : ℕ) → row_in layout s j r a ≡ block_row s j r a
row_word_at s j r a =
    let w = row_width layout s j in
    word_number s w (r + a * w) (row_widths (version_of s) (size_at s j)) ∙ ap (λ (x : ℕ). word_at s w (r + x)) (mul_comm a w)

-- setting a of item i, and another item j
module _ (s : List ℕ) (y : Keeps layout s) (i j a : ℕ) (one : i < variables_of s) (value : a < size_at s i) (other : j < variables_of s) (apart : j ≢ i) where
  abbrev P : Problem
  P = problem_of layout s

  on : listed layout s i a ≡ true
  on = listed_of layout s i a one value

  own : (x : Option ℕ) → rows_of layout s i j ≡ x → i < j → row_word P i j a ≡ own_row s x j a
  own (Some r) e h = sym (row_up layout s y i a j on other r h e) ∙ row_word_at s j r a
  own None e h = sym (row_free layout s y i a j on other (λ q. apart (sym q)) (rows_up layout s i j h ∙ e))

  turned : (x : Option ℕ) → rows_of layout s j i ≡ x → j < i → row_word P i j a ≡ turned_row s x i j a
  turned (Some r) e h =
      sym (row_down layout s y i a j on other r h e)
      ∙ (λ t. mask_of (size_at s j) (λ c. bit (row_word_at s i r c t) a))
  turned None e h = sym (row_free layout s y i a j on other (λ q. apart (sym q)) (rows_down layout s i j (omega arith) ∙ e))

  -- The row of a towards j is what the bytes of the sheet say: the byte of the block's row, or its two bytes read in one go, the first worth
  -- the most, where i < j; the rows of the block turned where j < i; all ones below the size of j where there is no block. Where a block's
  -- rows start: `found`, Accepted.antt.
  pub row_sheet : row_word P i j a ≡ sheet_row s i j a
  unfolding sheet_row
  row_sheet =
      ⊎_elim
      (λ (h : i < j). rw (lt-ltb i j h) (own (rows_of layout s i j) refl h))
      (λ (h : j ≤ i). let n : j ≡ i → ⊥ = apart in rw (le-ltb i j h) (turned (rows_of layout s j i) refl (omega arith)))
      (lt_dec i j)

  -- so in those bytes, too, the bit worth 2^c is set exactly where setting c of j is allowed
  pub row_sheet_bits : (c : ℕ) → bit (sheet_row s i j a) c ≡ P.allowed i a j c
  row_sheet_bits c = ap (λ (w : ℕ). bit w c) (sym row_sheet) ∙ row_word_lem (problem_bounded s y) i j a c

-- the rows of small sheets: each is computed
pub rows_sampled : AllRows sample_sheet sample_rows
unfolding rows_from rows_of sheet_row mask_of
rows_sampled = (refl, (refl, (refl, (refl, (refl, (refl, (refl, (refl, (refl, (refl, tt))))))))))

pub rows_sampled_shorter : AllRows sample_shorter sample_rows
unfolding rows_from rows_of sheet_row mask_of
rows_sampled_shorter = (refl, (refl, (refl, (refl, (refl, (refl, (refl, (refl, (refl, (refl, tt))))))))))

pub rows_sampled_mixed : AllRows sample_mixed mixed_rows
unfolding rows_from rows_of sheet_row mask_of
rows_sampled_mixed = (refl, (refl, (refl, (refl, (refl, (refl, (refl, (refl, tt))))))))
