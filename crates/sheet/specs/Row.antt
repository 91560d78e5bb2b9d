-- The row of a setting towards another item, as the bytes of the sheet have it. No table comes into it.
use Rattle.std.specs.Prelude.{◌≡◌, cond, List, [], ◌∷◌, ℕ, ◌+◌, ◌-◌, ◌*◌, ◌^◌, ltb, eqb, None, Option, Some}
use Rattle.bounded.specs.Mask.{bit, mask_of}
use Rattle.buffers.specs.Bytes.{byte_at}
use Rattle.sheet.specs.Sheet.{layout, size_at, row_width}
use Rattle.sheet.specs.Relation.{rows_of}

module _ (s : List ℕ) where
  -- "A row is taken as one word of 16 bits": the one byte at p, or the two bytes at p "read in one go, the first worth the most"
  abbrev pub word_at : (w p : ℕ) → ℕ
  word_at w p = cond (eqb w 1) (byte_at s p) (256 * byte_at s p + byte_at s (p + 1))

  -- row a of those that start at r, in a block whose second item is j: each has as many bytes as the size of j gives it
  abbrev pub block_row : (j r a : ℕ) → ℕ
  block_row j r a = word_at (row_width layout s j) (r + row_width layout s j * a)

  -- "A pair with no block allows everything": all ones below the size of j
  abbrev pub all_ones : ℕ → ℕ
  all_ones j = 2 ^ size_at s j - 1

  -- the row of setting a of i towards j, where i < j and the block's rows start at r: they are i's, and a's is number a
  abbrev pub own_row : Option ℕ → (j a : ℕ) → ℕ
  own_row (Some r) j a = block_row j r a
  own_row None j a = all_ones j

  -- the same where j < i: the rows are j's, the block's second item is i, and setting c of j is allowed with a where row c has the bit of a
  abbrev pub turned_row : Option ℕ → (i j a : ℕ) → ℕ
  turned_row (Some r) i j a = mask_of (size_at s j) (λ c. bit (block_row i r c) a)
  turned_row None i j a = all_ones j

  unfoldable pub sheet_row : (i j a : ℕ) → ℕ
  sheet_row i j a = cond (ltb i j) (own_row (rows_of layout s i j) j a) (turned_row (rows_of layout s j i) i j a)

-- ---- rows of small sheets, computed

-- items of 2, 10 and 1 settings; the block of items 0 and 1 has the rows 02 01 (settings 0 and 9) and 03 fe (1 to 9)
abbrev pub sample_sheet : List ℕ
sample_sheet = 1 ∷ 0 ∷ 0 ∷ 0 ∷ 17 ∷ 3 ∷ 0 ∷ 1 ∷ 2 ∷ 10 ∷ 1 ∷ 0 ∷ 1 ∷ 2 ∷ 1 ∷ 3 ∷ 254 ∷ []

-- the same in version 2: item 1 has 10 settings, and its rows have two bytes still
abbrev pub sample_shorter : List ℕ
sample_shorter = 2 ∷ 0 ∷ 0 ∷ 0 ∷ 17 ∷ 3 ∷ 0 ∷ 1 ∷ 2 ∷ 10 ∷ 1 ∷ 0 ∷ 1 ∷ 2 ∷ 1 ∷ 3 ∷ 254 ∷ []

-- version 2, items of 1, 9 and 2 settings: in the block of items 0 and 1 a row has two bytes (01 02, settings 1 and 8), in that of items 1 and
-- 2 one (setting a is allowed with 1, and 8 with 0 too)
abbrev pub sample_mixed : List ℕ
sample_mixed = 2 ∷ 0 ∷ 0 ∷ 0 ∷ 26 ∷ 3 ∷ 0 ∷ 2 ∷ 1 ∷ 9 ∷ 2 ∷ 0 ∷ 1 ∷ 1 ∷ 2 ∷ 1 ∷ 2 ∷ 2 ∷ 2 ∷ 2 ∷ 2 ∷ 2 ∷ 2 ∷ 2 ∷ 2 ∷ 3 ∷ []

-- setting `value` of item `from` has the row `word` towards item `to`
pub record SampleRow : Type 0 where
  pub from : ℕ
  pub to : ℕ
  pub value : ℕ
  pub word : ℕ

abbrev pub AllRows : List ℕ → List SampleRow → Type 0
AllRows s [] = Unit {0}
AllRows s (r ∷ l) = (sheet_row s r.from r.to r.value ≡ r.word) × AllRows s l

abbrev pub sample_rows : List SampleRow
sample_rows =
    -- the block's own rows
    record { from = 0; to = 1; value = 0; word = 513 }
    ∷ record { from = 0; to = 1; value = 1; word = 1022 }
    -- turned: setting 0 stands in the first row only, 1 and 8 in the second, 9 in both
    ∷ record { from = 1; to = 0; value = 0; word = 1 }
    ∷ record { from = 1; to = 0; value = 1; word = 2 }
    ∷ record { from = 1; to = 0; value = 8; word = 2 }
    ∷ record { from = 1; to = 0; value = 9; word = 3 }
    -- pairs with no block, both ways round
    ∷ record { from = 0; to = 2; value = 1; word = 1 }
    ∷ record { from = 2; to = 0; value = 0; word = 3 }
    ∷ record { from = 1; to = 2; value = 9; word = 1 }
    ∷ record { from = 2; to = 1; value = 0; word = 1023 }
    ∷ []

abbrev pub mixed_rows : List SampleRow
mixed_rows =
    -- two bytes, then one
    record { from = 0; to = 1; value = 0; word = 258 }
    ∷ record { from = 1; to = 2; value = 0; word = 2 }
    ∷ record { from = 1; to = 2; value = 8; word = 3 }
    -- turned
    ∷ record { from = 1; to = 0; value = 8; word = 1 }
    ∷ record { from = 1; to = 0; value = 0; word = 0 }
    ∷ record { from = 2; to = 1; value = 0; word = 256 }
    ∷ record { from = 2; to = 1; value = 1; word = 511 }
    -- a pair with no block
    ∷ record { from = 0; to = 2; value = 0; word = 3 }
    ∷ []
