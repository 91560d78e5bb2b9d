-- Why reading a sheet answers as it does: the causes of 1 to 9, as the table of refusals words them, in its order.
use Rattle.std.specs.Prelude.{◌≡◌, List, ◌⊎◌, ◌≢◌, ℕ, zero, suc, ◌+◌, ◌*◌, ◌^◌, ◌≤◌, ◌<◌, length, Err, Ok}
use Rattle.buffers.specs.Bytes.{byte_at}
use Rattle.sheet.specs.Sheet.{layout, version_of, length_of, variables_of, blocks_of, size_at, row_bytes, Block, SheetRead, next_block}
use Rattle.sheet.specs.Relation.{row_in}
use Rattle.sheet.specs.declared.SheetRefusal.{SheetRefusal}
use Rattle.sheet.specs.declared.SheetRefusal.TheVariants.{TooShort, Version, Length, Variables, Sizes, PairMissing, PairOrder, RowsCut, RowBeyond, BarsNothing, LeftOver}

-- "version, 1 or 2"
abbrev pub KnownVersion : ℕ → Type 0
KnownVersion v = (v ≡ 1) ⊎ (v ≡ 2)

-- "byte 0 is neither 1 nor 2"
abbrev pub UnknownVersion : ℕ → Type 0
UnknownVersion v = (v ≢ 1) × (v ≢ 2)

module _ (s : List ℕ) where
  -- ---- one block

  -- "i < j < n", and after the block before: least is one more than 32 i + j of that block
  abbrev pub InOrder : (least i j : ℕ) → Type 0
  InOrder least i j = (i < j) × (j < variables_of s) × (least ≤ 32 * i + j)

  abbrev pub OutOfOrder : (least i j : ℕ) → Type 0
  OutOfOrder least i j = (j ≤ i) ⊎ ((variables_of s ≤ j) ⊎ (32 * i + j < least))

  -- the rows of the block at p are whole
  abbrev pub RowsWhole : (p i j : ℕ) → Type 0
  RowsWhole p i j = p + 2 + row_bytes layout s i j ≤ length s

  -- why the block of i and j at p, whose item bytes are there, is judged so
  abbrev pub PairCause : (least p i j : ℕ) → Block → Type 0
  PairCause least p i j (Err PairOrder) = OutOfOrder least i j
  PairCause least p i j (Err RowsCut) = InOrder least i j × (length s < p + 2 + row_bytes layout s i j)
  PairCause least p i j (Err RowBeyond) = InOrder least i j × (RowsWhole p i j × ((a : ℕ) × (a < size_at s i) × (2 ^ size_at s j ≤ row_in layout s j (p + 2) a)))
  PairCause least p i j (Err BarsNothing) = InOrder least i j × (RowsWhole p i j × ((a : ℕ) → a < size_at s i → row_in layout s j (p + 2) a + 1 ≡ 2 ^ size_at s j))
  PairCause least p i j (Ok r) =
      InOrder least i j
      × (RowsWhole p i j
      × (((a : ℕ) → a < size_at s i → row_in layout s j (p + 2) a < 2 ^ size_at s j)
      × (((a : ℕ) × (a < size_at s i) × (row_in layout s j (p + 2) a + 1 ≢ 2 ^ size_at s j)) × ((r.least ≡ 32 * i + j + 1) × (r.at ≡ p + 2 + row_bytes layout s i j)))))
  PairCause least p i j (Err TooShort) = ⊥
  PairCause least p i j (Err Version) = ⊥
  PairCause least p i j (Err Length) = ⊥
  PairCause least p i j (Err Variables) = ⊥
  PairCause least p i j (Err Sizes) = ⊥
  PairCause least p i j (Err PairMissing) = ⊥
  PairCause least p i j (Err LeftOver) = ⊥

  -- why the block at p is judged so: its item bytes first
  abbrev pub BlockCause : (least p : ℕ) → Block → Type 0
  BlockCause least p b = ((b ≡ Err PairMissing) × (length s < p + 2)) ⊎ ((p + 2 ≤ length s) × PairCause least p (byte_at s p) (byte_at s (p + 1)) b)

  -- ---- the blocks in turn

  -- k good blocks lead to the place p, where the next has a place in the order from least on
  abbrev pub Reached : (k least p : ℕ) → Type 0
  Reached zero least p = (least ≡ 0) × (p ≡ 8 + variables_of s)
  Reached (suc k) least p = (l : ℕ) × (q : ℕ) × Reached k l q × BlockCause l q (next_block least p)

  -- ---- the sheet

  -- the rows of the front, passed
  abbrev pub Stated : Type 0
  Stated = (8 ≤ length s) × KnownVersion (version_of s) × (length_of s ≡ length s)

  abbrev pub Counted : Type 0
  Counted = Stated × ((1 ≤ variables_of s) × (variables_of s ≤ 32))

  abbrev pub SizesGood : Type 0
  SizesGood = Counted × ((8 + variables_of s ≤ length s) × ((i : ℕ) → i < variables_of s → (1 ≤ size_at s i) × (size_at s i ≤ 16)))

  -- the first faulty block: k good ones stand before it
  abbrev pub FaultAt : SheetRefusal → Type 0
  FaultAt r = SizesGood × ((k : ℕ) × (least : ℕ) × (p : ℕ) × (k < blocks_of s) × Reached k least p × BlockCause least p (Err r))

  -- Why reading a sheet answers as it does.
  abbrev pub ReadCause : SheetRead → Type 0
  -- 1: "fewer than 8 bytes"
  ReadCause (Err TooShort) = length s < 8
  -- 2: "byte 0 is neither 1 nor 2"
  ReadCause (Err Version) = (8 ≤ length s) × UnknownVersion (version_of s)
  -- 3: "stated length is not the length lent"
  ReadCause (Err Length) = (8 ≤ length s) × KnownVersion (version_of s) × (length_of s ≢ length s)
  -- 4: "n is 0 or above 32"
  ReadCause (Err Variables) = Stated × ((variables_of s ≡ 0) ⊎ (32 < variables_of s))
  -- 5: "a size is missing, 0 or above 16"
  ReadCause (Err Sizes) = Counted × ((length s < 8 + variables_of s) ⊎ ((i : ℕ) × (i < variables_of s) × ((size_at s i ≡ 0) ⊎ (16 < size_at s i))))
  -- 6, 7, 6, 8 and 9: each block in turn
  ReadCause (Err PairMissing) = FaultAt PairMissing
  ReadCause (Err PairOrder) = FaultAt PairOrder
  ReadCause (Err RowsCut) = FaultAt RowsCut
  ReadCause (Err RowBeyond) = FaultAt RowBeyond
  ReadCause (Err BarsNothing) = FaultAt BarsNothing
  -- 6: "bytes left over" after the last block
  ReadCause (Err LeftOver) = SizesGood × ((least : ℕ) × (p : ℕ) × Reached (blocks_of s) least p × (p ≢ length s))
  -- accepted: every block is good, and the sheet ends with the last
  ReadCause (Ok a) = SizesGood × (((least : ℕ) × (p : ℕ) × Reached (blocks_of s) least p × (p ≡ length s)) × ((a.variables ≡ variables_of s) × (a.blocks ≡ blocks_of s)))
