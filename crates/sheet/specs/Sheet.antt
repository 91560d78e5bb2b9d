-- docs/FORMAT.md, "The sheet", and the sheet's rows of "Where each thing is turned away", in the order of the rows.
use Rattle.std.specs.Prelude.{◌≡◌, Bool, true, false, cond, not, ◌&&◌, ◌||◌, List, ℕ, zero, suc, ◌+◌, ◌*◌, ◌^◌, ◌≤◌, ◌<◌, ltb, leb, eqb, length, Result, Err, Ok}
use Rattle.buffers.specs.Bytes.{byte_at, number_at}
use Rattle.sheet.specs.declared.SheetRefusal.{SheetRefusal}
use Rattle.sheet.specs.declared.SheetRefusal.TheVariants.{TooShort, Version, Length, Variables, Sizes, PairMissing, PairOrder, RowsCut, RowBeyond, BarsNothing, LeftOver}
use Rattle.sheet.specs.declared.Counts.{Counts}
use Rattle.sheet.specs.declared.NextBlock.{NextBlock}

-- ---- what reading finds

-- of a sheet: its variables and its blocks, or the first row of the table that turns it away
abbrev pub SheetRead : Type 0
SheetRead = Result Counts SheetRefusal

abbrev pub accepted : (n m : ℕ) → SheetRead
accepted n m = Ok (record { variables = n; blocks = m })

-- of a block: the least place in the order for the next pair and where the next block starts, or the fault
abbrev pub Block : Type 0
Block = Result NextBlock SheetRefusal

abbrev pub next_block : (least p : ℕ) → Block
next_block least p = Ok (record { least = least; at = p })

-- the number of each refusal, as the table has it; 6 stands in three of its rows
abbrev pub sheet_number : SheetRefusal → ℕ
sheet_number TooShort = 1
sheet_number Version = 2
sheet_number Length = 3
sheet_number Variables = 4
sheet_number Sizes = 5
sheet_number PairMissing = 6
sheet_number PairOrder = 7
sheet_number RowsCut = 6
sheet_number RowBeyond = 8
sheet_number BarsNothing = 9
sheet_number LeftOver = 6

-- What the version decides: whether it is taken, and how many bytes a row has, from the version and the size of j.
pub record Layout : Type 0 where
  pub takes : ℕ → Bool
  pub width : ℕ → ℕ → ℕ

-- whether a row has one byte: "In version 1 every row has two bytes."; in version 2 "a row has one byte when item j has 8 settings or fewer, two
-- otherwise". z is the size of j
abbrev pub one_byte : (v z : ℕ) → Bool
one_byte v z = eqb v 2 && leb z 8

-- "version, 1 or 2", and the rows of each
abbrev pub layout : Layout
layout = record { takes = λ v. eqb v 1 || eqb v 2; width = λ v z. cond (one_byte v z) 1 2 }

-- ---- the fields

-- byte 0
abbrev pub version_of : List ℕ → ℕ
version_of s = byte_at s 0

-- bytes 1–4: length of the whole sheet
abbrev pub length_of : List ℕ → ℕ
length_of s = number_at s 4 1

-- byte 5: items n
abbrev pub variables_of : List ℕ → ℕ
variables_of s = byte_at s 5

-- bytes 6–7: pair blocks m
abbrev pub blocks_of : List ℕ → ℕ
blocks_of s = number_at s 2 6

-- next n: settings of each item
abbrev pub size_at : List ℕ → ℕ → ℕ
size_at s i = byte_at s (8 + i)

module _ (L : Layout) (s : List ℕ) where
  -- the bytes of one row of a block whose second item is j
  abbrev pub row_width : ℕ → ℕ
  row_width j = L.width (version_of s) (size_at s j)

  -- "then one row for each setting of i"
  abbrev pub row_bytes : ℕ → ℕ → ℕ
  row_bytes i j = size_at s i * row_width j

  -- ---- the tests of a block

  -- 7: "i < j < n", and "after the block before": least is one more than 32 i + j of that block, 0 for the first
  abbrev pub in_order : (least i j : ℕ) → Bool
  in_order least i j = (ltb i j && ltb j (variables_of s)) && leb least (32 * i + j)

  -- 8: "a row has a bit for a setting j lacks": one of k rows of w bytes from p is not below 2 ^ z, where j has z settings
  unfoldable pub beyond : (w z k p : ℕ) → Bool
  beyond w z zero p = false
  beyond w z (suc k) p = leb (2 ^ z) (number_at s w p) || beyond w z k (p + w)

  -- 9: "it bars nothing": each of k rows of w bytes from p has all z bits
  unfoldable pub allows_all : (w z k p : ℕ) → Bool
  allows_all w z zero p = true
  allows_all w z (suc k) p = eqb (number_at s w p + 1) (2 ^ z) && allows_all w z k (p + w)

  abbrev pub fault_if : Bool → SheetRefusal → Block → Block
  fault_if t r b = cond t (Err r) b

  -- the block of i and j whose item bytes stand at p: in order, rows whole, no bit beyond, something barred
  unfoldable pub block_of : (least p i j : ℕ) → Block
  block_of least p i j =
      fault_if (not (in_order least i j)) PairOrder
      (fault_if (ltb (length s) (p + 2 + row_bytes i j)) RowsCut
      (fault_if (beyond (row_width j) (size_at s j) (size_at s i) (p + 2)) RowBeyond
      (fault_if (allows_all (row_width j) (size_at s j) (size_at s i) (p + 2)) BarsNothing
      (next_block (32 * i + j + 1) (p + 2 + row_bytes i j)))))

  -- the block at p: its item bytes first
  unfoldable pub block_at : (least p : ℕ) → Block
  block_at least p =
      fault_if (ltb (length s) (p + 2)) PairMissing
      (block_of least p (byte_at s p) (byte_at s (p + 1)))

  -- ---- the sheet

  abbrev pub refuse_if : Bool → SheetRefusal → SheetRead → SheetRead
  refuse_if t r a = cond t (Err r) a

  -- a block's fault is the sheet's; after a good block come the rest
  abbrev pub after_block : Block → (ℕ → ℕ → SheetRead) → SheetRead
  after_block (Ok a) rest = rest a.least a.at
  after_block (Err r) rest = Err r

  -- "each block in turn": k blocks from p, and after them no bytes left over
  unfoldable pub blocks_from : (k least p : ℕ) → SheetRead
  blocks_from zero least p = refuse_if (not (eqb p (length s))) LeftOver (accepted (variables_of s) (blocks_of s))
  blocks_from (suc k) least p = after_block (block_at least p) (blocks_from k)

  -- 4: "n is 0 or above 32"
  abbrev pub bad_count : Bool
  bad_count = eqb (variables_of s) 0 || ltb 32 (variables_of s)

  -- 5: a size "0 or above 16", among those of k items from the byte at p
  unfoldable pub bad_sizes : (k p : ℕ) → Bool
  bad_sizes zero p = false
  bad_sizes (suc k) p = (eqb (byte_at s p) 0 || ltb 16 (byte_at s p)) || bad_sizes k (p + 1)

  -- reading a sheet: the rows of the table in their order
  unfoldable pub read_sheet : SheetRead
  read_sheet =
      refuse_if (ltb (length s) 8) TooShort
      (refuse_if (not (L.takes (version_of s))) Version
      (refuse_if (not (eqb (length_of s) (length s))) Length
      (refuse_if bad_count Variables
      (refuse_if (ltb (length s) (8 + variables_of s) || bad_sizes (variables_of s) 8) Sizes
      (blocks_from (blocks_of s) 0 (8 + variables_of s))))))

  -- "a sheet that keeps the layout (no sheet row turns it away)"
  abbrev pub Keeps : Type 0
  Keeps = read_sheet ≡ accepted (variables_of s) (blocks_of s)

-- the front and the sizes are good: what the reader of the blocks may count on
pub record Front (s : List ℕ) : Type 0 where
  pub some : 1 ≤ variables_of s
  pub few : variables_of s ≤ 32
  pub room : 8 + variables_of s ≤ length s
  pub sizes : (i : ℕ) → i < variables_of s → (1 ≤ size_at s i) × (size_at s i ≤ 16)
