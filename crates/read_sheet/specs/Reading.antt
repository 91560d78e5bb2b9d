-- What the parts of the reader say to one another: the front, rows of a block in a list of 16, and a table that is being filled.
use Rattle.std.specs.Prelude.{◌≡◌, Bool, true, cond, List, ℕ, ◌+◌, ◌*◌, ◌≤◌, ◌<◌, eqb, ltb, length, get_or, Err}
use Rattle.bounded.specs.Quantifiers.{all_below, any_below}
use Rattle.problem.specs.Held.{Located}
use Rattle.problem.specs.Filling.{Shows}
use Rattle.buffers.specs.Bytes.{number_at}
use Rattle.sheet.specs.Sheet.{layout, variables_of, blocks_of, size_at, row_width, blocks_from, read_sheet, Front, Block, SheetRead, accepted, next_block}
use Rattle.sheet.specs.Relation.{size_of}
use Rattle.sheet.specs.declared.SheetRefusal.{SheetRefusal}
use Rattle.sheet.specs.declared.SheetRefusal.TheVariants.{RowBeyond, BarsNothing}

-- ---- the rows of a block

-- k rows of w bytes from p, at most 16, stand within len bytes
pub record Inside (len w k p : ℕ) : Type 0 where
  pub some : 1 ≤ w
  pub wide : w ≤ 2
  pub few : k ≤ 16
  pub within : p + k * w ≤ len

-- 16 entries, each 0
pub record Clear (x : List ℕ) : Type 0 where
  pub long : length x ≡ 16
  pub each : (a : ℕ) → get_or x a 0 ≡ 0

-- k rows of w bytes from p, and 0 for the rest of 16
pub record RowsRead (s : List ℕ) (w k p : ℕ) (x : List ℕ) : Type 0 where
  pub long : length x ≡ 16
  pub row : (a : ℕ) → a < k → get_or x a 0 ≡ number_at s w (p + a * w)
  pub rest : (a : ℕ) → k ≤ a → get_or x a 0 ≡ 0

-- some of 16 rows is above `full`, which has a bit for each setting of the second item
unfoldable pub some_beyond : (x : List ℕ) (full : ℕ) → Bool
some_beyond x full = any_below 16 (λ a. ltb full (get_or x a 0))

-- each of the first k rows is `full`
unfoldable pub all_full : (x : List ℕ) (full k : ℕ) → Bool
all_full x full k = all_below k (λ a. eqb (get_or x a 0) full)

-- what the rows of a block decide, where l and q are the next least place and the next block's place
unfoldable pub rows_tell : (x : List ℕ) (full k l q : ℕ) → Block
rows_tell x full k l q = cond (some_beyond x full) (Err RowBeyond) (cond (all_full x full k) (Err BarsNothing) (next_block l q))

-- of a good block of i and j at p, the rows
pub record BlockRows (s : List ℕ) (i j p : ℕ) (x : List ℕ) (b : Block) : Type 0 where
  pub rows : (l q : ℕ) → b ≡ next_block l q → RowsRead s (row_width layout s j) (size_at s i) (p + 2) x

-- ---- the front

-- what the front of a sheet decides: the sheet's refusal, or that the blocks decide
pub record FrontRead (s : List ℕ) (r : SheetRead) : Type 0 where
  pub refused : (f : SheetRefusal) → r ≡ Err f → read_sheet layout s ≡ Err f
  pub good : (n m : ℕ) → r ≡ accepted n m → Front s × (read_sheet layout s ≡ blocks_from layout s (blocks_of s) 0 (8 + variables_of s))

-- ---- a table that is being filled

-- the places and the sheet's sizes are in the table, and of no pair anything is barred
pub record Free (s t : List ℕ) : Type 0 where
  pub located : Located t
  pub sizes : (i : ℕ) → i < 32 → get_or t i 0 ≡ size_of layout s i
  pub free : (i j : ℕ) → i < j → j < 32 → Shows t i j (λ a b. true)
