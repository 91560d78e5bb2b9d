-- docs/FORMAT.md, "The sheet", written: the bytes of the sheet of a version that keeps the layout and is a problem.
use Rattle.std.specs.Prelude.{◌≡◌, Bool, true, cond, not, ◌&&◌, List, [], ◌∷◌, ◌++◌, Result, Ok, Err, ℕ, zero, suc, ◌+◌, ◌/◌, ◌%◌, ◌^◌, ◌≤◌, ltb, length}
use Rattle.bounded.specs.Quantifiers.{any_below, one_if}
use Rattle.bounded.specs.Mask.{mask_of}
use Rattle.bounded.specs.Table.{tab}
use Rattle.problem.specs.Problem.{Problem}
use Rattle.buffers.specs.Bytes.{number_bytes}
use Rattle.sheet.specs.Sheet.{Layout}
use Rattle.buffers.specs.Written.{fronted}
use Rattle.compose.specs.declared.TooShort.{TooShort}

module _ (P : Problem) where
  -- the row of setting a of i towards j: "In a row, the bit worth 2^c is set when setting c of j is allowed with the setting of i whose row it is."
  abbrev pub row_number : (i j a : ℕ) → ℕ
  row_number i j a = mask_of (P.size j) (λ b. P.allowed i a j b)

  -- setting a of i is barred with some setting of j; some setting of i is
  unfoldable pub row_bars : (i j a : ℕ) → Bool
  row_bars i j a = any_below (P.size j) (λ b. not (P.allowed i a j b))

  unfoldable pub pair_bars : (i j : ℕ) → Bool
  pair_bars i j = any_below (P.size i) (row_bars i j)

  -- "Blocks have i < j < n and rise strictly by i, then j": in the order of the places 32 i + j. The pair at place x has a block where it bars
  -- something: "A pair with no block allows everything; so a block that bars nothing is refused."
  unfoldable pub has_block : ℕ → Bool
  has_block x = ltb (x / 32) (x % 32) && (ltb (x % 32) P.n && pair_bars (x / 32) (x % 32))

  -- how many blocks the k places from x have
  unfoldable pub block_count : (k x : ℕ) → ℕ
  block_count zero x = 0
  block_count (suc k) x = one_if (has_block x) + block_count k (x + 1)

module _ (L : Layout) (v : ℕ) (P : Problem) where
  -- the rows of k settings of i from a, towards j
  unfoldable pub rows_bytes : (i j k a : ℕ) → List ℕ
  rows_bytes i j zero a = []
  rows_bytes i j (suc k) a = number_bytes (L.width v (P.size j)) (row_number P i j a) ++ rows_bytes i j k (a + 1)

  -- "So a block is its two item bytes, then one row for each setting of i, from setting 0 on"
  unfoldable pub block_bytes : (i j : ℕ) → List ℕ
  block_bytes i j = i ∷ j ∷ rows_bytes i j (P.size i) 0

  -- the block of the pair at place x, if it has one, and those of the k places from x
  unfoldable pub place_bytes : ℕ → List ℕ
  place_bytes x = cond (has_block P x) (block_bytes (x / 32) (x % 32)) []

  unfoldable pub blocks_bytes : (k x : ℕ) → List ℕ
  blocks_bytes zero x = []
  blocks_bytes (suc k) x = place_bytes x ++ blocks_bytes k (x + 1)

  -- "length of the whole sheet": its front, a size for each item, the blocks
  abbrev pub sheet_length : ℕ
  sheet_length = 8 + (P.n + length (blocks_bytes 1024 0))

  -- version, length, "the number of items", "the number of pair blocks"; "the size of each item, item 0 first"; "then m blocks"
  unfoldable pub sheet_bytes : List ℕ
  sheet_bytes = v ∷ (number_bytes 4 sheet_length ++ P.n ∷ (number_bytes 2 (block_count P 1024 0) ++ (tab P.n P.size ++ blocks_bytes 1024 0)))

-- what a layout's rows must have: room for a bit of each setting, and at most two bytes
pub record Roomy (L : Layout) : Type 0 where
  pub narrow : (v z : ℕ) → L.width v z ≤ 2
  pub room : (v z : ℕ) → L.takes v ≡ true → z ≤ 16 → 2 ^ z ≤ 256 ^ L.width v z

-- ---- writing it over a lent buffer

-- what writing answers and leaves in the buffer
pub record SheetResult : Type 0 where
  pub answer : Result ℕ TooShort
  pub buffer : List ℕ

-- the only value of its type
abbrev pub too_short : TooShort
too_short = record {}

-- a buffer that is too short stays as it was; else the sheet stands at its front, and its old bytes after that
unfoldable pub sheet_over : (L : Layout) (v : ℕ) (P : Problem) → List ℕ → SheetResult
sheet_over L v P b =
    cond (ltb (length b) (length (sheet_bytes L v P)))
    (record { answer = Err too_short; buffer = b })
    (record { answer = Ok (length (sheet_bytes L v P)); buffer = fronted (sheet_bytes L v P) b })
