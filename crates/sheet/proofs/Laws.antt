-- Laws of the definitions of specs/Sheet.antt: one step of each loop, and the cases of a block and of a sheet. Assumes nothing.
use mathlib.Core.Path.{◌≡◌, refl, sym, ap, ◌∙◌}
use mathlib.Core.Bool.{Bool, true, false, not, ◌||◌, ◌&&◌}
use mathlib.Core.List.{List}
use Prim.Native.Nat.{ℕ, zero, suc, ◌+◌, ◌-◌, ◌*◌, ◌^◌, ◌≤◌, ◌<◌}
use native.Mathlib.Nat.{add-zero, suc-mul, mul-le-mul, mul-le-mul_right}
use native.Mathlib.Omega.{arith}
use lib.ListN.{length}
use lib.Dec.{eqb, ltb, leb}
use borrow.Author.Tests.{ltb-true, ltb-false, leb-true, leb-false, eqb-true, eqb-false, lt-ltb, le-ltb, lt-leb, eq-eqb, ne_eqb, not-false}
use Rattle.bounded.proofs.Truth.{both, neither}
use Rattle.buffers.specs.Bytes.{byte_at, number_at}
use Rattle.sheet.specs.Sheet.{Layout, version_of, length_of, variables_of, blocks_of, size_at, row_width, row_bytes, in_order, beyond, allows_all, fault_if, block_of, block_at, after_block, blocks_from, bad_count, bad_sizes, read_sheet, Block, SheetRead, accepted, next_block}
use Rattle.sheet.specs.declared.SheetRefusal.{SheetRefusal}
use Rattle.sheet.specs.declared.SheetRefusal.TheVariants.{TooShort, Version, Length, Variables, Sizes, PairMissing, PairOrder, RowsCut, RowBeyond, BarsNothing, LeftOver}
use Rattle.std.specs.Prelude.{Ok, Err}

-- ---- numbers

-- a positive number is a successor
pub pos : {k : ℕ} → 0 < k → k ≡ suc (k - 1)
pos h = omega arith

pub rows_small : (z w : ℕ) → z ≤ 16 → w ≤ 2 → z * w ≤ 32
rows_small z w a b = mul-le-mul {n₂ = 16} {m₂ = 2} a b

-- the row of a is within z rows
pub row_within : (a z w : ℕ) → a < z → a * w + w ≤ z * w
row_within a z w h = let e = suc-mul a w in let m : suc a * w ≤ z * w = mul-le-mul_right w h in omega arith

-- ---- parts of what reading finds

abbrev least_in : Block → ℕ
least_in (Ok x) = x.least
least_in (Err _) = 0

abbrev place_in : Block → ℕ
place_in (Ok x) = x.at
place_in (Err _) = 0

next_parts : {l a m b : ℕ} → next_block l a ≡ next_block m b → (l ≡ m) × (a ≡ b)
next_parts e = (ap least_in e, ap place_in e)

abbrev variables_in : SheetRead → ℕ
variables_in (Ok x) = x.variables
variables_in (Err _) = 0

abbrev blocks_in : SheetRead → ℕ
blocks_in (Ok x) = x.blocks
blocks_in (Err _) = 0

pub accepted_parts : {n m a b : ℕ} → accepted n m ≡ accepted a b → (n ≡ a) × (m ≡ b)
accepted_parts e = (ap variables_in e, ap blocks_in e)

-- ---- tests

pub or_right : (a b : Bool) → b ≡ true → (a || b) ≡ true
or_right true b e = refl
or_right false b e = e

pub or_none : (a b : Bool) → a ≡ false → b ≡ false → (a || b) ≡ false
or_none a b e f = simp (e, f)

module _ (L : Layout) (s : List ℕ) where
  -- ---- the sizes

  sizes_step : (k p : ℕ) → 0 < k → bad_sizes L s k p ≡ ((eqb (byte_at s p) 0 || ltb 16 (byte_at s p)) || bad_sizes L s (k - 1) (p + 1))
  unfolding bad_sizes
  sizes_step k p h = ap (λ (x : ℕ). bad_sizes L s x p) (pos h)

  pub sizes_zero : (k p : ℕ) → 0 < k → byte_at s p ≡ 0 → bad_sizes L s k p ≡ true
  sizes_zero k p h e = sizes_step k p h ∙ simp (eq-eqb _ _ e)

  pub sizes_large : (k p : ℕ) → 0 < k → 16 < byte_at s p → bad_sizes L s k p ≡ true
  sizes_large k p h e = sizes_step k p h ∙ simp (ne_eqb (byte_at s p) 0 (λ q. omega arith), lt-ltb _ _ e)

  pub sizes_next : (k p : ℕ) → 0 < k → 1 ≤ byte_at s p → byte_at s p ≤ 16 → bad_sizes L s k p ≡ bad_sizes L s (k - 1) (p + 1)
  sizes_next k p h a b = sizes_step k p h ∙ simp (ne_eqb (byte_at s p) 0 (λ q. omega arith), le-ltb 16 (byte_at s p) b)

  pub sizes_end : (p : ℕ) → bad_sizes L s 0 p ≡ false
  unfolding bad_sizes
  sizes_end p = refl

  -- where no size is bad each of them is 1 to 16
  pub good_sizes : (k p : ℕ) → bad_sizes L s k p ≡ false → (i : ℕ) → i < k → (1 ≤ byte_at s (p + i)) × (byte_at s (p + i) ≤ 16)
  unfolding bad_sizes
  good_sizes zero p e i h = absurd (omega arith)
  good_sizes (suc k) p e zero h =
      let f = neither (eqb (byte_at s p) 0 || ltb 16 (byte_at s p)) (bad_sizes L s k (p + 1)) e in
      let g = neither (eqb (byte_at s p) 0) (ltb 16 (byte_at s p)) f.0 in
      let n : byte_at s p ≡ 0 → ⊥ = eqb-false (byte_at s p) 0 g.0 in
      let m = ltb-false 16 (byte_at s p) g.1 in
      rw (add-zero p) (omega arith, m)
  good_sizes (suc k) p e (suc i) h =
      let f = neither (eqb (byte_at s p) 0 || ltb 16 (byte_at s p)) (bad_sizes L s k (p + 1)) e in
      let q : p + suc i ≡ p + 1 + i = omega arith in
      rw q (good_sizes k (p + 1) f.1 i (omega arith))

  -- ---- the rows of a block

  module _ (w z : ℕ) where
    -- where no row has a bit beyond, each row is below 2 ^ z
    pub good_rows : (k p : ℕ) → beyond L s w z k p ≡ false → (a : ℕ) → a < k → number_at s w (p + a * w) < 2 ^ z
    unfolding beyond
    good_rows zero p e a h = absurd (omega arith)
    good_rows (suc k) p e zero h =
        let f = neither (leb (2 ^ z) (number_at s w p)) (beyond L s w z k (p + w)) e in
        let q : p + zero * w ≡ p = omega arith in
        rw q (leb-false (2 ^ z) (number_at s w p) f.0)
    good_rows (suc k) p e (suc a) h =
        let f = neither (leb (2 ^ z) (number_at s w p)) (beyond L s w z k (p + w)) e in
        let m = suc-mul a w in
        let q : p + suc a * w ≡ p + w + a * w = omega arith in
        rw q (good_rows k (p + w) f.1 a (omega arith))

    -- and the other way round
    pub none_beyond : (k p : ℕ) → ((a : ℕ) → a < k → number_at s w (p + a * w) < 2 ^ z) → beyond L s w z k p ≡ false
    unfolding beyond
    none_beyond zero p h = refl
    none_beyond (suc k) p h =
        let q : p + zero * w ≡ p = omega arith in
        let l : number_at s w p < 2 ^ z = rw q at (h 0 (omega arith)) in
        simp (lt-leb _ _ l) (none_beyond k (p + w) (λ a m. let e = suc-mul a w in let u : p + suc a * w ≡ p + w + a * w = omega arith in rw u at (h (suc a) (omega arith))))

    -- a block bars nothing where each row has all z bits
    pub all_full_lem : (k p : ℕ) → ((a : ℕ) → a < k → number_at s w (p + a * w) + 1 ≡ 2 ^ z) → allows_all L s w z k p ≡ true
    unfolding allows_all
    all_full_lem zero p h = refl
    all_full_lem (suc k) p h =
        let q : p + zero * w ≡ p = omega arith in
        let l : number_at s w p + 1 ≡ 2 ^ z = rw q at (h 0 (omega arith)) in
        simp (eq-eqb _ _ l) (all_full_lem k (p + w) (λ a m. let e = suc-mul a w in let u : p + suc a * w ≡ p + w + a * w = omega arith in rw u at (h (suc a) (omega arith))))

    pub full_rows : (k p : ℕ) → allows_all L s w z k p ≡ true → (a : ℕ) → a < k → number_at s w (p + a * w) + 1 ≡ 2 ^ z
    unfolding allows_all
    full_rows zero p e a h = absurd (omega arith)
    full_rows (suc k) p e zero h =
        let f = both (eqb (number_at s w p + 1) (2 ^ z)) (allows_all L s w z k (p + w)) e in
        let q : p + zero * w ≡ p = omega arith in
        rw q (eqb-true (number_at s w p + 1) (2 ^ z) f.0)
    full_rows (suc k) p e (suc a) h =
        let f = both (eqb (number_at s w p + 1) (2 ^ z)) (allows_all L s w z k (p + w)) e in
        let m = suc-mul a w in
        let q : p + suc a * w ≡ p + w + a * w = omega arith in
        rw q (full_rows k (p + w) f.1 a (omega arith))

  -- ---- a block, in the order of its tests

  pub in_order_lem : (least i j : ℕ) → in_order L s least i j ≡ true → (i < j) × ((j < variables_of s) × (least ≤ 32 * i + j))
  in_order_lem least i j e =
      let f = both (ltb i j && ltb j (variables_of s)) (leb least (32 * i + j)) e in
      let g = both (ltb i j) (ltb j (variables_of s)) f.0 in
      (ltb-true i j g.0, (ltb-true j (variables_of s) g.1, leb-true least (32 * i + j) f.1))

  module _ (least p i j : ℕ) where
    pub block_order : in_order L s least i j ≡ false → block_of L s least p i j ≡ Err PairOrder
    unfolding block_of
    block_order o = simp o

    pub block_cut : in_order L s least i j ≡ true → length s < p + 2 + row_bytes L s i j → block_of L s least p i j ≡ Err RowsCut
    unfolding block_of
    block_cut o h = simp (o, lt-ltb _ _ h)

    module _ (o : in_order L s least i j ≡ true) (h : p + 2 + row_bytes L s i j ≤ length s) where
      pub block_beyond : beyond L s (row_width L s j) (size_at s j) (size_at s i) (p + 2) ≡ true → block_of L s least p i j ≡ Err RowBeyond
      unfolding block_of
      block_beyond b = simp (o, le-ltb _ _ h, b)

      pub block-bars-nothing :
          beyond L s (row_width L s j) (size_at s j) (size_at s i) (p + 2) ≡ false
          → allows_all L s (row_width L s j) (size_at s j) (size_at s i) (p + 2) ≡ true
          → block_of L s least p i j ≡ Err BarsNothing
      unfolding block_of
      block-bars-nothing b a = simp (o, le-ltb _ _ h, b, a)

      pub block_next :
          beyond L s (row_width L s j) (size_at s j) (size_at s i) (p + 2) ≡ false
          → allows_all L s (row_width L s j) (size_at s j) (size_at s i) (p + 2) ≡ false
          → block_of L s least p i j ≡ next_block (32 * i + j + 1) (p + 2 + row_bytes L s i j)
      unfolding block_of
      block_next b a = simp (o, le-ltb _ _ h, b, a)

  module _ (least p : ℕ) where
    pub block_missing : length s < p + 2 → block_at L s least p ≡ Err PairMissing
    unfolding block_at
    block_missing h = simp (lt-ltb _ _ h)

    pub block_there : p + 2 ≤ length s → block_at L s least p ≡ block_of L s least p (byte_at s p) (byte_at s (p + 1))
    unfolding block_at
    block_there h = simp (le-ltb _ _ h)

  -- a test that a good block has passed, and what follows it
  passed : {l a : ℕ} (t : Bool) (f : SheetRefusal) (b : Block) → fault_if L s t f b ≡ next_block l a → (t ≡ false) × (b ≡ next_block l a)
  passed true f b e = let z : ◌≡◌ {A = ℕ} 0 1 = cc in absurd (omega arith)
  passed false f b e = (refl, e)

  -- what a good block shows
  pub record Whole (least p l a : ℕ) : Type 0 where
    pub order : in_order L s least (byte_at s p) (byte_at s (p + 1)) ≡ true
    pub within : p + 2 + row_bytes L s (byte_at s p) (byte_at s (p + 1)) ≤ length s
    pub low : beyond L s (row_width L s (byte_at s (p + 1))) (size_at s (byte_at s (p + 1))) (size_at s (byte_at s p)) (p + 2) ≡ false
    pub bars : allows_all L s (row_width L s (byte_at s (p + 1))) (size_at s (byte_at s (p + 1))) (size_at s (byte_at s p)) (p + 2) ≡ false
    pub key : l ≡ 32 * byte_at s p + byte_at s (p + 1) + 1
    pub next : a ≡ p + 2 + row_bytes L s (byte_at s p) (byte_at s (p + 1))

  pub whole : (least p l a : ℕ) → block_at L s least p ≡ next_block l a → Whole least p l a
  unfolding block_at block_of
  whole least p l a e =
      let i = byte_at s p in
      let j = byte_at s (p + 1) in
      let w = row_width L s j in
      let e1 = passed (ltb (length s) (p + 2)) PairMissing _ e in
      let e2 = passed (not (in_order L s least i j)) PairOrder _ e1.1 in
      let e3 = passed (ltb (length s) (p + 2 + row_bytes L s i j)) RowsCut _ e2.1 in
      let e4 = passed (beyond L s w (size_at s j) (size_at s i) (p + 2)) RowBeyond _ e3.1 in
      let e5 = passed (allows_all L s w (size_at s j) (size_at s i) (p + 2)) BarsNothing (next_block (32 * i + j + 1) (p + 2 + row_bytes L s i j)) e4.1 in
      record {
        order = not-false _ e2.0;
        within = ltb-false _ _ e3.0;
        low = e4.0;
        bars = e5.0;
        key = sym (next_parts e5.1).0;
        next = sym (next_parts e5.1).1;
      }

  -- ---- the blocks in turn

  module _ (k least p : ℕ) (h : 0 < k) where
    blocks_step : blocks_from L s k least p ≡ after_block L s (block_at L s least p) (blocks_from L s (k - 1))
    unfolding blocks_from
    blocks_step = ap (λ (x : ℕ). blocks_from L s x least p) (pos h)

    pub blocks_fault : (f : SheetRefusal) → block_at L s least p ≡ Err f → blocks_from L s k least p ≡ Err f
    blocks_fault f e = blocks_step ∙ ap (λ (b : Block). after_block L s b (blocks_from L s (k - 1))) e

    pub blocks_next : (l a : ℕ) → block_at L s least p ≡ next_block l a → blocks_from L s k least p ≡ blocks_from L s (k - 1) l a
    blocks_next l a e = blocks_step ∙ ap (λ (b : Block). after_block L s b (blocks_from L s (k - 1))) e

  module _ (least p : ℕ) where
    pub blocks_over : (p ≡ length s → ⊥) → blocks_from L s 0 least p ≡ Err LeftOver
    unfolding blocks_from
    blocks_over h = simp (ne_eqb _ _ h)

    pub blocks_end : p ≡ length s → blocks_from L s 0 least p ≡ accepted (variables_of s) (blocks_of s)
    unfolding blocks_from
    blocks_end h = simp (eq-eqb _ _ h)

  -- ---- a sheet, in the order of its tests

  count_zero : variables_of s ≡ 0 → bad_count L s ≡ true
  count_zero h = simp (eq-eqb _ _ h)

  count_large : 32 < variables_of s → bad_count L s ≡ true
  count_large h = or_right (eqb (variables_of s) 0) (ltb 32 (variables_of s)) (lt-ltb _ _ h)

  count_good : 1 ≤ variables_of s → variables_of s ≤ 32 → bad_count L s ≡ false
  count_good h k = or_none (eqb (variables_of s) 0) (ltb 32 (variables_of s)) (ne_eqb (variables_of s) 0 (λ e. omega arith)) (le-ltb 32 (variables_of s) k)

  pub sheet_short : length s < 8 → read_sheet L s ≡ Err TooShort
  unfolding read_sheet
  sheet_short h = simp (lt-ltb _ _ h)

  module _ (h1 : 8 ≤ length s) where
    pub sheet_version : L.takes (version_of s) ≡ false → read_sheet L s ≡ Err Version
    unfolding read_sheet
    sheet_version h = simp (le-ltb _ _ h1, h)

    module _ (h2 : L.takes (version_of s) ≡ true) where
      pub sheet_length : (length_of s ≡ length s → ⊥) → read_sheet L s ≡ Err Length
      unfolding read_sheet
      sheet_length h = simp (le-ltb _ _ h1, h2, ne_eqb _ _ h)

      module _ (h3 : length_of s ≡ length s) where
        pub sheet_none : variables_of s ≡ 0 → read_sheet L s ≡ Err Variables
        unfolding read_sheet
        sheet_none h = simp (le-ltb _ _ h1, h2, eq-eqb _ _ h3, count_zero h)

        pub sheet_many : 32 < variables_of s → read_sheet L s ≡ Err Variables
        unfolding read_sheet
        sheet_many h = simp (le-ltb _ _ h1, h2, eq-eqb _ _ h3, count_large h)

        module _ (one : 1 ≤ variables_of s) (few : variables_of s ≤ 32) where
          pub sheet_sizes_missing : length s < 8 + variables_of s → read_sheet L s ≡ Err Sizes
          unfolding read_sheet
          sheet_sizes_missing h = simp (le-ltb _ _ h1, h2, eq-eqb _ _ h3, count_good one few, lt-ltb _ _ h)

          module _ (room : 8 + variables_of s ≤ length s) where
            pub sheet_sizes : bad_sizes L s (variables_of s) 8 ≡ true → read_sheet L s ≡ Err Sizes
            unfolding read_sheet
            sheet_sizes h = simp (le-ltb _ _ h1, h2, eq-eqb _ _ h3, count_good one few, le-ltb _ _ room, h)

            pub sheet_blocks : bad_sizes L s (variables_of s) 8 ≡ false → read_sheet L s ≡ blocks_from L s (blocks_of s) 0 (8 + variables_of s)
            unfolding read_sheet
            sheet_blocks h = simp (le-ltb _ _ h1, h2, eq-eqb _ _ h3, count_good one few, le-ltb _ _ room, h)
