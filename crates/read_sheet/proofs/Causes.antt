-- "[..] with a fault, and no other, is turned away under the one number [..] for its first fault", of a sheet: why reading answers as it does.
-- Assumes nothing.
use mathlib.Core.Path.{◌≡◌, refl, sym, ap, ◌∙◌, subst}
use mathlib.Core.Bool.{Bool, true, false, cond, ◌&&◌, ◌||◌}
use mathlib.Core.List.{List}
use mathlib.Core.Logic.{◌⊎◌, inl, inr, ◌≢◌, ◌↔◌}
use Prim.Native.Nat.{ℕ, zero, suc, ◌+◌, ◌-◌, ◌*◌, ◌^◌, ◌≤◌, ◌<◌}
use native.Mathlib.Nat.{suc-mul}
use native.Mathlib.Omega.{arith}
use lib.Dec.{eqb, leb}
use lib.ListN.{length}
use borrow.Author.Tests.{lt-ltb, le-ltb, le-leb, leb-true, eq-eqb, ne_eqb}
use Rattle.bounded.proofs.Causes.{cause_iff, number_iff}
use Rattle.bounded.proofs.Truth.{T_true, T_false, split, clash, eq_dec, lt_dec}
use Rattle.buffers.specs.Bytes.{byte_at, number_at}
use Rattle.sheet.specs.Sheet.{layout, sheet_number, version_of, length_of, variables_of, blocks_of, size_at, row_width, row_bytes, in_order, beyond, allows_all, block_of, block_at, blocks_from, bad_sizes, read_sheet, Block, SheetRead, accepted, next_block}
use Rattle.sheet.specs.Relation.{row_in}
use Rattle.sheet.specs.Refusals.{reading_number}
use Rattle.sheet.specs.declared.SheetRefusal.{SheetRefusal}
use Rattle.sheet.specs.declared.SheetRefusal.TheVariants.{TooShort, Version, Length, Variables, Sizes, PairMissing, PairOrder, RowsCut, RowBeyond, BarsNothing, LeftOver}
use Rattle.std.specs.Prelude.{Err, Ok, Some}
use Rattle.sheet.proofs.Refusals.{sheet_number_lem}
use Rattle.sheet.proofs.Versions.{taken_or, taken_test, untaken_test}
use Rattle.sheet.specs.Causes.{KnownVersion, UnknownVersion, InOrder, OutOfOrder, RowsWhole, PairCause, BlockCause, Reached, Stated, Counted, SizesGood, FaultAt, ReadCause}
use Rattle.sheet.proofs.Laws.{good_sizes, good_rows, none_beyond, all_full_lem, full_rows, in_order_lem, block_order, block_cut, block_beyond, block-bars-nothing, block_next, block_missing, block_there, blocks_fault, blocks_next, blocks_over, blocks_end, sheet_short, sheet_version, sheet_length, sheet_none, sheet_many, sheet_sizes_missing, sheet_sizes, sheet_blocks}

not_false_true : (b : Bool) → (b ≡ false → ⊥) → b ≡ true
not_false_true true h = refl
not_false_true false h = absurd (h refl)

module _ (s : List ℕ) where
  -- ---- tests over rows and sizes, and what is found where they fail

  module _ (w z : ℕ) where
    row_next : (p a : ℕ) → number_at s w (p + w + a * w) ≡ number_at s w (p + suc a * w)
    row_next p a = let m = suc-mul a w in let q : p + w + a * w ≡ p + suc a * w = omega arith in ap (number_at s w) q

    row_first : (p : ℕ) → number_at s w p ≡ number_at s w (p + 0 * w)
    row_first p = let q : p ≡ p + 0 * w = omega arith in ap (number_at s w) q

    beyond_found : (k p : ℕ) → beyond layout s w z k p ≡ true → (a : ℕ) × (a < k) × (2 ^ z ≤ number_at s w (p + a * w))
    unfolding beyond
    beyond_found zero p e = absurd (clash e refl)
    beyond_found (suc k) p e = go (split (leb (2 ^ z) (number_at s w p))) (beyond_found k (p + w))
      where
        Found : Type 0
        Found = (a : ℕ) × (a < suc k) × (2 ^ z ≤ number_at s w (p + a * w))

        go : (leb (2 ^ z) (number_at s w p) ≡ true) ⊎ (leb (2 ^ z) (number_at s w p) ≡ false)
            → (beyond layout s w z k (p + w) ≡ true → (a : ℕ) × (a < k) × (2 ^ z ≤ number_at s w (p + w + a * w))) → Found
        go (inl h) ih = (0, omega arith, subst (λ (x : ℕ). 2 ^ z ≤ x) (row_first p) (leb-true (2 ^ z) (number_at s w p) h))
        go (inr h) ih =
            let x = ih (sym (ap (λ (b : Bool). b || beyond layout s w z k (p + w)) h) ∙ e) in
            (suc x.0, omega (arith, x.1), subst (λ (y : ℕ). 2 ^ z ≤ y) (row_next p x.0) x.2)

    bar_found : (k p : ℕ) → allows_all layout s w z k p ≡ false → (a : ℕ) × (a < k) × (number_at s w (p + a * w) + 1 ≢ 2 ^ z)
    unfolding allows_all
    bar_found zero p e = absurd (clash refl e)
    bar_found (suc k) p e = go (eq_dec (number_at s w p + 1) (2 ^ z)) (bar_found k (p + w))
      where
        Found : Type 0
        Found = (a : ℕ) × (a < suc k) × (number_at s w (p + a * w) + 1 ≢ 2 ^ z)

        go : (number_at s w p + 1 ≡ 2 ^ z) ⊎ (number_at s w p + 1 ≢ 2 ^ z)
            → (allows_all layout s w z k (p + w) ≡ false → (a : ℕ) × (a < k) × (number_at s w (p + w + a * w) + 1 ≢ 2 ^ z)) → Found
        go (inl h) ih =
            let x = ih (sym (ap (λ (b : Bool). b && allows_all layout s w z k (p + w)) (eq-eqb (number_at s w p + 1) (2 ^ z) h)) ∙ e) in
            (suc x.0, omega (arith, x.1), λ q. x.2 (ap (λ (y : ℕ). y + 1) (row_next p x.0) ∙ q))
        go (inr d) ih = (0, omega arith, λ q. d (ap (λ (x : ℕ). x + 1) (row_first p) ∙ q))

  size_found : (k p : ℕ) → bad_sizes layout s k p ≡ true → (i : ℕ) × (i < k) × ((byte_at s (p + i) ≡ 0) ⊎ (16 < byte_at s (p + i)))
  unfolding bad_sizes
  size_found zero p e = absurd (clash e refl)
  size_found (suc k) p e = go (eq_dec (byte_at s p) 0) (lt_dec 16 (byte_at s p)) (size_found k (p + 1))
    where
      Found : Type 0
      Found = (i : ℕ) × (i < suc k) × ((byte_at s (p + i) ≡ 0) ⊎ (16 < byte_at s (p + i)))

      here : (byte_at s p ≡ 0) ⊎ (16 < byte_at s p) → Found
      here x = let q : p ≡ p + 0 = omega arith in (0, omega arith, subst (λ (j : ℕ). (byte_at s j ≡ 0) ⊎ (16 < byte_at s j)) q x)

      go : (byte_at s p ≡ 0) ⊎ (byte_at s p ≢ 0) → (16 < byte_at s p) ⊎ (byte_at s p ≤ 16)
          → (bad_sizes layout s k (p + 1) ≡ true → (i : ℕ) × (i < k) × ((byte_at s (p + 1 + i) ≡ 0) ⊎ (16 < byte_at s (p + 1 + i)))) → Found
      go (inl z) m ih = here (inl z)
      go (inr d) (inl m) ih = here (inr m)
      go (inr d) (inr m) ih =
          let x = ih (sym (λ t. (ne_eqb (byte_at s p) 0 d t || le-ltb 16 (byte_at s p) m t) || bad_sizes layout s k (p + 1)) ∙ e) in
          let q : p + 1 + x.0 ≡ p + suc x.0 = omega arith in
          (suc x.0, omega (arith, x.1), subst (λ (j : ℕ). (byte_at s j ≡ 0) ⊎ (16 < byte_at s j)) q x.2)

  -- ---- one block

  module _ (least p i j : ℕ) where
    ordered : InOrder s least i j → in_order layout s least i j ≡ true
    ordered x = λ t. (lt-ltb i j x.0 t && lt-ltb j (variables_of s) x.1 t) && le-leb least (32 * i + j) x.2 t

    unordered : OutOfOrder s least i j → in_order layout s least i j ≡ false
    unordered x = T_false _ (λ t. let o = in_order_lem layout s least i j (T_true _ t) in go x o.0 o.1.0 o.1.1)
      where
        go : OutOfOrder s least i j → i < j → j < variables_of s → least ≤ 32 * i + j → ⊥
        go (inl l) a b c = omega arith
        go (inr (inl l)) a b c = omega arith
        go (inr (inr l)) a b c = omega arith

    order_or : InOrder s least i j ⊎ OutOfOrder s least i j
    order_or = go (lt_dec i j) (lt_dec j (variables_of s)) (lt_dec (32 * i + j) least)
      where
        go : (i < j) ⊎ (j ≤ i) → (j < variables_of s) ⊎ (variables_of s ≤ j) → (32 * i + j < least) ⊎ (least ≤ 32 * i + j) → InOrder s least i j ⊎ OutOfOrder s least i j
        go (inr a) b c = inr (inl a)
        go (inl a) (inr b) c = inr (inr (inl b))
        go (inl a) (inl b) (inl c) = inr (inr (inr c))
        go (inl a) (inl b) (inr c) = inl (a, b, c)

    none_over : ((a : ℕ) → a < size_at s i → row_in layout s j (p + 2) a < 2 ^ size_at s j) → beyond layout s (row_width layout s j) (size_at s j) (size_at s i) (p + 2) ≡ false
    none_over h = none_beyond layout s (row_width layout s j) (size_at s j) (size_at s i) (p + 2) h

    pair_answers : (b : Block) → PairCause s least p i j b → block_of layout s least p i j ≡ b
    pair_answers (Err PairOrder) x = block_order layout s least p i j (unordered x)
    pair_answers (Err RowsCut) (o, h) = block_cut layout s least p i j (ordered o) h
    pair_answers (Err RowBeyond) (o, (w, x)) =
        block_beyond layout s least p i j (ordered o) w
        (not_false_true _ (λ f. let l = good_rows layout s (row_width layout s j) (size_at s j) (size_at s i) (p + 2) f x.0 x.1 in let m = x.2 in omega arith))
    pair_answers (Err BarsNothing) (o, (w, h)) =
        block-bars-nothing layout s least p i j (ordered o) w (none_over (λ a l. let e = h a l in omega arith)) (all_full_lem layout s (row_width layout s j) (size_at s j) (size_at s i) (p + 2) h)
    pair_answers (Ok _) (o, (w, (low, (x, (el, eq))))) =
        block_next layout s least p i j (ordered o) w (none_over low)
        (T_false _ (λ t. x.2 (full_rows layout s (row_width layout s j) (size_at s j) (size_at s i) (p + 2) (T_true _ t) x.0 x.1)))
        ∙ (λ t. next_block (sym el t) (sym eq t))
    pair_answers (Err TooShort) x = absurd x
    pair_answers (Err Version) x = absurd x
    pair_answers (Err Length) x = absurd x
    pair_answers (Err Variables) x = absurd x
    pair_answers (Err Sizes) x = absurd x
    pair_answers (Err PairMissing) x = absurd x
    pair_answers (Err LeftOver) x = absurd x

    some_pair : (b : Block) × PairCause s least p i j b
    some_pair = by_order order_or
      where
        Some : Type 0
        Some = (b : Block) × PairCause s least p i j b

        by_bars : InOrder s least i j → RowsWhole s p i j → beyond layout s (row_width layout s j) (size_at s j) (size_at s i) (p + 2) ≡ false
            → (allows_all layout s (row_width layout s j) (size_at s j) (size_at s i) (p + 2) ≡ true) ⊎ (allows_all layout s (row_width layout s j) (size_at s j) (size_at s i) (p + 2) ≡ false) → Some
        by_bars o w l (inl e) = (Err BarsNothing, (o, (w, full_rows layout s (row_width layout s j) (size_at s j) (size_at s i) (p + 2) e)))
        by_bars o w l (inr e) =
            (next_block (32 * i + j + 1) (p + 2 + row_bytes layout s i j), (o, (w, (good_rows layout s (row_width layout s j) (size_at s j) (size_at s i) (p + 2) l, (bar_found (row_width layout s j) (size_at s j) (size_at s i) (p + 2) e, (refl, refl))))))

        by_beyond : InOrder s least i j → RowsWhole s p i j
            → (beyond layout s (row_width layout s j) (size_at s j) (size_at s i) (p + 2) ≡ true) ⊎ (beyond layout s (row_width layout s j) (size_at s j) (size_at s i) (p + 2) ≡ false) → Some
        by_beyond o w (inl e) = (Err RowBeyond, (o, (w, beyond_found (row_width layout s j) (size_at s j) (size_at s i) (p + 2) e)))
        by_beyond o w (inr e) = by_bars o w e (split _)

        by_rows : InOrder s least i j → (length s < p + 2 + row_bytes layout s i j) ⊎ RowsWhole s p i j → Some
        by_rows o (inl h) = (Err RowsCut, (o, h))
        by_rows o (inr w) = by_beyond o w (split _)

        by_order : InOrder s least i j ⊎ OutOfOrder s least i j → Some
        by_order (inr x) = (Err PairOrder, x)
        by_order (inl o) = by_rows o (lt_dec _ _)

  block_answers : (least p : ℕ) (b : Block) → BlockCause s least p b → block_at layout s least p ≡ b
  block_answers least p b (inl x) = block_missing layout s least p x.1 ∙ sym x.0
  block_answers least p b (inr x) = block_there layout s least p x.0 ∙ pair_answers least p (byte_at s p) (byte_at s (p + 1)) b x.1

  some_block : (least p : ℕ) → (b : Block) × BlockCause s least p b
  some_block least p = go (lt_dec (length s) (p + 2))
    where
      go : (length s < p + 2) ⊎ (p + 2 ≤ length s) → (b : Block) × BlockCause s least p b
      go (inl h) = (Err PairMissing, inl (refl, h))
      go (inr h) = let x = some_pair least p (byte_at s p) (byte_at s (p + 1)) in (x.0, inr (h, x.1))

  -- ---- the blocks in turn

  along : (k least p : ℕ) → Reached s k least p → k ≤ blocks_of s → blocks_from layout s (blocks_of s) 0 (8 + variables_of s) ≡ blocks_from layout s (blocks_of s - k) least p
  along zero least p (e, f) h = let q : blocks_of s ≡ blocks_of s - 0 = omega arith in (λ t. blocks_from layout s (q t) (sym e t) (sym f t))
  along (suc k) least p (l, q, r, c) h =
      let e : blocks_of s - k - 1 ≡ blocks_of s - suc k = omega arith in
      along k l q r (omega arith) ∙ blocks_next layout s (blocks_of s - k) l q (omega arith) least p (block_answers l q (next_block least p) c)
      ∙ ap (λ (x : ℕ). blocks_from layout s x least p) e

  -- ---- the sheet

  -- a good size is not a bad one
  size_good : (i : ℕ) → (1 ≤ size_at s i) × (size_at s i ≤ 16) → (size_at s i ≡ 0) ⊎ (16 < size_at s i) → ⊥
  size_good i g (inl e) = let a = g.0 in omega arith
  size_good i g (inr l) = let b = g.1 in omega arith

  versioned : KnownVersion (version_of s) → layout.takes (version_of s) ≡ true
  versioned = taken_test (version_of s)

  opened : SizesGood s → read_sheet layout s ≡ blocks_from layout s (blocks_of s) 0 (8 + variables_of s)
  opened (((h1, h2, h3), (one, few)), (room, sizes)) =
      sheet_blocks layout s h1 (versioned h2) h3 one few room
      (T_false _ (λ t. let x = size_found (variables_of s) 8 (T_true _ t) in size_good x.0 (sizes x.0 x.1) x.2))

  fault_answers : (r : SheetRefusal) → FaultAt s r → read_sheet layout s ≡ Err r
  fault_answers r (Z, (k, least, p, l, R, c)) =
      opened Z ∙ along k least p R (omega arith) ∙ blocks_fault layout s (blocks_of s - k) least p (omega arith) r (block_answers least p (Err r) c)

  to_the_end : (least p : ℕ) → Reached s (blocks_of s) least p → blocks_from layout s (blocks_of s) 0 (8 + variables_of s) ≡ blocks_from layout s 0 least p
  to_the_end least p R = let e : blocks_of s - blocks_of s ≡ 0 = omega arith in along (blocks_of s) least p R (omega arith) ∙ ap (λ (x : ℕ). blocks_from layout s x least p) e

  cause_answers : (x : SheetRead) → ReadCause s x → read_sheet layout s ≡ x
  cause_answers (Err TooShort) h = sheet_short layout s h
  cause_answers (Err Version) (h1, d) = sheet_version layout s h1 (untaken_test (version_of s) d)
  cause_answers (Err Length) (h1, h2, d) = sheet_length layout s h1 (versioned h2) d
  cause_answers (Err Variables) ((h1, h2, h3), inl z) = sheet_none layout s h1 (versioned h2) h3 z
  cause_answers (Err Variables) ((h1, h2, h3), inr l) = sheet_many layout s h1 (versioned h2) h3 l
  cause_answers (Err Sizes) (((h1, h2, h3), (one, few)), x) = by_sizes (lt_dec (length s) (8 + variables_of s)) x
    where
      by_sizes : (length s < 8 + variables_of s) ⊎ (8 + variables_of s ≤ length s) → (length s < 8 + variables_of s) ⊎ ((i : ℕ) × (i < variables_of s) × ((size_at s i ≡ 0) ⊎ (16 < size_at s i)))
          → read_sheet layout s ≡ Err Sizes
      by_sizes (inl h) x = sheet_sizes_missing layout s h1 (versioned h2) h3 one few h
      by_sizes (inr room) (inl h) = absurd (omega arith)
      by_sizes (inr room) (inr x) = sheet_sizes layout s h1 (versioned h2) h3 one few room (not_false_true _ (λ f. size_good x.0 (good_sizes layout s (variables_of s) 8 f x.0 x.1) x.2))
  cause_answers (Err PairMissing) x = fault_answers PairMissing x
  cause_answers (Err PairOrder) x = fault_answers PairOrder x
  cause_answers (Err RowsCut) x = fault_answers RowsCut x
  cause_answers (Err RowBeyond) x = fault_answers RowBeyond x
  cause_answers (Err BarsNothing) x = fault_answers BarsNothing x
  cause_answers (Err LeftOver) (Z, (least, p, R, d)) = opened Z ∙ to_the_end least p R ∙ blocks_over layout s least p d
  cause_answers (Ok _) (Z, ((least, p, R, e), (en, em))) = opened Z ∙ to_the_end least p R ∙ blocks_end layout s least p e ∙ (λ t. accepted (sym en t) (sym em t))

  -- a fault that no block has
  no_such : (least p : ℕ) (r : SheetRefusal) → (◌≡◌ {A = Block} (Err r) (Err PairMissing) → ⊥) → (PairCause s least p (byte_at s p) (byte_at s (p + 1)) (Err r) → ⊥) → BlockCause s least p (Err r) → ⊥
  no_such least p r n c (inl x) = n x.0
  no_such least p r n c (inr x) = c x.1

  block_fault : (r : SheetRefusal) → FaultAt s r → (x : SheetRead) × ReadCause s x
  block_fault PairMissing x = (Err PairMissing, x)
  block_fault PairOrder x = (Err PairOrder, x)
  block_fault RowsCut x = (Err RowsCut, x)
  block_fault RowBeyond x = (Err RowBeyond, x)
  block_fault BarsNothing x = (Err BarsNothing, x)
  block_fault TooShort (Z, (k, least, p, l, R, c)) = absurd (no_such least p TooShort (λ e. let z : ◌≡◌ {A = ℕ} 0 1 = cc in omega arith) (λ x. x) c)
  block_fault Version (Z, (k, least, p, l, R, c)) = absurd (no_such least p Version (λ e. let z : ◌≡◌ {A = ℕ} 0 1 = cc in omega arith) (λ x. x) c)
  block_fault Length (Z, (k, least, p, l, R, c)) = absurd (no_such least p Length (λ e. let z : ◌≡◌ {A = ℕ} 0 1 = cc in omega arith) (λ x. x) c)
  block_fault Variables (Z, (k, least, p, l, R, c)) = absurd (no_such least p Variables (λ e. let z : ◌≡◌ {A = ℕ} 0 1 = cc in omega arith) (λ x. x) c)
  block_fault Sizes (Z, (k, least, p, l, R, c)) = absurd (no_such least p Sizes (λ e. let z : ◌≡◌ {A = ℕ} 0 1 = cc in omega arith) (λ x. x) c)
  block_fault LeftOver (Z, (k, least, p, l, R, c)) = absurd (no_such least p LeftOver (λ e. let z : ◌≡◌ {A = ℕ} 0 1 = cc in omega arith) (λ x. x) c)

  -- the blocks in turn, m of them left after k good ones
  walk : SizesGood s → (m k least p : ℕ) → k + m ≡ blocks_of s → Reached s k least p → (x : SheetRead) × ReadCause s x
  walk Z zero k least p e R =
      let q : k ≡ blocks_of s = omega arith in
      let E = subst (λ (x : ℕ). Reached s x least p) q R in
      elim (eq_dec p (length s)) [ inl f ↦ (accepted (variables_of s) (blocks_of s), (Z, ((least, p, E, f), (refl, refl)))) | inr d ↦ (Err LeftOver, (Z, (least, p, E, d))) ]
  walk Z (suc m) k least p e R = go (some_block least p).0 (some_block least p).1 (walk Z m (suc k))
    where
      go : (b : Block) → BlockCause s least p b → ((l q : ℕ) → suc k + m ≡ blocks_of s → Reached s (suc k) l q → (x : SheetRead) × ReadCause s x) → (x : SheetRead) × ReadCause s x
      go (Err r) c ih = block_fault r (Z, (k, least, p, omega arith, R, c))
      go (Ok a) c ih = ih a.least a.at (omega arith) (least, p, R, c)

  some_cause : (x : SheetRead) × ReadCause s x
  some_cause = by_eight (lt_dec (length s) 8)
    where
      by_sizes : Counted s → (length s < 8 + variables_of s) ⊎ (8 + variables_of s ≤ length s) → (bad_sizes layout s (variables_of s) 8 ≡ true) ⊎ (bad_sizes layout s (variables_of s) 8 ≡ false) → (x : SheetRead) × ReadCause s x
      by_sizes C (inl h) b = (Err Sizes, (C, inl h))
      by_sizes C (inr h) (inl b) = (Err Sizes, (C, inr (size_found (variables_of s) 8 b)))
      by_sizes C (inr h) (inr b) = walk (C, (h, good_sizes layout s (variables_of s) 8 b)) (blocks_of s) 0 0 (8 + variables_of s) (omega arith) (refl, refl)

      by_count : Stated s → (variables_of s ≡ 0) ⊎ (variables_of s ≢ 0) → (32 < variables_of s) ⊎ (variables_of s ≤ 32) → (x : SheetRead) × ReadCause s x
      by_count S (inl z) m = (Err Variables, (S, inl z))
      by_count S (inr d) (inl m) = (Err Variables, (S, inr m))
      by_count S (inr d) (inr m) = by_sizes (S, (omega arith, m)) (lt_dec _ _) (split _)

      by_length : 8 ≤ length s → KnownVersion (version_of s) → (length_of s ≡ length s) ⊎ (length_of s ≢ length s) → (x : SheetRead) × ReadCause s x
      by_length h v (inl e) = by_count (h, v, e) (eq_dec _ _) (lt_dec _ _)
      by_length h v (inr d) = (Err Length, (h, v, d))

      by_version : 8 ≤ length s → KnownVersion (version_of s) ⊎ UnknownVersion (version_of s) → (x : SheetRead) × ReadCause s x
      by_version h (inl v) = by_length h v (eq_dec _ _)
      by_version h (inr d) = (Err Version, (h, d))

      by_eight : (length s < 8) ⊎ (8 ≤ length s) → (x : SheetRead) × ReadCause s x
      by_eight (inl h) = (Err TooShort, h)
      by_eight (inr h) = by_version h (taken_or (version_of s))

  -- Reading a sheet answers as it does for its cause and for no other.
  pub read_iff : (x : SheetRead) → (read_sheet layout s ≡ x) ↔ ReadCause s x
  read_iff = cause_iff (read_sheet layout s) (ReadCause s) cause_answers some_cause

  -- ---- the numbers

  -- the answer that a number but 0 and 6 stands for
  abbrev numbered : ℕ → SheetRead
  numbered k =
      cond (eqb k 1) (Err TooShort)
      (cond (eqb k 2) (Err Version)
      (cond (eqb k 3) (Err Length)
      (cond (eqb k 4) (Err Variables)
      (cond (eqb k 5) (Err Sizes)
      (cond (eqb k 7) (Err PairOrder)
      (cond (eqb k 8) (Err RowBeyond)
      (Err BarsNothing)))))))

  number_back : (x : SheetRead) → reading_number x ≢ 0 → reading_number x ≢ 6 → numbered (reading_number x) ≡ x
  number_back (Ok _) z h = absurd (z refl)
  number_back (Err TooShort) z h = refl
  number_back (Err Version) z h = refl
  number_back (Err Length) z h = refl
  number_back (Err Variables) z h = refl
  number_back (Err Sizes) z h = refl
  number_back (Err PairOrder) z h = refl
  number_back (Err RowBeyond) z h = refl
  number_back (Err BarsNothing) z h = refl
  number_back (Err PairMissing) z h = absurd (h refl)
  number_back (Err RowsCut) z h = absurd (h refl)
  number_back (Err LeftOver) z h = absurd (h refl)

  -- each number but 6 has one cause
  pub read_number : (r : SheetRefusal) → sheet_number r ≢ 6 → (reading_number (read_sheet layout s) ≡ sheet_number r) ↔ ReadCause s (Err r)
  read_number r h =
      number_iff (read_sheet layout s) (ReadCause s) read_iff reading_number numbered (λ k. (k ≢ 0) × (k ≢ 6)) (λ x n. number_back x n.0 n.1) (Err r)
      (λ z. let l = sheet_number_lem r in omega arith, h)

  -- 6 has three
  pub read_6 : (reading_number (read_sheet layout s) ≡ 6) ↔ (ReadCause s (Err PairMissing) ⊎ (ReadCause s (Err RowsCut) ⊎ ReadCause s (Err LeftOver)))
  read_6 = (λ e. go (read_sheet layout s) refl e, back)
    where
      Causes : Type 0
      Causes = ReadCause s (Err PairMissing) ⊎ (ReadCause s (Err RowsCut) ⊎ ReadCause s (Err LeftOver))

      back : ReadCause s (Err PairMissing) ⊎ (ReadCause s (Err RowsCut) ⊎ ReadCause s (Err LeftOver)) → reading_number (read_sheet layout s) ≡ 6
      back (inl x) = ap reading_number ((read_iff (Err PairMissing)).1 x)
      back (inr (inl x)) = ap reading_number ((read_iff (Err RowsCut)).1 x)
      back (inr (inr x)) = ap reading_number ((read_iff (Err LeftOver)).1 x)

      go : (x : SheetRead) → read_sheet layout s ≡ x → reading_number (read_sheet layout s) ≡ 6 → Causes
      go (Err PairMissing) e h = inl ((read_iff (Err PairMissing)).0 e)
      go (Err RowsCut) e h = inr (inl ((read_iff (Err RowsCut)).0 e))
      go (Err LeftOver) e h = inr (inr ((read_iff (Err LeftOver)).0 e))
      go (Ok _) e h = absurd (let q = ap reading_number e in omega arith)
      go (Err TooShort) e h = absurd (let q = ap reading_number e in omega arith)
      go (Err Version) e h = absurd (let q = ap reading_number e in omega arith)
      go (Err Length) e h = absurd (let q = ap reading_number e in omega arith)
      go (Err Variables) e h = absurd (let q = ap reading_number e in omega arith)
      go (Err Sizes) e h = absurd (let q = ap reading_number e in omega arith)
      go (Err PairOrder) e h = absurd (let q = ap reading_number e in omega arith)
      go (Err RowBeyond) e h = absurd (let q = ap reading_number e in omega arith)
      go (Err BarsNothing) e h = absurd (let q = ap reading_number e in omega arith)
