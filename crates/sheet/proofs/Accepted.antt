-- What an accepted sheet shows, for whoever goes through it. Assumes nothing.
use mathlib.Core.Path.{◌≡◌, refl, sym, ap, ◌∙◌}
use mathlib.Core.Bool.{Bool, true, false, not, cond, ◌&&◌, ◌||◌}
use mathlib.Core.Logic.{◌≢◌, ◌⊎◌, inl, inr, ⊎_elim}
use mathlib.Core.List.{List}
use Prim.Native.Nat.{ℕ, zero, suc, ◌+◌, ◌-◌, ◌*◌, ◌/◌, ◌%◌, ◌^◌, ◌≤◌, ◌<◌}
use native.Mathlib.Nat.{mul-le-mul_left, mul-suc, mul_comm}
use native.Mathlib.Omega.{arith}
use lib.ListN.{length}
use lib.Dec.{T, eqb, ltb, leb}
use borrow.Author.Tests.{ltb-true, ltb-false, leb-true, eqb-true, eqb-false, lt-ltb, le-ltb, le-leb, not-false}
use Rattle.bounded.specs.Quantifiers.{count_below, sum_to}
use Rattle.bounded.proofs.Truth.{T_true, T_of, T_not, both, neither}
use Rattle.bounded.proofs.Quantifiers.{count_lt}
use Rattle.problem.specs.Held.{Bounded}
use Rattle.problem.proofs.BothWays.{both_up, both_down, both_same}
use Rattle.buffers.specs.Bytes.{byte_at}
use Rattle.sheet.specs.Sheet.{Layout, one_byte, layout, version_of, length_of, variables_of, blocks_of, size_at, row_width, row_bytes, allows_all, block_at, refuse_if, after_block, blocks_from, bad_count, bad_sizes, read_sheet, Keeps, Front, Block, SheetRead, accepted}
use Rattle.sheet.specs.Relation.{rows_from, rows_of, row_in, rows_allow, pair_allowed, size_of, listed, allowed_of, problem_of}
use Rattle.sheet.specs.Parts.{BlockAt}
use Rattle.sheet.specs.declared.SheetRefusal.{SheetRefusal}
use Rattle.sheet.specs.declared.SheetRefusal.TheVariants.{TooShort, Version, Length, Variables, Sizes, LeftOver}
use Rattle.std.specs.Prelude.{Err, None, Some, Ok}
use Rattle.sheet.proofs.Laws.{accepted_parts, pos, rows_small, good_sizes, good_rows, in_order_lem, whole}

module _ (L : Layout) (s : List ℕ) where
  -- a test that an accepted sheet has passed, and what follows it
  kept : {n m : ℕ} (t : Bool) (f : SheetRefusal) (r : SheetRead) → refuse_if L s t f r ≡ accepted n m → (t ≡ false) × (r ≡ accepted n m)
  kept true f r e = let z : ◌≡◌ {A = ℕ} 0 1 = cc in absurd (omega arith)
  kept false f r e = (refl, e)

  -- k blocks from p are good to the end, where least is the least place in the order for the first
  abbrev pub Good : ℕ → ℕ → ℕ → Type 0
  Good k least p = blocks_from L s k least p ≡ accepted (variables_of s) (blocks_of s)

  -- what an accepted sheet is
  pub record Facts : Type 0 where
    pub eight : 8 ≤ length s
    pub taken : L.takes (version_of s) ≡ true
    pub whole : length_of s ≡ length s
    pub front : Front s
    pub laid : Good (blocks_of s) 0 (8 + variables_of s)

  -- the tests that a sheet has passed whose blocks answer what it answers
  opened : {n m : ℕ} → read_sheet L s ≡ accepted n m → (8 ≤ length s) × (L.takes (version_of s) ≡ true) × (length_of s ≡ length s) × Front s × (blocks_from L s (blocks_of s) 0 (8 + variables_of s) ≡ accepted n m)
  unfolding read_sheet
  opened e =
      let n = variables_of s in
      let e1 = kept (ltb (length s) 8) TooShort _ e in
      let e2 = kept (not (L.takes (version_of s))) Version _ e1.1 in
      let e3 = kept (not (eqb (length_of s) (length s))) Length _ e2.1 in
      let e4 = kept (bad_count L s) Variables _ e3.1 in
      let e5 = kept (ltb (length s) (8 + n) || bad_sizes L s n 8) Sizes _ e4.1 in
      let c = neither (eqb n 0) (ltb 32 n) e4.0 in
      let z = neither (ltb (length s) (8 + n)) (bad_sizes L s n 8) e5.0 in
      let nz : n ≡ 0 → ⊥ = eqb-false n 0 c.0 in
      let some : 1 ≤ n = omega arith in
      let front : Front s = record { some = some; few = ltb-false 32 n c.1; room = ltb-false (length s) (8 + n) z.0; sizes = good_sizes L s n 8 z.1 } in
      (ltb-false (length s) 8 e1.0, not-false _ e2.0, eqb-true (length_of s) (length s) (not-false _ e3.0), front, e5.1)

  pub facts : Keeps L s → Facts
  facts e = let o = opened e in record { eight = o.0; taken = o.1; whole = o.2; front = o.3; laid = o.4 }

  -- blocks that are good answer the variables and the blocks of the sheet
  after_answers : (a b : ℕ) (x : Block) (rest : ℕ → ℕ → SheetRead)
      → ((l p : ℕ) → rest l p ≡ accepted a b → (a ≡ variables_of s) × (b ≡ blocks_of s)) → after_block L s x rest ≡ accepted a b → (a ≡ variables_of s) × (b ≡ blocks_of s)
  after_answers a b (Err x) rest h e = let z : ◌≡◌ {A = ℕ} 0 1 = cc in absurd (omega arith)
  after_answers a b (Ok r) rest h e = h r.least r.at e

  answers : (a b k least p : ℕ) → blocks_from L s k least p ≡ accepted a b → (a ≡ variables_of s) × (b ≡ blocks_of s)
  unfolding blocks_from
  answers a b zero least p e =
      let f = kept (not (eqb p (length s))) LeftOver (accepted (variables_of s) (blocks_of s)) e in
      accepted_parts (sym f.1)
  answers a b (suc k) least p e = after_answers a b (block_at L s least p) (blocks_from L s k) (answers a b k) e

  -- what is accepted keeps the layout
  pub keeps : (n m : ℕ) → read_sheet L s ≡ accepted n m → Keeps L s
  keeps n m e =
      let g = answers n m (blocks_of s) 0 (8 + variables_of s) (opened e).4 in
      e ∙ ap (λ (x : ℕ). accepted x m) g.0 ∙ ap (accepted (variables_of s)) g.1

  -- the block at p where the blocks from there are good, and the rest
  pub record Here (k least p : ℕ) : Type 0 where
    pub block : BlockAt L s p
    pub after : least ≤ 32 * byte_at s p + byte_at s (p + 1)
    pub low : (a : ℕ) → a < size_at s (byte_at s p) → row_in L s (byte_at s (p + 1)) (p + 2) a < 2 ^ size_at s (byte_at s (p + 1))
    pub bars : allows_all L s (row_width L s (byte_at s (p + 1))) (size_at s (byte_at s (p + 1))) (size_at s (byte_at s p)) (p + 2) ≡ false
    pub rest : Good (k - 1) (32 * byte_at s p + byte_at s (p + 1) + 1) (p + 2 + row_bytes L s (byte_at s p) (byte_at s (p + 1)))

  from_next : (k least p : ℕ) (b : Block) → block_at L s least p ≡ b → after_block L s b (blocks_from L s (k - 1)) ≡ accepted (variables_of s) (blocks_of s) → Here k least p
  from_next k least p (Err f) e g = let z : ◌≡◌ {A = ℕ} 0 1 = cc in absurd (omega arith)
  from_next k least p (Ok r) e g =
      let w = whole L s least p r.least r.at e in
      let o = in_order_lem L s least (byte_at s p) (byte_at s (p + 1)) w.order in
      record {
        block = record { rises = o.0; ends = o.1.0; within = w.within };
        after = o.1.1;
        low = good_rows L s (row_width L s (byte_at s (p + 1))) (size_at s (byte_at s (p + 1))) (size_at s (byte_at s p)) (p + 2) w.low;
        bars = w.bars;
        rest = ap (λ (x : ℕ). blocks_from L s (k - 1) x (p + 2 + row_bytes L s (byte_at s p) (byte_at s (p + 1)))) (sym w.key) ∙ ap (blocks_from L s (k - 1) r.least) (sym w.next) ∙ g;
      }

  pub here : (k least p : ℕ) → 0 < k → Good k least p → Here k least p
  unfolding blocks_from
  here k least p h y = from_next k least p (block_at L s least p) refl (sym (ap (λ (x : ℕ). blocks_from L s x least p) (pos h)) ∙ y)

  -- after the last block the sheet ends
  pub at_end : (least p : ℕ) → Good 0 least p → p ≡ length s
  unfolding blocks_from
  at_end least p e =
      let f = kept (not (eqb p (length s))) LeftOver (accepted (variables_of s) (blocks_of s)) e in
      eqb-true p (length s) (not-false _ f.0)

  -- ---- rows that are found

  -- where the item bytes at p are i and j
  pub is_pair : (i j p : ℕ) → (eqb (byte_at s p) i && eqb (byte_at s (p + 1)) j) ≡ true → (byte_at s p ≡ i) × (byte_at s (p + 1) ≡ j)
  is_pair i j p e =
      let f = both (eqb (byte_at s p) i) (eqb (byte_at s (p + 1)) j) e in
      (eqb-true (byte_at s p) i f.0, eqb-true (byte_at s (p + 1)) j f.1)

  rows_case : (i j k p : ℕ) (t : Bool) → (eqb (byte_at s p) i && eqb (byte_at s (p + 1)) j) ≡ t
      → rows_from L s i j (suc k) p ≡ cond t (Some (p + 2)) (rows_from L s i j k (p + 2 + row_bytes L s (byte_at s p) (byte_at s (p + 1))))
  unfolding rows_from
  rows_case i j k p true e = rw (e, rows_from)
  rows_case i j k p false e = rw (e, rows_from)

  module _ (i j k p : ℕ) (h : 0 < k) where
    pub rows_hit : (eqb (byte_at s p) i && eqb (byte_at s (p + 1)) j) ≡ true → rows_from L s i j k p ≡ Some (p + 2)
    rows_hit e = ap (λ (x : ℕ). rows_from L s i j x p) (pos h) ∙ rows_case i j (k - 1) p true e

    pub rows_miss : (eqb (byte_at s p) i && eqb (byte_at s (p + 1)) j) ≡ false
        → rows_from L s i j k p ≡ rows_from L s i j (k - 1) (p + 2 + row_bytes L s (byte_at s p) (byte_at s (p + 1)))
    rows_miss e = ap (λ (x : ℕ). rows_from L s i j x p) (pos h) ∙ rows_case i j (k - 1) p false e

  pub rows_end : (i j p : ℕ) → rows_from L s i j 0 p ≡ None
  unfolding rows_from
  rows_end i j p = refl

  pub rows_of_lem : (i j : ℕ) → rows_of L s i j ≡ rows_from L s i j (blocks_of s) (8 + variables_of s)
  unfolding rows_of
  rows_of_lem i j = refl

  -- rows of i and j that start at r: after the item bytes of their block, of two items in order, all within the sheet, none with a bit
  -- that j lacks, and something barred
  pub record Found (i j r : ℕ) : Type 0 where
    pub block : ℕ
    pub starts : r ≡ block + 2
    pub first : byte_at s block ≡ i
    pub second : byte_at s (block + 1) ≡ j
    pub rises : i < j
    pub ends : j < variables_of s
    pub within : r + row_bytes L s i j ≤ length s
    pub low : (a : ℕ) → a < size_at s i → row_in L s j r a < 2 ^ size_at s j
    pub bars : allows_all L s (row_width L s j) (size_at s j) (size_at s i) r ≡ false

  found_here : (i j k least p r : ℕ) → Here k least p → byte_at s p ≡ i → byte_at s (p + 1) ≡ j → p + 2 ≡ r → Found i j r
  found_here i j k least p r h ei ej er =
      rw (← ei, ← ej, ← er)
      record { block = p; starts = refl; first = refl; second = refl; rises = h.block.rises; ends = h.block.ends; within = h.block.within; low = h.low; bars = h.bars }

  found_from : (i j k least p r : ℕ) → Good k least p → rows_from L s i j k p ≡ Some r → Found i j r
  unfolding rows_from
  found_from i j zero least p r g e = let z : ◌≡◌ {A = ℕ} 0 1 = cc in absurd (omega arith)
  found_from i j (suc k) least p r g e = go (eqb (byte_at s p) i && eqb (byte_at s (p + 1)) j) refl (here (suc k) least p (omega arith) g) (found_from i j k)
    where
      go : (t : Bool) → (eqb (byte_at s p) i && eqb (byte_at s (p + 1)) j) ≡ t → Here (suc k) least p
          → ((least p r : ℕ) → Good k least p → rows_from L s i j k p ≡ Some r → Found i j r) → Found i j r
      go true t h ih = let q = is_pair i j p t in let f = rows_case i j k p true t in found_here i j (suc k) least p r h q.0 q.1 (cc)
      go false t h ih = let less : suc k - 1 ≡ k = omega arith in ih _ _ r (rw less at h.rest) (sym (rows_case i j k p false t) ∙ e)

  pub found : (i j r : ℕ) → Keeps L s → rows_of L s i j ≡ Some r → Found i j r
  unfolding rows_of
  found i j r y e = found_from i j (blocks_of s) 0 (8 + variables_of s) r (facts y).laid e

  -- ---- the problem of the sheet

  pub size_in : (i : ℕ) → i < variables_of s → size_of L s i ≡ size_at s i
  unfolding size_of
  size_in i h = simp (lt-ltb _ _ h)

  pub size_out : (i : ℕ) → variables_of s ≤ i → size_of L s i ≡ 0
  unfolding size_of
  size_out i h = simp (le-ltb _ _ h)

  pub listed_in : (i a : ℕ) → listed L s i a ≡ true → (i < variables_of s) × (a < size_at s i)
  unfolding listed
  listed_in i a e =
      let f = both (ltb i (variables_of s)) (ltb a (size_of L s i)) e in
      let h = ltb-true i (variables_of s) f.0 in
      (h, rw (size_in i h) at (ltb-true a (size_of L s i) f.1))

  pub listed_of : (i a : ℕ) → i < variables_of s → a < size_at s i → listed L s i a ≡ true
  unfolding listed
  listed_of i a h k = let l : a < size_of L s i = rw (size_in i h) k in simp (lt-ltb _ _ h, lt-ltb _ _ l)

  pub listed_out : (i a : ℕ) → size_of L s i ≤ a → listed L s i a ≡ false
  unfolding listed
  listed_out i a h = go (ltb i (variables_of s))
    where
      go : (t : Bool) → (t && ltb a (size_of L s i)) ≡ false
      go true = le-ltb _ _ h
      go false = refl

  -- allowed, of what the sheet lists and of what it does not
  allowed_case : (i a j b : ℕ) (t : Bool) → (listed L s i a && listed L s j b) ≡ t → allowed_of L s i a j b ≡ cond t (pair_allowed L s i a j b) false
  unfolding allowed_of
  allowed_case i a j b true e = rw (e, allowed_of)
  allowed_case i a j b false e = rw (e, allowed_of)

  pub allowed_listed : (i a j b : ℕ) → listed L s i a ≡ true → listed L s j b ≡ true → allowed_of L s i a j b ≡ pair_allowed L s i a j b
  allowed_listed i a j b p q = allowed_case i a j b true (simp (p, q))

  pub allowed_left : (i a j b : ℕ) → listed L s i a ≡ false → allowed_of L s i a j b ≡ false
  allowed_left i a j b p = allowed_case i a j b false (simp p)

  pub allowed_right : (i a j b : ℕ) → listed L s j b ≡ false → allowed_of L s i a j b ≡ false
  allowed_right i a j b p = allowed_case i a j b false (go (listed L s i a) (listed L s j b) p)
    where
      go : (x y : Bool) → y ≡ false → (x && y) ≡ false
      go true y e = e
      go false y e = refl

  pub pair_up : (i a j b : ℕ) → i < j → pair_allowed L s i a j b ≡ rows_allow L s (rows_of L s i j) j a b
  unfolding pair_allowed
  pair_up i a j b h = both_up _ i a j b h

  pub pair_down : (i a j b : ℕ) → j < i → pair_allowed L s i a j b ≡ rows_allow L s (rows_of L s j i) i b a
  unfolding pair_allowed
  pair_down i a j b h = both_down _ i a j b h

  pub pair_same : (i a j b : ℕ) → i ≡ j → pair_allowed L s i a j b ≡ false
  unfolding pair_allowed
  pair_same i a j b e = both_same _ i a j b e

  pub allowed_same : (i a j b : ℕ) → i ≡ j → allowed_of L s i a j b ≡ false
  allowed_same i a j b e = go (listed L s i a && listed L s j b) refl
    where
      go : (t : Bool) → (listed L s i a && listed L s j b) ≡ t → allowed_of L s i a j b ≡ false
      go true h = allowed_case i a j b true h ∙ pair_same i a j b e
      go false h = allowed_case i a j b false h

  allows_only : (i a j b : ℕ) → T (allowed_of L s i a j b) → (i < variables_of s) × (a < size_of L s i) × (j < variables_of s) × (b < size_of L s j) × (i ≢ j)
  allows_only i a j b t = go (listed L s i a) refl (listed L s j b) refl
    where
      go : (x : Bool) → listed L s i a ≡ x → (y : Bool) → listed L s j b ≡ y → (i < variables_of s) × (a < size_of L s i) × (j < variables_of s) × (b < size_of L s j) × (i ≢ j)
      go false e y g = absurd (T_not (allowed_left i a j b e) t)
      go true e false g = absurd (T_not (allowed_right i a j b g) t)
      go true e true g =
          let p = listed_in i a e in
          let q = listed_in j b g in
          let x : a < size_of L s i = rw (size_in i p.0) p.1 in
          let y : b < size_of L s j = rw (size_in j q.0) q.1 in
          (p.0, x, q.0, y, λ same. T_not (allowed_listed i a j b e g ∙ pair_same i a j b same) t)

  -- a size is at most 16
  pub size_small : Keeps L s → (i : ℕ) → size_of L s i ≤ 16
  size_small y i = go (ltb i (variables_of s)) refl
    where
      go : (t : Bool) → ltb i (variables_of s) ≡ t → size_of L s i ≤ 16
      go true e = let h = ltb-true i (variables_of s) e in rw (size_in i h) ((facts y).front.sizes i h).1
      go false e = let h = ltb-false i (variables_of s) e in rw (size_out i h) (omega arith)

  -- a table can hold the problem of a sheet of any layout
  pub bounded : Keeps L s → Bounded (problem_of L s)
  unfolding problem_of
  bounded y =
      let f = (facts y).front in
      record {
        few = f.few;
        some = λ i h. rw (size_in i h) (f.sizes i h).0;
        narrow = size_small y;
        none = size_out;
        listed = allows_only;
      }

pub problem_bounded : (s : List ℕ) → Keeps layout s → Bounded (problem_of layout s)
problem_bounded s y = bounded layout s y

-- ---- the longest sheet

-- a pair at place x of the order that may still come
abbrev comes : ℕ → ℕ → Bool
comes least x = leb least x && ltb (x / 32) (x % 32)

abbrev remaining : ℕ → ℕ
remaining least = count_below 1024 (comes least)

-- after the pair of i and j fewer may come
fewer : (least i j : ℕ) → i < j → j < 32 → least ≤ 32 * i + j → remaining (32 * i + j + 1) < remaining least
fewer least i j r e h =
    count_lt 1024 (comes (32 * i + j + 1)) (comes least)
    (λ x l t.
    let b = both (leb (32 * i + j + 1) x) (ltb (x / 32) (x % 32)) (T_true _ t) in
    let m = leb-true (32 * i + j + 1) x b.0 in
    let u : leb least x ≡ true = le-leb least x (omega arith) in
    let v : comes least x ≡ true = simp (u, b.1) in
    T_of v)
    (32 * i + j) (omega arith)
    (λ t.
    let b = both (leb (32 * i + j + 1) (32 * i + j)) _ (T_true _ t) in
    let m = leb-true (32 * i + j + 1) (32 * i + j) b.0 in
    omega arith)
    (let u : leb least (32 * i + j) ≡ true = le-leb least (32 * i + j) h in
    let d : (32 * i + j) / 32 ≡ i = omega arith in
    let m : (32 * i + j) % 32 ≡ j = omega arith in
    let v : comes least (32 * i + j) ≡ true = simp (u, d, m, lt-ltb i j r) in
    T_of v)

all_remain : remaining 0 ≡ 496
unfolding count_below sum_to
all_remain = refl

-- where the rows of a block have at most c bytes
module _ (L : Layout) (s : List ℕ) (c : ℕ) (small : (i j : ℕ) → i < variables_of s → j < variables_of s → row_bytes L s i j ≤ c) where
  longest_from : Front s → (k least p : ℕ) → Good L s k least p → length s ≤ p + (2 + c) * remaining least
  longest_from f zero least p g = let e = at_end L s least p g in omega arith
  longest_from f (suc k) least p g =
      let h = here L s (suc k) least p (omega arith) g in
      let i = byte_at s p in
      let j = byte_at s (p + 1) in
      let few = f.few in
      let r = h.block.rises in
      let e = h.block.ends in
      let b = small i j (omega arith) e in
      let l = fewer least i j r (omega arith) h.after in
      let m : (2 + c) * suc (remaining (32 * i + j + 1)) ≤ (2 + c) * remaining least = mul-le-mul_left (2 + c) l in
      let n = mul-suc (2 + c) (remaining (32 * i + j + 1)) in
      let less : suc k - 1 ≡ k = omega arith in
      let ih = longest_from f k (32 * i + j + 1) (p + 2 + row_bytes L s i j) (rw less at h.rest) in
      omega arith

  -- the sheet has at most 8 bytes in front, 32 sizes, and a block for each of 496 pairs
  pub longest_of : Keeps L s → length s ≤ 8 + 32 + 496 * (2 + c)
  longest_of y =
      let f = (facts L s y).front in
      let g = longest_from f (blocks_of s) 0 (8 + variables_of s) (facts L s y).laid in
      let few = f.few in
      let e = ap (λ (x : ℕ). (2 + c) * x) all_remain in
      let m = mul_comm (2 + c) 496 in
      omega arith

-- rows of at most two bytes, and at most 16 of them
pub longest : (L : Layout) (s : List ℕ) → ((v z : ℕ) → L.width v z ≤ 2) → Keeps L s → length s ≤ 16904
longest L s narrow y =
    longest_of L s 32
    (λ i j h l. rows_small (size_at s i) (row_width L s j) ((facts L s y).front.sizes i h).1 (narrow (version_of s) (size_at s j)))
    y

-- a row has one byte or two
pub row_widths : (v z : ℕ) → (layout.width v z ≡ 1) ⊎ (layout.width v z ≡ 2)
row_widths v z = go (one_byte v z)
  where
    go : (t : Bool) → (◌≡◌ {A = ℕ} (cond t 1 2) 1) ⊎ (◌≡◌ {A = ℕ} (cond t 1 2) 2)
    go true = inl refl
    go false = inr refl

pub rows_narrow : (v z : ℕ) → layout.width v z ≤ 2
rows_narrow v z = ⊎_elim (λ (e : layout.width v z ≡ 1). omega arith) (λ (e : layout.width v z ≡ 2). omega arith) (row_widths v z)

-- "The longest sheet is 8 + 32 + 496 × 34 = 16,904 bytes."
pub longest_sheet : (s : List ℕ) → Keeps layout s → length s ≤ 16904
longest_sheet s y = longest layout s rows_narrow y
