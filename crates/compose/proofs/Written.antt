-- The sheet that is written keeps the layout, and is the problem. Assumes nothing.
use mathlib.Core.Path.{◌≡◌, refl, sym, ap, ◌∙◌}
use mathlib.Core.Bool.{Bool, true, false, ◌&&◌}
use mathlib.Core.List.{List, ◌∷◌, ◌++◌, append_assoc}
use mathlib.Core.Logic.{⊎_elim, ◌≢◌}
use Prim.Native.Nat.{ℕ, zero, suc, ◌+◌, ◌-◌, ◌*◌, ◌/◌, ◌%◌, ◌^◌, ◌≤◌, ◌<◌}
use native.Mathlib.Nat.{suc-mul}
use native.Mathlib.Omega.{arith}
use lib.Dec.{eqb}
use lib.ListN.{length, length-append, get_or-append}
use borrow.Author.Tests.{lt-ltb, le-leb, eq-eqb}
use Rattle.bounded.specs.Mask.{bit}
use Rattle.bounded.specs.Table.{tab}
use Rattle.bounded.proofs.Truth.{lt_dec, eq_dec, T_of, T_true, T_ext, clash}
use Rattle.bounded.proofs.Mask.{mask_lt, bit_mask}
use Rattle.bounded.proofs.Table.{length_tab, get_d_tab}
use Rattle.problem.specs.Problem.{Problem}
use Rattle.problem.specs.Held.{Bounded}
use Rattle.problem.proofs.Same.{problem_same}
use Rattle.buffers.specs.Bytes.{byte_at, number_at, number_bytes}
use Rattle.sheet.specs.Sheet.{Layout, version_of, length_of, variables_of, blocks_of, size_at, row_width, row_bytes, in_order, allows_all, block_of, block_at, Keeps, next_block}
use Rattle.sheet.specs.Relation.{rows_from, rows_of, row_in, rows_allow, size_of, allowed_of, problem_of}
use Rattle.std.specs.Prelude.{Option, Some}
use Rattle.sheet.proofs.Laws.{none_beyond, full_rows, block_there, block_next, blocks_next, blocks_end, sheet_blocks}
use Rattle.sheet.proofs.Accepted.{Good, is_pair, rows_hit, rows_miss, rows_of_lem, size_in, size_out, listed_of, allowed_listed, pair_up, pair_down, bounded, longest}
use Rattle.compose.specs.Compose.{row_number, pair_bars, has_block, block_count, rows_bytes, block_bytes, blocks_bytes, sheet_length, sheet_bytes, Roomy}
use Rattle.buffers.proofs.Stands.{Stands, length_number, stands_all, stands_at, stands_byte, stands_over, stands_next, stands_number}
use Rattle.compose.proofs.Rows.{none_bad, rows_passed, mask_full, bars_none, none_bars, Block, has_block_lem, no_block}
use Rattle.compose.proofs.Lengths.{count_hit, count_miss, count_few, blocks_hit, blocks_miss, length_block, blocks_short}

module _ (L : Layout) (v : ℕ) (P : Problem) (R : Roomy L) (taken : L.takes v ≡ true) (B : Bounded P) (s : List ℕ) where
  -- a row that was written is read
  row_at : (i j k a p : ℕ) (r : List ℕ) → Stands s p (rows_bytes L v P i j k a ++ r) → (c : ℕ) → c < k
      → number_at s (L.width v (P.size j)) (p + c * L.width v (P.size j)) ≡ row_number P i j (a + c)
  unfolding rows_bytes
  row_at i j zero a p r t c h = absurd (omega arith)
  row_at i j (suc k) a p r t zero h =
      let w = L.width v (P.size j) in
      let l = mask_lt (P.size j) (λ b. P.allowed i a j b) in
      let m = R.room v (P.size j) taken (B.narrow j) in
      let t' : Stands s p (number_bytes w (row_number P i j a) ++ (rows_bytes L v P i j k (a + 1) ++ r)) = rw append_assoc at t in
      let n = stands_number s w (row_number P i j a) p _ (omega arith) t' in
      let q : p + zero * w ≡ p = omega arith in
      let u : a + 0 ≡ a = omega arith in
      rw (q, u) n
  row_at i j (suc k) a p r t (suc c) h =
      let w = L.width v (P.size j) in
      let t' : Stands s p (number_bytes w (row_number P i j a) ++ (rows_bytes L v P i j k (a + 1) ++ r)) = rw append_assoc at t in
      let d = length_number w (row_number P i j a) in
      let t'' = stands_over s p (p + w) (number_bytes w (row_number P i j a)) _ t' (omega arith) in
      let n = row_at i j k (a + 1) (p + w) r t'' c (omega arith) in
      let m = suc-mul c w in
      let q : p + suc c * w ≡ p + w + c * w = omega arith in
      let u : a + suc c ≡ a + 1 + c = omega arith in
      rw (q, u) n

  -- the front of s is the problem's
  pub record Headed : Type 0 where
    pub version : version_of s ≡ v
    pub vars : variables_of s ≡ P.n
    pub sizes : (i : ℕ) → i < P.n → size_at s i ≡ P.size i

  -- the block at p is that of i and j
  pub record Read (p i j : ℕ) : Type 0 where
    pub first : byte_at s p ≡ i
    pub second : byte_at s (p + 1) ≡ j
    pub within : p + 2 + row_bytes L s i j ≤ length s
    pub rows : (a : ℕ) → a < P.size i → row_in L s j (p + 2) a ≡ row_number P i j a

  module _ (H : Headed) where
    width_is : (j : ℕ) → j < P.n → row_width L s j ≡ L.width v (P.size j)
    width_is j h = ap (λ (x : ℕ). L.width x (size_at s j)) H.version ∙ ap (L.width v) (H.sizes j h)

    -- the bytes of rows, in the sheet's terms
    bytes_is : (i j : ℕ) → i < P.n → j < P.n → row_bytes L s i j ≡ P.size i * L.width v (P.size j)
    bytes_is i j h l = ap (λ (x : ℕ). x * row_width L s j) (H.sizes i h) ∙ ap (λ (x : ℕ). P.size i * x) (width_is j l)

    read : (p i j : ℕ) (r : List ℕ) → i < P.n → j < P.n → Stands s p (block_bytes L v P i j ++ r) → Read p i j
    unfolding block_bytes
    read p i j r h l t =
        let w = L.width v (P.size j) in
        let t1 = stands_next s p i _ t in
        let q : p + 1 + 1 ≡ p + 2 = omega arith in
        let t2 = rw q at (stands_next s (p + 1) j _ t1) in
        let e = t.ends in
        let f = length-append (block_bytes L v P i j) r in
        let g = length_block L v P i j in
        let b = bytes_is i j h l in
        record {
          first = stands_byte s p i _ t;
          second = stands_byte s (p + 1) j _ t1;
          within = omega arith;
          rows = λ a m. ap (λ (x : ℕ). number_at s x (p + 2 + a * x)) (width_is j l) ∙ row_at i j (P.size i) 0 (p + 2) r t2 a m ∙ ap (row_number P i j) (let z : 0 + a ≡ a = omega arith in z);
        }

    -- ---- the blocks are good

    good_block : (x least p : ℕ) → Block P x → least ≤ x → Read p (x / 32) (x % 32) → block_at L s least p ≡ next_block (x + 1) (p + 2 + row_bytes L s (x / 32) (x % 32))
    good_block x least p b h r =
        let i = x / 32 in
        let j = x % 32 in
        let rises = b.rises in
        let ends = b.ends in
        let in_n : i < P.n = omega arith in
        let vars = H.vars in
        let within = r.within in
        let zi = H.sizes i in_n in
        let zj = H.sizes j ends in
        let e : 32 * i + j ≡ x = omega arith in
        let ends' : j < variables_of s = omega arith in
        let after : least ≤ 32 * i + j = omega arith in
        let order : in_order L s least i j ≡ true = simp (lt-ltb _ _ rises, lt-ltb _ _ ends', le-leb _ _ after) in
        let low = none_beyond L s (row_width L s j) (size_at s j) (size_at s i) (p + 2)
        (λ a l. rw (r.rows a (omega arith), zj) (mask_lt (P.size j) (λ c. P.allowed i a j c))) in
        block_there L s least p (omega arith)
        ∙ ap (λ (y : ℕ). block_of L s least p y (byte_at s (p + 1))) r.first
        ∙ ap (block_of L s least p i) r.second
        ∙ block_next L s least p i j order within low (go (allows_all L s (row_width L s j) (size_at s j) (size_at s i) (p + 2)) refl zi zj)
        ∙ ap (λ (y : ℕ). next_block (y + 1) (p + 2 + row_bytes L s i j)) e
      where
        go : (t : Bool) → allows_all L s (row_width L s (x % 32)) (size_at s (x % 32)) (size_at s (x / 32)) (p + 2) ≡ t → size_at s (x / 32) ≡ P.size (x / 32) → size_at s (x % 32) ≡ P.size (x % 32) → t ≡ false
        go false e zi zj = refl
        go true e zi zj =
            absurd
            (clash b.bar
            (none_bars P (x / 32) (x % 32)
            (λ a c l m.
            let f = full_rows L s (row_width L s (x % 32)) (size_at s (x % 32)) (size_at s (x / 32)) (p + 2) e a (omega arith) in
            let g = r.rows a l in
            let q : row_number P (x / 32) (x % 32) a + 1 ≡ 2 ^ P.size (x % 32) = ap (λ (y : ℕ). y + 1) (sym g) ∙ f ∙ ap (λ (y : ℕ). 2 ^ y) zj in
            mask_full (P.size (x % 32)) (λ c. P.allowed (x / 32) a (x % 32) c) q c m)))

    -- the block of place x, where it has one, and what stands after it
    record Step (k x p : ℕ) : Type 0 where
      block : Block P x
      this : Read p (x / 32) (x % 32)
      more : Stands s (p + 2 + row_bytes L s (x / 32) (x % 32)) (blocks_bytes L v P k (x + 1))

    step : (k x p : ℕ) → has_block P x ≡ true → Stands s p (blocks_bytes L v P (suc k) x) → Step k x p
    step k x p e t =
        let b = has_block_lem P x e in
        let rises = b.rises in
        let ends = b.ends in
        let in_n : x / 32 < P.n = omega arith in
        let t' : Stands s p (block_bytes L v P (x / 32) (x % 32) ++ blocks_bytes L v P k (x + 1)) = rw (blocks_hit L v P k x e) at t in
        let g = length_block L v P (x / 32) (x % 32) in
        let y = bytes_is (x / 32) (x % 32) in_n ends in
        record { block = b; this = read p (x / 32) (x % 32) _ in_n ends t'; more = stands_over s p _ (block_bytes L v P (x / 32) (x % 32)) _ t' (omega arith) }

    blocks_good : (k x least p : ℕ) → least ≤ x → Stands s p (blocks_bytes L v P k x) → Good L s (block_count P k x) least p
    unfolding blocks_bytes block_count
    blocks_good zero x least p h t = let e = t.ends in blocks_end L s least p (omega arith)
    blocks_good (suc k) x least p h t = go (has_block P x) refl (blocks_good k (x + 1))
      where
        go : (b : Bool) → has_block P x ≡ b → ((least p : ℕ) → least ≤ x + 1 → Stands s p (blocks_bytes L v P k (x + 1)) → Good L s (block_count P k (x + 1)) least p)
            → Good L s (block_count P (suc k) x) least p
        go true e ih =
            let y = step k x p e t in
            let c = block_count P k (x + 1) in
            let q : suc c - 1 ≡ c = omega arith in
            rw (count_hit P k x e)
            (blocks_next L s (suc c) least p (omega arith) (x + 1) _ (good_block x least p y.block h y.this)
            ∙ rw q (ih (x + 1) _ (omega arith) y.more))
        go false e ih = rw (count_miss P k x e) (ih least p (omega arith) (rw (blocks_miss L v P k x e) at t))

    -- ---- the rows that are found say what the problem allows

    abbrev Says : (i j : ℕ) → Option ℕ → Type 0
    Says i j rows = (a b : ℕ) → a < P.size i → b < P.size j → rows_allow L s rows j a b ≡ P.allowed i a j b

    -- the pair has no block, and stands in the sheet nowhere
    says_free : (k x p i j : ℕ) → 32 * i + j ≡ x → i < j → j < P.n → has_block P x ≡ false → Stands s p (blocks_bytes L v P k (x + 1)) → Says i j (rows_from L s i j (block_count P k (x + 1)) p)
    says_free k x p i j e h l n t =
        let few = B.few in
        let ei : x / 32 ≡ i = omega arith in
        let ej : x % 32 ≡ j = omega arith in
        let free = rows_passed L s i j (block_count P k (x + 1)) (x + 1) p (blocks_good k (x + 1) (x + 1) p (omega arith) t) (omega arith) in
        let none : pair_bars P i j ≡ false = rw (ei, ej) at (no_block P x n (omega arith) (omega arith)) in
        λ a b m o. ap (λ (r : Option ℕ). rows_allow L s r j a b) free ∙ sym (bars_none P i j none a b m o)

    says_here : (p i j : ℕ) → Read p i j → Says i j (Some (p + 2))
    says_here p i j r a b m o = ap (λ (x : ℕ). bit x b) (r.rows a m) ∙ bit_mask (P.size j) (λ c. P.allowed i a j c) b o

    says_from : (i j k x p : ℕ) → x + k ≡ 1024 → i < j → j < P.n → x ≤ 32 * i + j → Stands s p (blocks_bytes L v P k x) → Says i j (rows_from L s i j (block_count P k x) p)
    says_from i j zero x p f h l m t = let few = B.few in absurd (omega arith)
    says_from i j (suc k) x p f h l m t = go (has_block P x) refl (says_from i j k (x + 1))
      where
        Rest : Type 0
        Rest = (p : ℕ) → x + 1 + k ≡ 1024 → i < j → j < P.n → x + 1 ≤ 32 * i + j → Stands s p (blocks_bytes L v P k (x + 1)) → Says i j (rows_from L s i j (block_count P k (x + 1)) p)

        at : (y : Step k x p) (b : Bool) → (eqb (byte_at s p) i && eqb (byte_at s (p + 1)) j) ≡ b → Rest → Says i j (rows_from L s i j (suc (block_count P k (x + 1))) p)
        at y true e ih =
            let q = is_pair L s i j p e in
            let r = y.this in
            let ei : x / 32 ≡ i = sym r.first ∙ q.0 in
            let ej : x % 32 ≡ j = sym r.second ∙ q.1 in
            let r' : Read p i j = rw (ei, ej) at r in
            rw (rows_hit L s i j (suc (block_count P k (x + 1))) p (omega arith) e) (says_here p i j r')
        at y false e ih =
            let c = block_count P k (x + 1) in
            let r = y.this in
            let one : suc c - 1 ≡ c = omega arith in
            let few = B.few in
            let other : 32 * i + j ≡ x → ⊥ = λ z.
            let ei : x / 32 ≡ i = omega arith in
            let ej : x % 32 ≡ j = omega arith in
            clash (simp (eq-eqb _ _ (r.first ∙ ei), eq-eqb _ _ (r.second ∙ ej))) e in
            rw (rows_miss L s i j (suc c) p (omega arith) e, one, r.first, r.second)
            (ih _ (omega arith) h l (omega arith) y.more)

        go : (b : Bool) → has_block P x ≡ b → Rest → Says i j (rows_from L s i j (block_count P (suc k) x) p)
        go true e ih = rw (count_hit P k x e) (at (step k x p e t) _ refl ih)
        go false e ih =
            let t' : Stands s p (blocks_bytes L v P k (x + 1)) = rw (blocks_miss L v P k x e) at t in
            rw (count_miss P k x e)
            (⊎_elim (λ (z : 32 * i + j ≡ x). says_free k x p i j z h l e t') (λ (z : 32 * i + j ≢ x). ih p (omega arith) h l (let y : x ≡ 32 * i + j → ⊥ = λ q. z (sym q) in omega arith) t') (eq_dec (32 * i + j) x))

    -- the problem of a sheet whose blocks are these
    says_problem : Keeps L s → blocks_of s ≡ block_count P 1024 0 → Stands s (8 + P.n) (blocks_bytes L v P 1024 0) → problem_of L s ≡ P
    unfolding problem_of
    says_problem K m t = problem_same (problem_of L s) P H.vars same_size same
      where
        vars : variables_of s ≡ P.n
        vars = H.vars

        same_size : (i : ℕ) → size_of L s i ≡ P.size i
        same_size i =
            let e = vars in
            ⊎_elim (λ (h : i < P.n). size_in L s i (omega arith) ∙ H.sizes i h) (λ (h : P.n ≤ i). size_out L s i (omega arith) ∙ sym (B.none i h)) (lt_dec i P.n)

        says : (i j : ℕ) → i < j → j < P.n → Says i j (rows_of L s i j)
        says i j h l =
            let q : 8 + variables_of s ≡ 8 + P.n = ap (λ (x : ℕ). 8 + x) vars in
            rw (rows_of_lem L s i j, m, q) (says_from i j 1024 0 (8 + P.n) (omega arith) h l (omega arith) t)

        listed : (i a j b : ℕ) → i < P.n → a < P.size i → j < P.n → b < P.size j → i ≢ j → allowed_of L s i a j b ≡ P.allowed i a j b
        listed i a j b hi ha hj hb d =
            let e = vars in
            let zi = H.sizes i hi in
            let zj = H.sizes j hj in
            allowed_listed L s i a j b (listed_of L s i a (omega arith) (omega arith)) (listed_of L s j b (omega arith) (omega arith))
            ∙ ⊎_elim
            (λ (h : i < j). pair_up L s i a j b h ∙ says i j h hj a b ha hb)
            (λ (h : j ≤ i).
            let h' : j < i = omega arith in
            pair_down L s i a j b h' ∙ says j i h' hi b a hb ha ∙ P.symmetric j b i a)
            (lt_dec i j)

        same : (i a j b : ℕ) → allowed_of L s i a j b ≡ P.allowed i a j b
        same i a j b =
            T_ext (
              (λ t.
                  let q = (bounded L s K).listed i a j b t in
                  let e = vars in
                  let za = same_size i in
                  let zb = same_size j in
                  let ha = q.1 in
                  let hb = q.3 in
                  let hi = q.0 in
                  let hj = q.2 in
                  T_of (sym (listed i a j b (omega arith) (omega arith) (omega arith) (omega arith) q.4) ∙ T_true _ t)),
              (λ t. let q = B.listed i a j b t in T_of (listed i a j b q.0 q.1 q.2 q.3 q.4 ∙ T_true _ t)),
            )

-- ---- the sheet that is written

module _ (L : Layout) (v : ℕ) (P : Problem) (R : Roomy L) (taken : L.takes v ≡ true) (B : Bounded P) where
  record Front : Type 0 where
    headed : Headed L v P R taken B (sheet_bytes L v P)
    whole : length_of (sheet_bytes L v P) ≡ length (sheet_bytes L v P)
    long : length (sheet_bytes L v P) ≡ sheet_length L v P
    blocks : blocks_of (sheet_bytes L v P) ≡ block_count P 1024 0
    laid : Stands (sheet_bytes L v P) (8 + P.n) (blocks_bytes L v P 1024 0)

  front : Front
  unfolding sheet_bytes
  front =
      let s = sheet_bytes L v P in
      let n = P.n in
      let bs = blocks_bytes L v P 1024 0 in
      let len = sheet_length L v P in
      let m = block_count P 1024 0 in
      let sizes = tab n P.size in
      let few = B.few in
      let t0 = stands_all s in
      let t1 : Stands s 1 (number_bytes 4 len ++ n ∷ (number_bytes 2 m ++ (sizes ++ bs))) = stands_next s 0 v _ t0 in
      let l4 = length_number 4 len in
      let l2 = length_number 2 m in
      let t5 : Stands s 5 (n ∷ (number_bytes 2 m ++ (sizes ++ bs))) = stands_over s 1 5 (number_bytes 4 len) _ t1 (omega arith) in
      let t6 : Stands s 6 (number_bytes 2 m ++ (sizes ++ bs)) = stands_next s 5 n _ t5 in
      let t8 : Stands s 8 (sizes ++ bs) = stands_over s 6 8 (number_bytes 2 m) _ t6 (omega arith) in
      let lt = length_tab n P.size in
      let tb : Stands s (8 + n) bs = stands_over s 8 (8 + n) sizes _ t8 (omega arith) in
      let c = count_few P 1024 0 in
      let short = blocks_short L v P R B 1024 0 in
      let ends = tb.ends in
      let e : length s ≡ len = omega arith in
      record {
        headed =
            record {
              version = refl;
              vars = stands_byte s 5 n _ t5;
              sizes = λ i h. stands_at s 8 i (sizes ++ bs) t8 ∙ get_or-append sizes bs 0 i (omega arith) ∙ get_d_tab n P.size i 0 h;
            };
        whole = stands_number s 4 len 1 _ (omega arith) t1 ∙ sym e;
        long = e;
        blocks = stands_number s 2 m 6 _ (omega arith) t6;
        laid = tb;
      }

  module _ (some : 1 ≤ P.n) where
    -- it keeps the layout
    pub written_keeps : Keeps L (sheet_bytes L v P)
    written_keeps =
        let s = sheet_bytes L v P in
        let f = front in
        let H = f.headed in
        let vars = H.vars in
        let few = B.few in
        let l = f.long in
        let q : 8 + variables_of s ≡ 8 + P.n = ap (λ (x : ℕ). 8 + x) vars in
        let tk : L.takes (version_of s) ≡ true = rw H.version taken in
        let bad = none_bad L s (variables_of s) 8 (λ i h.
        let h' : i < P.n = omega arith in
        let z = H.sizes i h' in
        let a = B.some i h' in
        let b = B.narrow i in
        (omega arith, omega arith)) in
        sheet_blocks L s (omega arith) tk f.whole (omega arith) (omega arith) (omega arith) bad
        ∙ rw (f.blocks, q) (rw f.blocks at (blocks_good L v P R taken B s H 1024 0 0 (8 + P.n) (omega arith) f.laid))

    -- it is the problem
    pub written_problem : problem_of L (sheet_bytes L v P) ≡ P
    written_problem = let f = front in says_problem L v P R taken B (sheet_bytes L v P) f.headed written_keeps f.blocks f.laid

    -- "The longest sheet is 8 + 32 + 496 × 34 = 16,904 bytes."
    pub written_short : length (sheet_bytes L v P) ≤ 16904
    written_short = longest L (sheet_bytes L v P) R.narrow written_keeps

  pub written_length : length (sheet_bytes L v P) ≡ sheet_length L v P
  written_length = front.long
