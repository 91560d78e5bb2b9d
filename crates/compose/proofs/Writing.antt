-- Laws for the code: the settings of an item, the marks, one step of each loop, and writing in turn. Assumes nothing.
use mathlib.Core.Path.{◌≡◌, refl, sym, ap, ◌∙◌}
use mathlib.Core.Bool.{Bool, true, false}
use mathlib.Core.List.{List, [], ◌∷◌, ◌++◌, append_assoc}
use mathlib.Core.Logic.{⊎_elim}
use Prim.Native.Nat.{ℕ, zero, suc, ◌+◌, ◌-◌, ◌*◌, ◌/◌, ◌%◌, ◌^◌, ◌≤◌, ◌<◌}
use native.Mathlib.Numerals.{add-one}
use native.Mathlib.Omega.{arith}
use lib.ListN.{length, get_or, set, length-append, get_or-append}
use lib.Pow.{pow_pos}
use lib.Seq.{sets}
use borrow.Author.Tests.{lt-ltb, le-ltb}
use Rattle.bounded.specs.Quantifiers.{one_if}
use Rattle.bounded.specs.Table.{tab, filled}
use Rattle.bounded.proofs.Truth.{lt_dec}
use Rattle.bounded.proofs.Table.{length_tab, get_d_tab}
use Rattle.problem.specs.Problem.{Problem}
use Rattle.problem.specs.Held.{held, RowTable}
use Rattle.buffers.specs.Bytes.{number_bytes}
use Rattle.sheet.specs.Sheet.{Layout, layout}
use Rattle.sheet.proofs.Versions.{test_taken}
use Rattle.buffers.specs.Written.{written, fronted}
use Rattle.buffers.proofs.Written.{sets_written, written_nil, written_one, written_more, written_front, length_written}
use Rattle.compose.specs.Compose.{row_number, pair_bars, has_block, block_count, rows_bytes, block_bytes, place_bytes, blocks_bytes, sheet_length, sheet_bytes}
use Rattle.compose.specs.Parts.{mark_of, BlockMarked, BytesWrote, Underway, front_bytes}
use Rattle.buffers.proofs.Stands.{length_number}

-- ---- the settings of an item

-- the settings of j, as the code counts them
pub full_is : (p y z : ℕ) → p ≡ 2 ^ y - 1 → y ≡ z → p + 1 ≡ 2 ^ z
full_is p y z e f = let q = pow_pos y in let g = ap (λ (x : ℕ). 2 ^ x) f in omega arith

-- ---- the marks

module _ (P : Problem) where
  -- where a pair is not in order or not of the problem it has no block
  pub block_low : (x : ℕ) → x % 32 ≤ x / 32 → has_block P x ≡ false
  unfolding has_block
  block_low x h = simp (le-ltb _ _ h)

  pub block_out : (x : ℕ) → x / 32 < x % 32 → P.n ≤ x % 32 → has_block P x ≡ false
  unfolding has_block
  block_out x h l = simp (lt-ltb _ _ h, le-ltb _ _ l)

  pub block_in : (x : ℕ) → x / 32 < x % 32 → x % 32 < P.n → has_block P x ≡ pair_bars P (x / 32) (x % 32)
  unfolding has_block
  block_in x h l = simp (lt-ltb _ _ h, lt-ltb _ _ l)

  -- the places from 32 n on have none
  block_beyond : (x : ℕ) → 32 * P.n ≤ x → has_block P x ≡ false
  block_beyond x h = ⊎_elim (λ (l : x / 32 < x % 32). block_out x l (omega arith)) (λ (l : x % 32 ≤ x / 32). block_low x l) (lt_dec (x / 32) (x % 32))

  pub count_step : (x : ℕ) → x < 1024 → block_count P (1024 - x) x ≡ mark_of P x + block_count P (1024 - (x + 1)) (x + 1)
  unfolding block_count
  count_step x h = let e : 1024 - x ≡ suc (1024 - (x + 1)) = omega arith in ap (λ (k : ℕ). block_count P k x) e

  pub written_beyond : (k x : ℕ) → 32 * P.n ≤ x → block_count P k x ≡ 0
  unfolding block_count
  written_beyond zero x h = refl
  written_beyond (suc k) x h =
      let e : one_if (has_block P x) ≡ 0 = ap one_if (block_beyond x h) in
      let i = written_beyond k (x + 1) (omega arith) in
      omega arith

-- a mark tells
pub marked_not : (b : Bool) → one_if b ≡ 0 → b ≡ false
marked_not true e = let z : ◌≡◌ {A = ℕ} 1 0 = e in absurd (omega arith)
marked_not false e = refl

pub marked_true : (b : Bool) → (one_if b ≡ 0 → ⊥) → b ≡ true
marked_true true d = refl
marked_true false d = absurd (d refl)

-- what was marked, as those who read the marks know it
pub marked : {t : List ℕ} → RowTable t → (n : ℕ) (b c : List ℕ) → n ≡ (held t).n → n ≤ 32 → length b ≡ 1024 → length c ≡ length b → c ≡ filled (32 * n) (mark_of (held t)) b → BlockMarked t c
unfolding filled
marked {t} R n b c e few l m f =
    record {
      table = R;
      long = m ∙ l;
      says = λ x h.
          let k = length_tab (32 * n) (mark_of (held t)) in
          let h' : x < 32 * n = omega arith in
          ap (λ (y : List ℕ). get_or y x 0) f ∙ get_or-append (tab (32 * n) (mark_of (held t))) _ 0 x (omega arith) ∙ get_d_tab (32 * n) (mark_of (held t)) x 0 h';
    }

-- ---- writing in turn

pub starts : (b : List ℕ) (p : ℕ) (w : List ℕ) → p + length w ≤ length b → Underway b p w b p w
starts b p w h = record { rest = refl; place = refl; room = h; same = refl }

module _ (b : List ℕ) (p : ℕ) (w b' : List ℕ) (q : ℕ) where
  -- the next part is written
  pub writes : (x r c : List ℕ) (n : ℕ) → Underway b p w b' q (x ++ r) → BytesWrote b' q x c n → Underway b p w c n r
  writes x r c n u o =
      let l = length-append x r in
      let m = u.room in
      let e = u.place in
      let f = u.same in
      let s = length_written b' q x (omega arith) in
      let k = o.next in
      let g = ap length o.is in
      record {
        rest = ap (λ (y : List ℕ). written y n r) o.is ∙ ap (λ (y : ℕ). written (written b' q x) y r) k ∙ written_more b' q x r (omega arith) ∙ u.rest;
        place = omega arith;
        room = omega arith;
        same = omega arith;
      }

  -- room for the next part
  pub part_room : (x r : List ℕ) → Underway b p w b' q (x ++ r) → q + length x ≤ length b'
  part_room x r u = let l = length-append x r in let m = u.room in omega arith

  -- nothing is left
  pub ends : Underway b p w b' q [] → BytesWrote b p w b' q
  ends u = let e = u.place in record { is = sym (written_nil b' q) ∙ u.rest; next = omega arith }

-- a number of one byte, stored
pub put_byte : (b : List ℕ) (p w x : ℕ) → w ≡ 1 → x < 256 → p < length b → set b p x ≡ written b p (number_bytes w x)
put_byte b p w x e l h =
    let f : x ≡ x / 256 ^ 0 % 256 = omega arith in
    written_one b p x h ∙ ap (λ (y : ℕ). written b p (y ∷ [])) f ∙ ap (λ (k : ℕ). written b p (number_bytes k x)) (sym e)

-- a number written, by another name of its width and of itself
pub wrote_number : (b : List ℕ) (p : ℕ) (c : List ℕ) (w w' x x' : ℕ) → w ≡ w' → x ≡ x' → c ≡ written b p (number_bytes w x) → BytesWrote b p (number_bytes w' x') c (p + w)
wrote_number b p c w w' x x' e f g =
    let l = length_number w' x' in
    record { is = g ∙ (λ i. written b p (number_bytes (e i) (f i))); next = omega arith }

-- the two items of a block, stored
pub pair_put : (b : List ℕ) (p i j : ℕ) → p + 2 ≤ length b → set (set b p i) (p + 1) j ≡ written b p (i ∷ j ∷ [])
pair_put b p i j h = ap (λ (k : ℕ). set (set b p i) k j) (add-one p) ∙ sets_written b p (i ∷ j ∷ []) h

-- the first eight bytes, stored
pub front_stored : (b : List ℕ) (v len n m : ℕ) → 8 ≤ length b
    → sets b 0 (v ∷ len / 16777216 % 256 ∷ len / 65536 % 256 ∷ len / 256 % 256 ∷ len % 256 ∷ n ∷ m / 256 % 256 ∷ m % 256 ∷ []) ≡ written b 0 (front_bytes v len n m)
front_stored b v len n m h =
    let e : len % 256 ≡ len / 256 ^ 0 % 256 = omega arith in
    let f : m % 256 ≡ m / 256 ^ 0 % 256 = omega arith in
    sets_written b 0 (v ∷ len / 16777216 % 256 ∷ len / 65536 % 256 ∷ len / 256 % 256 ∷ len % 256 ∷ n ∷ m / 256 % 256 ∷ m % 256 ∷ []) (omega arith)
    ∙ (λ i. written b 0 (v ∷ len / 16777216 % 256 ∷ len / 65536 % 256 ∷ len / 256 % 256 ∷ e i ∷ n ∷ m / 256 % 256 ∷ f i ∷ []))

-- nothing to write
pub bytes_wrote_none : (b : List ℕ) (p : ℕ) → BytesWrote b p [] b p
bytes_wrote_none b p = record { is = sym (written_nil b p); next = omega arith }

-- writing changes no length
pub wrote_same : (b : List ℕ) {c w d : List ℕ} {p r : ℕ} → BytesWrote c p w d r → p + length w ≤ length c → length c ≡ length b → length d ≡ length b
wrote_same b {c} {w} {d} {p} o h e = ap length o.is ∙ length_written c p w h ∙ e

-- two parts, the second at the place after the first
pub wrote_both : (b : List ℕ) (p : ℕ) (x y c d : List ℕ) (q r : ℕ) → p + length (x ++ y) ≤ length b → c ≡ written b p x → q ≡ p + length x → BytesWrote c q y d r → BytesWrote b p (x ++ y) d r
wrote_both b p x y c d q r h e f o =
    let l = length-append x y in
    let n = o.next in
    record {
      is = o.is ∙ ap (λ (z : List ℕ). written z q y) e ∙ ap (λ (k : ℕ). written (written b p x) k y) f ∙ written_more b p x y (omega arith);
      next = omega arith;
    }

-- ---- the definitions, one step on

module _ (L : Layout) (v : ℕ) (P : Problem) where
  pub rows_step : (i j z a : ℕ) → a < z → rows_bytes L v P i j (z - a) a ≡ number_bytes (L.width v (P.size j)) (row_number P i j a) ++ rows_bytes L v P i j (z - (a + 1)) (a + 1)
  unfolding rows_bytes
  rows_step i j z a h = let e : z - a ≡ suc (z - (a + 1)) = omega arith in ap (λ (k : ℕ). rows_bytes L v P i j k a) e

  pub rows_none : (i j z a : ℕ) → z ≤ a → rows_bytes L v P i j (z - a) a ≡ []
  unfolding rows_bytes
  rows_none i j z a h = let e : z - a ≡ 0 = omega arith in ap (λ (k : ℕ). rows_bytes L v P i j k a) e

  pub block_parts : (i j : ℕ) → length (block_bytes L v P i j) ≡ 2 + length (rows_bytes L v P i j (P.size i) 0)
  unfolding block_bytes
  block_parts i j = omega arith

  pub place_hit : (x : ℕ) → has_block P x ≡ true → place_bytes L v P x ≡ block_bytes L v P (x / 32) (x % 32)
  unfolding place_bytes
  place_hit x e = simp e

  pub place_miss : (x : ℕ) → has_block P x ≡ false → place_bytes L v P x ≡ []
  unfolding place_bytes
  place_miss x e = simp e

  pub blocks_step : (x : ℕ) → x < 1024 → blocks_bytes L v P (1024 - x) x ≡ place_bytes L v P x ++ blocks_bytes L v P (1024 - (x + 1)) (x + 1)
  unfolding blocks_bytes
  blocks_step x h = let e : 1024 - x ≡ suc (1024 - (x + 1)) = omega arith in ap (λ (k : ℕ). blocks_bytes L v P k x) e

  -- and its length
  pub length_step : (x : ℕ) → x < 1024 → length (blocks_bytes L v P (1024 - x) x) ≡ length (place_bytes L v P x) + length (blocks_bytes L v P (1024 - (x + 1)) (x + 1))
  length_step x h = ap length (blocks_step x h) ∙ length-append (place_bytes L v P x) (blocks_bytes L v P (1024 - (x + 1)) (x + 1))

  pub blocks_beyond : (k x : ℕ) → 32 * P.n ≤ x → blocks_bytes L v P k x ≡ []
  unfolding blocks_bytes
  blocks_beyond zero x h = refl
  blocks_beyond (suc k) x h =
      ap (λ (y : List ℕ). y ++ blocks_bytes L v P k (x + 1)) (place_miss x (block_beyond P x h)) ∙ blocks_beyond k (x + 1) (omega arith)

  -- the sheet in the parts in which the code writes it
  pub sheet_parts : sheet_bytes L v P ≡ front_bytes v (sheet_length L v P) P.n (block_count P 1024 0) ++ (tab P.n P.size ++ blocks_bytes L v P 1024 0)
  unfolding sheet_bytes
  sheet_parts = refl

-- a version is a byte
pub version_byte : (v : ℕ) → layout.takes v ≡ true → v < 256
version_byte v t = ⊎_elim (λ (e : v ≡ 1). omega arith) (λ (e : v ≡ 2). omega arith) (test_taken v t)

-- the front, the sizes and the blocks make the sheet
module _ (L : Layout) (v : ℕ) (P : Problem) (b : List ℕ) where
  pub sheet_written : (len n m : ℕ) (c d e : List ℕ) → sheet_length L v P ≤ length b → len ≡ sheet_length L v P → n ≡ P.n → m ≡ block_count P 1024 0
      → c ≡ written b 0 (front_bytes v len n m) → d ≡ written c 8 (tab n P.size) → e ≡ written d (8 + n) (blocks_bytes L v P 1024 0) → e ≡ fronted (sheet_bytes L v P) b
  sheet_written len n m c d e h el en em ec ed ee =
      let F = front_bytes v len n m in
      let S = tab n P.size in
      let B = blocks_bytes L v P 1024 0 in
      let ls = length_tab n P.size in
      let la = length-append F S in
      let k : 8 + n ≡ 0 + length (F ++ S) = omega arith in
      let d' : d ≡ written b 0 (F ++ S) = ed ∙ ap (λ (y : List ℕ). written y 8 S) ec ∙ written_more b 0 F S (omega arith) in
      let e' : e ≡ written b 0 ((F ++ S) ++ B) = ee ∙ ap (λ (y : List ℕ). written y (8 + n) B) d' ∙ ap (λ (y : ℕ). written (written b 0 (F ++ S)) y B) k ∙ written_more b 0 (F ++ S) B (omega arith) in
      e' ∙ ap (written b 0) (append_assoc F S B ∙ (λ i. front_bytes v (el i) (en i) (em i) ++ (tab (en i) P.size ++ B)) ∙ sym (sheet_parts L v P)) ∙ written_front b (sheet_bytes L v P)
