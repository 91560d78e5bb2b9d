-- Sizes and blocks as the reader goes through them, and what a pair bars. Assumes nothing.
use mathlib.Core.Path.{◌≡◌, refl, sym, ap, ◌∙◌}
use mathlib.Core.Bool.{Bool, true, false, not, ◌&&◌}
use mathlib.Core.List.{List}
use Prim.Native.Nat.{ℕ, zero, suc, ◌+◌, ◌-◌, ◌*◌, ◌/◌, ◌%◌, ◌^◌, ◌≤◌, ◌<◌}
use native.Mathlib.Omega.{arith}
use lib.Dec.{eqb, ltb}
use lib.Pow.{pow_pos}
use borrow.Author.Tests.{ltb-true, lt-ltb, le-ltb, ne_eqb, not-false}
use Rattle.bounded.specs.Mask.{bit, mask_of}
use Rattle.bounded.proofs.Truth.{both}
use Rattle.bounded.proofs.Loops.{any_intro, any_each}
use Rattle.bounded.proofs.Mask.{mask_is, bit_mask, full_bit}
use Rattle.problem.specs.Problem.{Problem}
use Rattle.buffers.specs.Bytes.{byte_at}
use Rattle.sheet.specs.Sheet.{Layout, bad_sizes}
use Rattle.sheet.specs.Relation.{rows_from}
use Rattle.std.specs.Prelude.{None}
use Rattle.sheet.proofs.Accepted.{Good, here, is_pair, rows_miss, rows_end}
use Rattle.compose.specs.Compose.{row_number, row_bars, pair_bars, has_block}

module _ (L : Layout) (s : List ℕ) where
  -- sizes that are good
  pub none_bad : (k p : ℕ) → ((i : ℕ) → i < k → (1 ≤ byte_at s (p + i)) × (byte_at s (p + i) ≤ 16)) → bad_sizes L s k p ≡ false
  unfolding bad_sizes
  none_bad zero p h = refl
  none_bad (suc k) p h =
      let q : p + 0 ≡ p = omega arith in
      let b = rw q at (h 0 (omega arith)) in
      let c = b.0 in
      let d = b.1 in
      simp (ne_eqb (byte_at s p) 0 (λ e. omega arith), le-ltb 16 (byte_at s p) d) (none_bad k (p + 1) (λ i l. let u : p + suc i ≡ p + 1 + i = omega arith in rw u at (h (suc i) (omega arith))))

  -- among good blocks from `least` on there is none of a lower pair
  pub rows_passed : (i j m least p : ℕ) → Good L s m least p → 32 * i + j < least → rows_from L s i j m p ≡ None
  rows_passed i j zero least p g h = rows_end L s i j p
  rows_passed i j (suc m) least p g h = go (eqb (byte_at s p) i && eqb (byte_at s (p + 1)) j) refl (rows_passed i j m)
    where
      go : (t : Bool) → (eqb (byte_at s p) i && eqb (byte_at s (p + 1)) j) ≡ t
          → ((least p : ℕ) → Good L s m least p → 32 * i + j < least → rows_from L s i j m p ≡ None) → rows_from L s i j (suc m) p ≡ None
      go true e ih =
          let y = here L s (suc m) least p (omega arith) g in
          let q = is_pair L s i j p e in
          let a = y.after in
          let b = q.0 in
          let c = q.1 in
          absurd (omega arith)
      go false e ih =
          let y = here L s (suc m) least p (omega arith) g in
          let one : suc m - 1 ≡ m = omega arith in
          let a = y.after in
          rows_miss L s i j (suc m) p (omega arith) e ∙ rw one (ih _ _ (rw one at y.rest) (omega arith))

-- ---- full rows
pub full_mask : (z : ℕ) (f : ℕ → Bool) → ((b : ℕ) → b < z → f b ≡ true) → mask_of z f + 1 ≡ 2 ^ z
full_mask z f h =
    let p = pow_pos z in
    let e = mask_is z (2 ^ z - 1) f (omega arith) (λ b l. full_bit z b l ∙ sym (h b l)) in
    omega arith

pub mask_full : (z : ℕ) (f : ℕ → Bool) → mask_of z f + 1 ≡ 2 ^ z → (b : ℕ) → b < z → f b ≡ true
mask_full z f e b l =
    let q : mask_of z f ≡ 2 ^ z - 1 = omega arith in
    sym (bit_mask z f b l) ∙ ap (λ (x : ℕ). bit x b) q ∙ full_bit z b l

-- ---- what a pair bars
module _ (P : Problem) where
  pub bars_none : (i j : ℕ) → pair_bars P i j ≡ false → (a b : ℕ) → a < P.size i → b < P.size j → P.allowed i a j b ≡ true
  unfolding pair_bars row_bars
  bars_none i j e a b h l = not-false _ (any_each _ (P.size j) (any_each _ (P.size i) e a h) b l)

  pub none_bars : (i j : ℕ) → ((a b : ℕ) → a < P.size i → b < P.size j → P.allowed i a j b ≡ true) → pair_bars P i j ≡ false
  unfolding pair_bars row_bars
  none_bars i j h = any_intro _ (P.size i) (λ a l. any_intro _ (P.size j) (λ b m. ap not (h a b l m)))

  -- a row that has all bits bars nothing, and any other does
  pub row_free : (i j a : ℕ) → row_number P i j a + 1 ≡ 2 ^ P.size j → row_bars P i j a ≡ false
  unfolding row_bars
  row_free i j a e = any_intro _ (P.size j) (λ b l. ap not (mask_full (P.size j) (λ b. P.allowed i a j b) e b l))

  pub row_bars_lem : (i j a : ℕ) → (row_number P i j a + 1 ≡ 2 ^ P.size j → ⊥) → row_bars P i j a ≡ true
  unfolding row_bars
  row_bars_lem i j a d = go (row_bars P i j a) refl
    where
      go : (t : Bool) → row_bars P i j a ≡ t → t ≡ true
      go true e = refl
      go false e = absurd (d (full_mask (P.size j) (λ b. P.allowed i a j b) (λ b l. not-false _ (any_each _ (P.size j) e b l))))

  -- a pair that has a block
  pub record Block (x : ℕ) : Type 0 where
    pub rises : x / 32 < x % 32
    pub ends : x % 32 < P.n
    pub bar : pair_bars P (x / 32) (x % 32) ≡ true

  pub has_block_lem : (x : ℕ) → has_block P x ≡ true → Block x
  unfolding has_block
  has_block_lem x e =
      let f = both (ltb (x / 32) (x % 32)) _ e in
      let g = both (ltb (x % 32) P.n) _ f.1 in
      record { rises = ltb-true _ _ f.0; ends = ltb-true _ _ g.0; bar = g.1 }

  pub block_has : (x : ℕ) → Block x → has_block P x ≡ true
  unfolding has_block
  block_has x b = simp (lt-ltb _ _ b.rises, lt-ltb _ _ b.ends, b.bar)

  -- a pair with no block bars nothing
  pub no_block : (x : ℕ) → has_block P x ≡ false → x / 32 < x % 32 → x % 32 < P.n → pair_bars P (x / 32) (x % 32) ≡ false
  unfolding has_block
  no_block x e h l = simp (lt-ltb _ _ h, lt-ltb _ _ l) at e
