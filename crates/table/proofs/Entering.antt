-- Entering a block: the rows of each pair have a place of their own, and to clear a far bit leaves only fewer of them. Assumes nothing.
use mathlib.Core.Path.{◌≡◌, refl, sym, ap, ◌∙◌, subst}
use mathlib.Core.Bool.{Bool, true, false, not, ◌&&◌, cond}
use mathlib.Core.List.{List}
use mathlib.Core.Logic.{◌⊎◌, inl, inr, ⊎_elim, ◌≢◌}
use Prim.Native.Nat.{ℕ, ◌+◌, ◌*◌, ◌%◌, ◌≤◌, ◌<◌}
use native.Mathlib.Omega.{arith}
use lib.Dec.{T, ltb}
use lib.ListN.{length, get_or, length-set}
use lib.Seq.{get_or-set_same, get_or-set_other}
use borrow.Author.Tests.{lt-ltb, le-ltb, eq-eqb}
use Rattle.bounded.specs.Mask.{bit, without}
use Rattle.bounded.proofs.Truth.{T_true, T_of, clash, eq_dec, lt_dec}
use Rattle.bounded.proofs.Mask.{bit_mask, bit_without16}
use Rattle.bounded.proofs.Members.{without_part}
use Rattle.bounded.proofs.Table.{get_d_tab}
use Rattle.problem.specs.Places.{place_of}
use Rattle.problem.specs.Held.{far_start, rows_start, table_length, far_at, rows_at, row_allows, far_from}
use Rattle.problem.specs.Filling.{Shows, Entered}
use Rattle.problem.proofs.Places.{place_symmetric, place_apart}
use Rattle.table.specs.Parts.{transposed_row, transposed_rows, cleared, Wrote}

-- ---- where the rows of a pair stand

pub rows_lower : (i j : ℕ) → i < j → rows_at i j ≡ rows_start + 32 * place_of i j
rows_lower i j l = let e : ◌≡◌ {A = ℕ} (cond (ltb i j) 0 16) 0 = rw (lt-ltb i j l) in omega arith

pub rows_higher : (i j : ℕ) → i < j → rows_at j i ≡ rows_start + 16 + 32 * place_of i j
rows_higher i j l =
    let e : ◌≡◌ {A = ℕ} (cond (ltb j i) 0 16) 16 = rw (le-ltb j i (omega arith)) in
    let s = place_symmetric j i in
    omega arith

-- no row of one pair is a row of another
apart : (i j k l : ℕ) → i < j → j < 32 → k < l → l < 32 → ((k ≡ i) × (l ≡ j) → ⊥) → (place_of k l < place_of i j) ⊎ (place_of i j < place_of k l)
apart i j k l p q r s d =
    ⊎_elim
    (λ (m : place_of k l < place_of i j). inl m)
    (λ (m : place_of i j ≤ place_of k l).
    ⊎_elim (λ (n : place_of i j < place_of k l). inr n) (λ (n : place_of k l ≤ place_of i j). absurd (d (place_apart k l i j r s p q (omega arith)))) (lt_dec (place_of i j) (place_of k l)))
    (lt_dec (place_of k l) (place_of i j))

-- ---- far bits

module _ (t : List ℕ) (i j : ℕ) (long : length t ≡ table_length) (li : i < 32) (lj : j < 32) where
  pub cleared_long : length (cleared t i j) ≡ length t
  unfolding cleared
  cleared_long = length-set t (far_at i j) _

  cleared_at : get_or (cleared t i j) (far_at i j) 0 ≡ without 16 (get_or t (far_at i j) 0) (j % 16)
  unfolding cleared
  cleared_at = get_or-set_same t (far_at i j) _ 0 (omega arith)

  pub cleared_other : (q : ℕ) → q ≢ far_at i j → get_or (cleared t i j) q 0 ≡ get_or t q 0
  unfolding cleared
  cleared_other q d = get_or-set_other t (far_at i j) q _ 0 d

  -- no bit comes in
  cleared_less : (k l : ℕ) → far_from (cleared t i j) k l ≡ true → far_from t k l ≡ true
  unfolding far_from
  cleared_less k l e =
      ⊎_elim
      (λ p. T_true _ (subst (λ (q : ℕ). T (bit (get_or t q 0) (l % 16))) (sym p) (without_part 16 (get_or t (far_at i j) 0) (j % 16) (l % 16) (T_of (sym (ap (λ (x : ℕ). bit x (l % 16)) (ap (λ (q : ℕ). get_or (cleared t i j) q 0) p ∙ cleared_at)) ∙ e)))))
      (λ d. sym (ap (λ (x : ℕ). bit x (l % 16)) (cleared_other (far_at k l) d)) ∙ e)
      (eq_dec (far_at k l) (far_at i j))

  -- this one is out
  cleared_here : far_from (cleared t i j) i j ≡ false
  unfolding far_from
  cleared_here =
      let x = get_or t (far_at i j) 0 in
      let c = j % 16 in
      ap (λ (y : ℕ). bit y c) cleared_at ∙ bit_without16 x c c (omega arith) (omega arith) ∙ ap (λ (b : Bool). bit x c && not b) (eq-eqb c c refl) ∙ none (bit x c)
    where
      none : (b : Bool) → (b && false) ≡ false
      none true = refl
      none false = refl

-- ---- the block entered

-- t₁ has the rows, t₂ the turned rows too
module _ (t t₁ t₂ rows turned : List ℕ) (i j : ℕ) (long : length t ≡ table_length) (li : i < j) (lj : j < 32)
    (own : Wrote 16 t t₁ (rows_at i j) (λ a. get_or rows a 0)) (other : Wrote 16 t₁ t₂ (rows_at j i) (λ a. get_or turned a 0)) (e : turned ≡ transposed_rows rows) where
  abbrev u : List ℕ
  u = cleared (cleared t₂ i j) j i

  long₂ : length t₂ ≡ table_length
  long₂ = other.long ∙ own.long ∙ long

  long₃ : length (cleared t₂ i j) ≡ table_length
  long₃ = cleared_long t₂ i j long₂ (omega arith) lj ∙ long₂

  -- what is no far entry
  near : (q : ℕ) → (q < far_start) ⊎ (rows_start ≤ q) → get_or u q 0 ≡ get_or t₂ q 0
  near q s =
      cleared_other (cleared t₂ i j) j i long₃ lj (omega arith) q (no j i lj (omega arith) s)
      ∙ cleared_other t₂ i j long₂ (omega arith) lj q (no i j (omega arith) lj s)
    where
      no : (k l : ℕ) → k < 32 → l < 32 → (q < far_start) ⊎ (rows_start ≤ q) → q ≢ far_at k l
      no k l lk ll (inl h) z = omega arith
      no k l lk ll (inr h) z = omega arith

  -- what is no row of the pair
  outside : (q : ℕ) → (q < rows_start + 32 * place_of i j) ⊎ (rows_start + 32 + 32 * place_of i j ≤ q) → get_or t₂ q 0 ≡ get_or t q 0
  outside q s =
      let a = rows_lower i j li in
      let b = rows_higher i j li in
      ⊎_elim (λ (h : q < rows_start + 32 * place_of i j). other.below q (omega arith) ∙ own.below q (omega arith)) (λ (h : rows_start + 32 + 32 * place_of i j ≤ q). other.above q (omega arith) ∙ own.above q (omega arith)) s

  here_own : (a b : ℕ) → a < 16 → b < 16 → row_allows u i a j b ≡ bit (get_or rows a 0) b
  unfolding row_allows
  here_own a b la lb =
      let p = rows_lower i j li in
      let q = rows_higher i j li in
      ap (λ (x : ℕ). bit x b) (near (rows_at i j + a) (inr (omega arith)) ∙ other.below (rows_at i j + a) (omega arith) ∙ own.there a la)

  here_turned : (a b : ℕ) → a < 16 → b < 16 → row_allows u j b i a ≡ bit (get_or rows a 0) b
  unfolding row_allows transposed_row transposed_rows
  here_turned a b la lb =
      let q = rows_higher i j li in
      ap (λ (x : ℕ). bit x a) (near (rows_at j i + b) (inr (omega arith)) ∙ other.there b lb ∙ ap (λ (r : List ℕ). get_or r b 0) e ∙ get_d_tab 16 (transposed_row rows) b 0 lb)
      ∙ bit_mask 16 (λ a. bit (get_or rows a 0) b) a la

  -- any far bit was there before
  less : (k l : ℕ) → k < 32 → l < 32 → far_from u k l ≡ true → far_from t k l ≡ true
  unfolding far_from
  less k l lk ll h =
      sym (ap (λ (x : ℕ). bit x (l % 16)) (outside (far_at k l) (inl (omega arith))))
      ∙ cleared_less t₂ i j long₂ (omega arith) lj k l (cleared_less (cleared t₂ i j) j i long₃ lj (omega arith) k l h)

  -- neither variable is far from the other
  here_far : far_from u i j ≡ true → ⊥
  here_far h = clash (cleared_less (cleared t₂ i j) j i long₃ lj (omega arith) i j h) (cleared_here t₂ i j long₂ (omega arith) lj)

  here_turned_far : far_from u j i ≡ true → ⊥
  here_turned_far h = clash h (cleared_here (cleared t₂ i j) j i long₃ lj (omega arith))

  -- the rows of another pair are as they were
  kept : (k l : ℕ) → k < l → l < 32 → ((k ≡ i) × (l ≡ j) → ⊥) → (q : ℕ) → rows_start + 32 * place_of k l ≤ q → q < rows_start + 32 + 32 * place_of k l → get_or u q 0 ≡ get_or t q 0
  kept k l lk ll d q lo hi =
      near q (inr (omega arith))
      ∙ outside q (⊎_elim (λ (m : place_of k l < place_of i j). inl (omega arith)) (λ (m : place_of i j < place_of k l). inr (omega arith)) (apart i j k l li lj lk ll d))

  -- what they say is as it was
  rows_kept : (k l : ℕ) → k < l → l < 32 → ((k ≡ i) × (l ≡ j) → ⊥) → (a b : ℕ) → a < 16 → b < 16 → (row_allows u k a l b ≡ row_allows t k a l b) × (row_allows u l b k a ≡ row_allows t l b k a)
  unfolding row_allows
  rows_kept k l lk ll d a b la lb =
      let p = rows_lower k l lk in
      let q = rows_higher k l lk in
      (ap (λ (x : ℕ). bit x b) (kept k l lk ll d (rows_at k l + a) (omega arith) (omega arith)), ap (λ (x : ℕ). bit x a) (kept k l lk ll d (rows_at l k + b) (omega arith) (omega arith)))

  others : (k l : ℕ) (f : ℕ → ℕ → Bool) → k < l → l < 32 → ((k ≡ i) × (l ≡ j) → ⊥) → Shows t k l f → Shows u k l f
  others k l f lk ll d s =
      record {
        own = λ a b la lb. (rows_kept k l lk ll d a b la lb).0 ∙ s.own a b la lb;
        turned = λ a b la lb. (rows_kept k l lk ll d a b la lb).1 ∙ s.turned a b la lb;
        far = λ h. s.far (less k l (omega arith) ll h);
        turned_far = λ h. s.turned_far (less l k ll (omega arith) h);
      }

  entered : Entered t i j rows u
  entered =
      record {
        long = cleared_long (cleared t₂ i j) j i long₃ lj (omega arith) ∙ long₃ ∙ sym long;
        front = λ q l. near q (inl l) ∙ outside q (inl (omega arith));
        here = record { own = here_own; turned = here_turned; far = λ h a b la lb. absurd (here_far h); turned_far = λ h a b la lb. absurd (here_turned_far h) };
        else = others;
        kept = rows_kept;
        less = less;
      }

-- the same from what the parts of the code ensure
pub entered_by : (t t₁ t₂ t₃ u rows turned : List ℕ) (i j p q : ℕ) → length t ≡ table_length → i < j → j < 32 → turned ≡ transposed_rows rows
    → p ≡ rows_at i j → Wrote 16 t t₁ p (λ a. get_or rows a 0) → q ≡ rows_at j i → Wrote 16 t₁ t₂ q (λ a. get_or turned a 0)
    → t₃ ≡ cleared t₂ i j → u ≡ cleared t₃ j i → Entered t i j rows u
entered_by t t₁ t₂ t₃ u rows turned i j p q long li lj e ep own eq other e₃ eu =
    subst (Entered t i j rows) (sym (eu ∙ ap (λ (x : List ℕ). cleared x j i) e₃))
    (entered t t₁ t₂ rows turned i j long li lj (subst (λ (n : ℕ). Wrote 16 t t₁ n (λ a. get_or rows a 0)) ep own) (subst (λ (n : ℕ). Wrote 16 t₁ t₂ n (λ a. get_or turned a 0)) eq other) e)
