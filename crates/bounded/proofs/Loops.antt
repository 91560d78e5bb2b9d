-- What a loop that goes up from 0 knows of the tests: at its start, after one turn more, where it stops early, and at its end.
-- Assumes nothing.
use mathlib.Core.Path.{◌≡◌, refl, sym, ap, subst, ◌∙◌}
use mathlib.Core.Bool.{Bool, true, false, ◌||◌}
use mathlib.Core.Logic.{◌⊎◌, inl, inr, ⊎_elim, ◌↔◌}
use Prim.Native.Nat.{ℕ, ◌+◌, ◌≤◌, ◌<◌}
use native.Mathlib.Numerals.{add-one}
use native.Mathlib.Omega.{arith}
use lib.Dec.{T}
use Rattle.bounded.specs.Quantifiers.{all_below, any_below, lowest, at_lowest, sum_to}
use Rattle.bounded.proofs.Truth.{T_true, T_false, T_of, T_not, T_ext, split, or_iff, at_or_below}
use Rattle.bounded.proofs.Quantifiers.{all_iff, any_iff, lowest_is, lowest_unique, lowest_least}

-- ---- all

pub all_none : (f : ℕ → Bool) → all_below 0 f ≡ true
unfolding all_below
all_none f = refl

pub all_intro : (f : ℕ → Bool) (n : ℕ) → ((k : ℕ) → k < n → f k ≡ true) → all_below n f ≡ true
all_intro f n h = T_true (all_below n f) ((all_iff n f).1 (λ k l. T_of (h k l)))

pub all_each : (f : ℕ → Bool) (n : ℕ) → all_below n f ≡ true → (k : ℕ) → k < n → f k ≡ true
all_each f n e k l = T_true (f k) ((all_iff n f).0 (T_of e) k l)

pub all_more : (f : ℕ → Bool) (n : ℕ) → all_below n f ≡ true → f n ≡ true → all_below (n + 1) f ≡ true
all_more f n p q = all_intro f (n + 1) (λ k l. ⊎_elim (λ e. ap f e ∙ q) (λ m. all_each f n p k m) (at_or_below (rw add-one at l)))

-- one that fails
pub all_fail : (f : ℕ → Bool) (n k : ℕ) → k < n → f k ≡ false → all_below n f ≡ false
all_fail f n k l e = T_false (all_below n f) (λ t. T_not e ((all_iff n f).0 t k l))

-- a loop's end: i has come to n
pub all_end : (f : ℕ → Bool) (n i : ℕ) → n ≤ i → all_below i f ≡ true → all_below n f ≡ true
all_end f n i l e = all_intro f n (λ k m. all_each f i e k (omega arith))

-- ---- any

pub any_none : (f : ℕ → Bool) → any_below 0 f ≡ false
unfolding any_below
any_none f = refl

pub any_intro : (f : ℕ → Bool) (n : ℕ) → ((k : ℕ) → k < n → f k ≡ false) → any_below n f ≡ false
any_intro f n h = T_false (any_below n f) (λ t. let x = (any_iff n f).0 t in T_not (h x.0 x.1) x.2)

pub any_each : (f : ℕ → Bool) (n : ℕ) → any_below n f ≡ false → (k : ℕ) → k < n → f k ≡ false
any_each f n e k l = T_false (f k) (λ t. T_not e ((any_iff n f).1 (k, l, t)))

pub any_more : (f : ℕ → Bool) (n : ℕ) → any_below n f ≡ false → f n ≡ false → any_below (n + 1) f ≡ false
any_more f n p q = any_intro f (n + 1) (λ k l. ⊎_elim (λ e. ap f e ∙ q) (λ m. any_each f n p k m) (at_or_below (rw add-one at l)))

-- one that holds
pub any_hit : (f : ℕ → Bool) (n k : ℕ) → k < n → f k ≡ true → any_below n f ≡ true
any_hit f n k l e = T_true (any_below n f) ((any_iff n f).1 (k, l, T_of e))

pub any_end : (f : ℕ → Bool) (n i : ℕ) → n ≤ i → any_below i f ≡ false → any_below n f ≡ false
any_end f n i l e = any_intro f n (λ k m. any_each f i e k (omega arith))

-- one more, whatever it is
pub any_next : (f : ℕ → Bool) (n : ℕ) → any_below (n + 1) f ≡ (any_below n f || f n)
any_next f n =
    T_ext (
      λ t. let x = (any_iff (n + 1) f).0 t in (or_iff (any_below n f) (f n)).1 (⊎_elim (λ e. inr (subst (λ (k : ℕ). T (f k)) e x.2)) (λ m. inl ((any_iff n f).1 (x.0, m, x.2))) (at_or_below {k = x.0} {n = n} (omega (arith, x.1)))),
      λ t. ⊎_elim (λ u. let x = (any_iff n f).0 u in (any_iff (n + 1) f).1 (x.0, omega (arith, x.1), x.2)) (λ u. (any_iff (n + 1) f).1 (n, omega arith, u)) ((or_iff (any_below n f) (f n)).0 t),
    )

-- ---- lowest

pub lowest_none : (f : ℕ → Bool) → lowest 0 f ≡ 0
unfolding lowest
lowest_none f = refl

-- none so far, nor here
pub lowest_more : (f : ℕ → Bool) (n : ℕ) → lowest n f ≡ n → f n ≡ false → lowest (n + 1) f ≡ n + 1
lowest_more f n p q =
    lowest_unique (n + 1) f (n + 1) (omega arith)
    (λ k l t. ⊎_elim (λ e. T_not (ap f e ∙ q) t) (λ m. lowest_least n f k (omega (arith, p)) t) (at_or_below (rw add-one at l)))
    (λ l. absurd (omega arith))

-- none before k, and one at k
pub lowest_hit : (f : ℕ → Bool) (n k : ℕ) → k < n → lowest k f ≡ k → f k ≡ true → lowest n f ≡ k
lowest_hit f n k l p q = lowest_unique n f k (omega arith) (λ m h t. lowest_least k f m (omega (arith, p)) t) (λ h. T_of q)

-- a loop's end: i has come to n
pub lowest_end : (f : ℕ → Bool) (n i : ℕ) → n ≤ i → i ≤ n → lowest i f ≡ i → lowest n f ≡ n
lowest_end f n i l m e = let q : i ≡ n = omega arith in subst (λ (k : ℕ). lowest k f ≡ k) q e

-- there is a lowest, or none
pub lowest_or : (f : ℕ → Bool) (n : ℕ) → ((k : ℕ) × (k < n) × T (f k) × ((m : ℕ) → m < k → T (f m) → ⊥)) ⊎ ((k : ℕ) → k < n → T (f k) → ⊥)
lowest_or f n =
    ⊎_elim
    (λ e. let x = lowest_is n f ((any_iff n f).0 (T_of e)) in inl (lowest n f, x.0, x.1, lowest_least n f))
    (λ e. inr (λ k l. T_not (any_each f n e k l)))
    (split (any_below n f))

-- ---- at the lowest

module _ {A : Type 0} (f : ℕ → Bool) (g : ℕ → A) (z : A) where
  pub at_lowest_some : (n : ℕ) → any_below n f ≡ true → at_lowest n f g z ≡ g (lowest n f)
  unfolding at_lowest
  at_lowest_some n e = rw (e, at_lowest)

  -- a loop's end: there is none
  pub at_lowest_end : (n : ℕ) → any_below n f ≡ false → at_lowest n f g z ≡ z
  unfolding at_lowest
  at_lowest_end n e = rw (e, at_lowest)

  -- none before k, and one at k
  pub at_lowest_hit : (n k : ℕ) → k < n → any_below k f ≡ false → f k ≡ true → at_lowest n f g z ≡ g k
  at_lowest_hit n k l p q =
      at_lowest_some n (any_hit f n k l q)
      ∙ ap g (lowest_unique n f k (omega arith) (λ m h t. T_not (any_each f k p m h) t) (λ h. T_of q))

  -- what decides it
  pub at_lowest_is : (n k : ℕ) → k < n → T (f k) → ((m : ℕ) → m < k → T (f m) → ⊥) → at_lowest n f g z ≡ g k
  at_lowest_is n k l t h = at_lowest_hit n k l (any_intro f k (λ m i. T_false (f m) (h m i))) (T_true (f k) t)

  pub at_lowest_none : (n : ℕ) → ((k : ℕ) → k < n → T (f k) → ⊥) → at_lowest n f g z ≡ z
  at_lowest_none n h = at_lowest_end n (any_intro f n (λ k l. T_false (f k) (h k l)))

-- two tests that hold at the same numbers
pub at_lowest_same : {A : Type 0} (n m : ℕ) (f h : ℕ → Bool) (g : ℕ → A) (z : A)
    → ((k : ℕ) → ((k < n) × T (f k)) ↔ ((k < m) × T (h k))) → at_lowest n f g z ≡ at_lowest m h g z
at_lowest_same n m f h g z same =
    ⊎_elim
    (λ x. let y = (same x.0).0 (x.1, x.2) in
    at_lowest_is f g z n x.0 x.1 x.2 x.3 ∙ sym (at_lowest_is h g z m x.0 y.0 y.1 (λ k l t. x.3 k l ((same k).1 (omega (arith, y.0), t)).1)))
    (λ x. at_lowest_none f g z n x ∙ sym (at_lowest_none h g z m (λ k l t. let y = (same k).1 (l, t) in x k y.0 y.1)))
    (lowest_or f n)

-- and two that say the same of each number
pub at_lowest_ext : {A : Type 0} (n : ℕ) (f h : ℕ → Bool) (g k : ℕ → A) (z : A) → ((i : ℕ) → i < n → f i ≡ h i) → ((i : ℕ) → i < n → g i ≡ k i) → at_lowest n f g z ≡ at_lowest n h k z
at_lowest_ext n f h g k z same alike =
    ⊎_elim
    (λ x. at_lowest_is f g z n x.0 x.1 x.2 x.3 ∙ alike x.0 x.1
    ∙ sym (at_lowest_is h k z n x.0 x.1 (subst T (same x.0 x.1) x.2) (λ m l t. x.3 m l (subst T (sym (same m (omega (arith, x.1)))) t))))
    (λ x. at_lowest_none f g z n x ∙ sym (at_lowest_none h k z n (λ i l t. x i l (subst T (sym (same i l)) t))))
    (lowest_or f n)

-- ---- sums

pub sum_none : (f : ℕ → ℕ) → sum_to 0 f ≡ 0
unfolding sum_to
sum_none f = refl

pub sum_more : (f : ℕ → ℕ) (n : ℕ) → sum_to (n + 1) f ≡ sum_to n f + f n
unfolding sum_to
sum_more f n = rw add-one
