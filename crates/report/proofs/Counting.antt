-- Counts over a problem's own bounds are counts over 32 and 16: nothing is beyond. Assumes nothing.
use mathlib.Core.Path.{◌≡◌, refl, sym, ap, ◌∙◌}
use mathlib.Core.Bool.{Bool}
use mathlib.Core.Logic.{⊎_elim}
use Prim.Native.Nat.{ℕ, zero, suc, ◌+◌, ◌≤◌, ◌<◌}
use native.Mathlib.Omega.{arith}
use lib.Dec.{T}
use Rattle.bounded.specs.Quantifiers.{one_if, sum_to, count_below}
use Rattle.bounded.proofs.Truth.{T_false, lt_dec}
use Rattle.bounded.proofs.Quantifiers.{sum_ext}
use Rattle.bounded.proofs.Loops.{sum_more}
use Rattle.problem.specs.Problem.{Problem, State, live_count}
use Rattle.problem.specs.Held.{Bounded}
use Rattle.problem.specs.Masks.{state_of, masks_of}
use Rattle.problem.specs.Sentences.{Fits}
use Rattle.problem.proofs.Bridge.{state_back}

-- ---- one turn of a count

pub count_none : (f : ℕ → Bool) → count_below 0 f ≡ 0
unfolding count_below sum_to
count_none f = refl

pub count_more : (f : ℕ → Bool) (n : ℕ) → count_below (n + 1) f ≡ count_below n f + one_if (f n)
unfolding count_below
count_more f n = sum_more (λ k. one_if (f k)) n

-- ---- a loop over a sum: one turn, and its end

pub sum_turn : (f : ℕ → ℕ) (i a b : ℕ) → a ≡ sum_to i f → b ≡ f i → a + b ≡ sum_to (i + 1) f
sum_turn f i a b p q = (λ t. p t + q t) ∙ sym (sum_more f i)

pub sum_end : (f : ℕ → ℕ) (n i a : ℕ) → i ≡ n → a ≡ sum_to i f → a ≡ sum_to n f
sum_end f n i a e p = p ∙ ap (λ (k : ℕ). sum_to k f) e

-- ---- nothing beyond n

pub sum_beyond : (n k : ℕ) (f : ℕ → ℕ) → n ≤ k → ((i : ℕ) → n ≤ i → f i ≡ 0) → sum_to k f ≡ sum_to n f
unfolding sum_to
sum_beyond n zero f l h = let e : 0 ≡ n = omega arith in ap (λ (m : ℕ). sum_to m f) e
sum_beyond n (suc k) f l h = ⊎_elim (λ m. more m (sum_beyond n k f (omega arith) h)) same (lt_dec n (suc k))
  where
    same : suc k ≤ n → sum_to (suc k) f ≡ sum_to n f
    same m = let e : suc k ≡ n = omega arith in ap (λ (m : ℕ). sum_to m f) e

    more : n < suc k → sum_to k f ≡ sum_to n f → sum_to k f + f k ≡ sum_to n f
    more m e = omega (arith, h k (omega arith))

pub count_beyond : (n k : ℕ) (f : ℕ → Bool) → n ≤ k → ((i : ℕ) → T (f i) → i < n) → count_below k f ≡ count_below n f
unfolding count_below
count_beyond n k f l h = sum_beyond n k (λ i. one_if (f i)) l (λ i m. ap one_if (T_false (f i) (λ t. let x = h i t in omega arith)))

-- ---- a state that fits

module _ (P : Problem) (B : Bounded P) where
  module _ {s : State} (F : Fits P s) where
    pub active_counted : count_below 32 (state_of (masks_of s)).active ≡ count_below P.n s.active
    active_counted = ap (λ (x : State). count_below 32 x.active) (state_back P B F) ∙ count_beyond P.n 32 s.active B.few F.active_lt

    no_values : (i : ℕ) → P.n ≤ i → count_below (P.size i) (s.live i) ≡ 0
    no_values i l = ap (λ (z : ℕ). count_below z (s.live i)) (B.none i l) ∙ count_none (s.live i)

    pub values_counted : sum_to 32 (λ i. count_below 16 ((state_of (masks_of s)).live i)) ≡ live_count P s
    unfolding live_count
    values_counted =
        ap (λ (x : State). sum_to 32 (λ i. count_below 16 (x.live i))) (state_back P B F)
        ∙ sum_ext 32 (λ i. count_below 16 (s.live i)) (λ i. count_below (P.size i) (s.live i)) (λ i l. count_beyond (P.size i) 16 (s.live i) (B.narrow i) (F.live_lt i))
        ∙ sum_beyond P.n 32 (λ i. count_below (P.size i) (s.live i)) B.few no_values
