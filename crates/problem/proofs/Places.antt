-- The rule of the list of places: the same for a pair turned round, below 496, and another place for another pair. Assumes nothing.
use mathlib.Core.Path.{◌≡◌, refl, sym, ap, ◌∙◌}
use mathlib.Core.Bool.{true}
use mathlib.Core.Logic.{⊎_elim, ◌≢◌}
use Prim.Native.Nat.{ℕ, zero, suc, ◌+◌, ◌-◌, ◌*◌, ◌/◌, ◌≤◌, ◌<◌}
use native.Mathlib.Nat.{not-suc-le-zero}
use native.Mathlib.Omega.{arith}
use lib.Dec.{eqb}
use borrow.Author.Tests.{lt-ltb, le-ltb, eqb-true}
use Rattle.bounded.specs.Quantifiers.{all_below}
use Rattle.bounded.proofs.Truth.{at_or_below, eq_dec, lt_dec}
use Rattle.bounded.proofs.Loops.{all_each}
use Rattle.problem.specs.Places.{place_of}

-- the places before those of pairs with the higher item j
unfoldable before : ℕ → ℕ
before j = j * (j - 1) / 2

pub place_up : (i j : ℕ) → i < j → place_of i j ≡ j * (j - 1) / 2 + i
unfolding place_of
place_up i j l = rw (lt-ltb i j l)

pub place_down : (i j : ℕ) → j < i → place_of i j ≡ i * (i - 1) / 2 + j
unfolding place_of
place_down i j l = rw (le-ltb i j (omega arith), lt-ltb j i l)

-- "65,535 where i equals j"
pub place_same : (i : ℕ) → place_of i i ≡ 65535
unfolding place_of
place_same i = rw (le-ltb i i (omega arith))

-- "the same for the pair turned round"
pub place_symmetric : (i j : ℕ) → place_of i j ≡ place_of j i
place_symmetric i j =
    ⊎_elim
    (λ e. rw e)
    (λ (d : i ≢ j).
    ⊎_elim
    (λ (l : i < j). place_up i j l ∙ sym (place_down j i l))
    (λ (l : j ≤ i). let m : j < i = less d l in place_down i j m ∙ sym (place_up j i m))
    (lt_dec i j))
    (eq_dec i j)
  where
    less : i ≢ j → j ≤ i → j < i
    less d l = ⊎_elim (λ (m : j < i). m) (λ (m : i ≤ j). absurd (d (omega arith))) (lt_dec j i)

-- one item more: one computed test over the 32 items
nexts : all_below 32 (λ j. eqb (before (suc j)) (before j + j)) ≡ true
unfolding all_below before
nexts = refl

before_next : (j : ℕ) → j < 32 → before (suc j) ≡ before j + j
before_next j l = eqb-true _ _ (all_each (λ j. eqb (before (suc j)) (before j + j)) 32 nexts j l)

before_last : before 32 ≡ 496
unfolding before
before_last = refl

before_later : (j l : ℕ) → j < l → l ≤ 32 → before j + j ≤ before l
before_later j zero h k = absurd (not-suc-le-zero h)
before_later j (suc l) h k =
    let n = before_next l (omega arith) in
    ⊎_elim
    (λ e. let q : before j ≡ before l = ap before e in omega arith)
    (λ (m : j < l). let q = before_later j l m (omega arith) in omega arith)
    (at_or_below h)

module _ (i j : ℕ) (rises : i < j) (ends : j < 32) where
  up : place_of i j ≡ before j + i
  unfolding before
  up = place_up i j rises

  below_496 : place_of i j < 496
  below_496 = let b = before_later j 32 ends (omega arith) in let e = before_last in omega (arith, up)

-- two items have one of 496 places
pub place_small : (i j : ℕ) → i < 32 → j < 32 → i ≢ j → place_of i j < 496
place_small i j p q d =
    ⊎_elim
    (λ (l : i < j). below_496 i j l q)
    (λ (l : j ≤ i). ⊎_elim (λ (m : j < i). let e = place_symmetric i j in let b = below_496 j i m p in omega arith) (λ (m : i ≤ j). absurd (d (omega arith))) (lt_dec j i))
    (lt_dec i j)

-- and no other two have it
pub place_apart : (i j k l : ℕ) → i < j → j < 32 → k < l → l < 32 → place_of i j ≡ place_of k l → (i ≡ k) × (j ≡ l)
place_apart i j k l p q r s e =
    let u = up i j p q in
    let v = up k l r s in
    ⊎_elim
    (λ f. let b : before j ≡ before l = ap before f in (omega arith, f))
    (λ (d : j ≢ l).
    ⊎_elim
    (λ (m : j < l). let b = before_later j l m (omega arith) in absurd (omega arith))
    (λ (m : l ≤ j). ⊎_elim (λ (w : l < j). let b = before_later l j w (omega arith) in absurd (omega arith)) (λ (w : j ≤ l). absurd (d (omega arith))) (lt_dec l j))
    (lt_dec j l))
    (eq_dec j l)
