-- What the tests over the numbers below a bound say. Assumes nothing.
use mathlib.Core.Path.{◌≡◌, refl, ap}
use mathlib.Core.Bool.{Bool, true, false}
use mathlib.Core.Logic.{◌⊎◌, inl, inr, ◌≢◌, ◌↔◌}
use Prim.Native.Nat.{ℕ, zero, suc, ◌+◌, ◌≤◌, ◌<◌}
use native.Mathlib.Nat.{le_refl, le_of_suc-le-suc, not-suc-le-zero}
use native.Mathlib.Omega.{arith}
use lib.Dec.{T}
use Rattle.bounded.specs.Quantifiers.{all_below, any_below, lowest, sum_to, one_if, count_below}
use Rattle.bounded.proofs.Truth.{T_true, T_of, T_dec, at_or_below, eq_dec, lt_dec}

-- ---- all and any

all_suc : (n : ℕ) (f : ℕ → Bool) → T (all_below (suc n) f) ↔ (T (f n) × T (all_below n f))
unfolding all_below
all_suc n f = go (f n)
  where
    go : (b : Bool) → T (elim b as (λ x. Bool) [ true ↦ all_below n f | false ↦ false ]) ↔ (T b × T (all_below n f))
    go true = (λ t. (tt, t), λ p. p.1)
    go false = (λ t. absurd t, λ p. p.0)

all_to : (n : ℕ) (f : ℕ → Bool) → T (all_below n f) → (k : ℕ) → k < n → T (f k)
all_to zero f t k h = absurd (not-suc-le-zero h)
all_to (suc n) f t k h = go (at_or_below h) (all_to n f ((all_suc n f).0 t).1 k)
  where
    go : (k ≡ n) ⊎ (k < n) → (k < n → T (f k)) → T (f k)
    go (inl e) ih = rw e ((all_suc n f).0 t).0
    go (inr l) ih = ih l

all_of : (n : ℕ) (f : ℕ → Bool) → ((k : ℕ) → k < n → T (f k)) → T (all_below n f)
unfolding all_below
all_of zero f h = tt
all_of (suc n) f h = (all_suc n f).1 (h n (omega arith), all_of n f (λ k l. h k (omega arith)))

pub all_iff : (n : ℕ) (f : ℕ → Bool) → T (all_below n f) ↔ ((k : ℕ) → k < n → T (f k))
all_iff n f = (all_to n f, all_of n f)

any_suc : (n : ℕ) (f : ℕ → Bool) → T (any_below (suc n) f) ↔ (T (f n) ⊎ T (any_below n f))
unfolding any_below
any_suc n f = go (f n)
  where
    go : (b : Bool) → T (elim b as (λ x. Bool) [ true ↦ true | false ↦ any_below n f ]) ↔ (T b ⊎ T (any_below n f))
    go true = (λ t. inl tt, λ p. tt)
    go false = (λ t. inr t, λ p. elim p [ inl a ↦ absurd a | inr b ↦ b ])

any_to : (n : ℕ) (f : ℕ → Bool) → T (any_below n f) → (k : ℕ) × (k < n) × T (f k)
unfolding any_below
any_to zero f t = absurd t
any_to (suc n) f t = go ((any_suc n f).0 t) (any_to n f)
  where
    go : T (f n) ⊎ T (any_below n f) → (T (any_below n f) → (k : ℕ) × (k < n) × T (f k)) → (k : ℕ) × (k < suc n) × T (f k)
    go (inl a) ih = (n, omega arith, a)
    go (inr b) ih = ((ih b).0, omega (arith, (ih b).1), (ih b).2)

any_of : (n : ℕ) (f : ℕ → Bool) → ((k : ℕ) × (k < n) × T (f k)) → T (any_below n f)
any_of zero f h = absurd (not-suc-le-zero h.1)
any_of (suc n) f h = go (at_or_below h.1) (any_of n f)
  where
    go : (h.0 ≡ n) ⊎ (h.0 < n) → (((k : ℕ) × (k < n) × T (f k)) → T (any_below n f)) → T (any_below (suc n) f)
    go (inl e) ih = (any_suc n f).1 (inl (rw e at h.2))
    go (inr l) ih = (any_suc n f).1 (inr (ih (h.0, l, h.2)))

pub any_iff : (n : ℕ) (f : ℕ → Bool) → T (any_below n f) ↔ ((k : ℕ) × (k < n) × T (f k))
any_iff n f = (any_to n f, any_of n f)

-- all pass, or one that fails is found
pub all_or : (n : ℕ) (f : ℕ → Bool) → T (all_below n f) ⊎ ((k : ℕ) × (k < n) × (T (f k) → ⊥))
unfolding all_below
all_or zero f = inl tt
all_or (suc n) f = go (T_dec (f n)) (all_or n f)
  where
    go : T (f n) ⊎ (T (f n) → ⊥) → T (all_below n f) ⊎ ((k : ℕ) × (k < n) × (T (f k) → ⊥)) → T (all_below (suc n) f) ⊎ ((k : ℕ) × (k < suc n) × (T (f k) → ⊥))
    go (inr d) r = inr (n, omega arith, d)
    go (inl t) (inl a) = inl ((all_suc n f).1 (t, a))
    go (inl t) (inr x) = inr (x.0, omega (arith, x.1), x.2)

-- ---- lowest

pub lowest_here : (n : ℕ) (f : ℕ → Bool) → f zero ≡ true → lowest (suc n) f ≡ zero
unfolding lowest
lowest_here n f e = rw (e, lowest)

pub lowest_later : (n : ℕ) (f : ℕ → Bool) → f zero ≡ false → lowest (suc n) f ≡ suc (lowest n (λ k. f (suc k)))
unfolding lowest
lowest_later n f e = rw (e, lowest)

pub lowest_le : (n : ℕ) (f : ℕ → Bool) → lowest n f ≤ n
unfolding lowest
lowest_le zero f = omega arith
lowest_le (suc n) f = go (f zero) refl (lowest_le n (λ k. f (suc k)))
  where
    go : (b : Bool) → f zero ≡ b → lowest n (λ k. f (suc k)) ≤ n → lowest (suc n) f ≤ suc n
    go true e ih = rw (lowest_here n f e) (omega arith)
    go false e ih = rw (lowest_later n f e) (omega arith)

-- where any below n passes, the lowest is below n and passes
pub lowest_is : (n : ℕ) (f : ℕ → Bool) → ((k : ℕ) × (k < n) × T (f k)) → (lowest n f < n) × T (f (lowest n f))
lowest_is zero f x = absurd (not-suc-le-zero x.1)
lowest_is (suc n) f x = go (f zero) refl x.0 x.1 x.2 (lowest_is n (λ k. f (suc k)))
  where
    later : (f zero ≡ false) → (lowest n (λ k. f (suc k)) < n) × T (f (suc (lowest n (λ k. f (suc k))))) → (lowest (suc n) f < suc n) × T (f (lowest (suc n) f))
    later e q = rw (lowest_later n f e) (omega (arith, q.0), q.1)

    go : (b : Bool) → f zero ≡ b → (k : ℕ) → k < suc n → T (f k) → (((k : ℕ) × (k < n) × T (f (suc k))) → (lowest n (λ k. f (suc k)) < n) × T (f (suc (lowest n (λ k. f (suc k)))))) → (lowest (suc n) f < suc n) × T (f (lowest (suc n) f))
    go true e k h t ih = rw (lowest_here n f e) (omega arith, T_of e)
    go false e zero h t ih = absurd (rw e at t)
    go false e (suc k) h t ih = later e (ih (k, le_of_suc-le-suc h, t))

-- a lowest that is below n passes
pub lowest_passes : (n : ℕ) (f : ℕ → Bool) → lowest n f < n → T (f (lowest n f))
unfolding lowest
lowest_passes zero f h = absurd (not-suc-le-zero h)
lowest_passes (suc n) f h = go (f zero) refl (lowest_passes n (λ k. f (suc k)))
  where
    go : (b : Bool) → f zero ≡ b → (lowest n (λ k. f (suc k)) < n → T (f (suc (lowest n (λ k. f (suc k)))))) → T (f (lowest (suc n) f))
    go true e ih = rw (lowest_here n f e) (T_of e)
    go false e ih = rw (lowest_later n f e) (ih (le_of_suc-le-suc (rw (lowest_later n f e) at h)))

-- none below the lowest passes
pub lowest_least : (n : ℕ) (f : ℕ → Bool) (k : ℕ) → k < lowest n f → T (f k) → ⊥
unfolding lowest
lowest_least zero f k h t = not-suc-le-zero h
lowest_least (suc n) f k h t = go (f zero) refl k h t (lowest_least n (λ k. f (suc k)))
  where
    go : (b : Bool) → f zero ≡ b → (k : ℕ) → k < lowest (suc n) f → T (f k) → ((k : ℕ) → k < lowest n (λ k. f (suc k)) → T (f (suc k)) → ⊥) → ⊥
    go true e k h t ih = not-suc-le-zero (rw (lowest_here n f e) at h)
    go false e zero h t ih = rw e at t
    go false e (suc k) h t ih = ih k (le_of_suc-le-suc (rw (lowest_later n f e) at h)) t

-- what decides the lowest
pub lowest_unique : (n : ℕ) (f : ℕ → Bool) (r : ℕ) → r ≤ n → ((k : ℕ) → k < r → T (f k) → ⊥) → (r < n → T (f r)) → lowest n f ≡ r
lowest_unique n f r le below at = go (lt_dec r (lowest n f)) (lt_dec (lowest n f) r)
  where
    go : (r < lowest n f) ⊎ (lowest n f ≤ r) → (lowest n f < r) ⊎ (r ≤ lowest n f) → lowest n f ≡ r
    go (inl l) _ = absurd (lowest_least n f r l (at (omega (arith, lowest_le n f))))
    go (inr l) (inl g) = absurd (below (lowest n f) g (lowest_passes n f (omega arith)))
    go (inr l) (inr g) = omega arith

-- ---- sums and counts

pub sum_le : (n : ℕ) (f g : ℕ → ℕ) → ((k : ℕ) → k < n → f k ≤ g k) → sum_to n f ≤ sum_to n g
unfolding sum_to
sum_le zero f g h = le_refl 0
sum_le (suc n) f g h = omega (arith, sum_le n f g (λ k l. h k (omega arith)), h n (omega arith))

pub sum_lt : (n : ℕ) (f g : ℕ → ℕ) → ((k : ℕ) → k < n → f k ≤ g k) → (m : ℕ) → m < n → f m < g m → sum_to n f < sum_to n g
unfolding sum_to
sum_lt zero f g h m lt s = absurd (not-suc-le-zero lt)
sum_lt (suc n) f g h m lt s = go (eq_dec m n) (λ l. sum_lt n f g (λ k l. h k (omega arith)) m l s)
  where
    go : (m ≡ n) ⊎ (m ≢ n) → (m < n → sum_to n f < sum_to n g) → sum_to n f + f n < sum_to n g + g n
    go (inl e) ih = omega (arith, sum_le n f g (λ k l. h k (omega arith)), rw e at s)
    go (inr d) ih = omega (arith, ih (omega arith), h n (omega arith))

pub sum_ext : (n : ℕ) (f g : ℕ → ℕ) → ((k : ℕ) → k < n → f k ≡ g k) → sum_to n f ≡ sum_to n g
unfolding sum_to
sum_ext zero f g h = refl
sum_ext (suc n) f g h = omega (arith, sum_ext n f g (λ k l. h k (omega arith)), h n (omega arith))

one_le : (a b : Bool) → (T a → T b) → one_if a ≤ one_if b
one_le true true f = omega arith
one_le true false f = absurd (f tt)
one_le false true f = omega arith
one_le false false f = omega arith

one_lt : (a b : Bool) → (T a → ⊥) → T b → one_if a < one_if b
one_lt true b f t = absurd (f tt)
one_lt false true f t = omega arith
one_lt false false f t = absurd t

pub count_le : (n : ℕ) (f g : ℕ → Bool) → ((k : ℕ) → k < n → T (f k) → T (g k)) → count_below n f ≤ count_below n g
unfolding count_below
count_le n f g h = sum_le n _ _ (λ k l. one_le (f k) (g k) (h k l))

pub count_lt : (n : ℕ) (f g : ℕ → Bool) → ((k : ℕ) → k < n → T (f k) → T (g k)) → (m : ℕ) → m < n → (T (f m) → ⊥) → T (g m) → count_below n f < count_below n g
unfolding count_below
count_lt n f g h m l x t = sum_lt n _ _ (λ k l. one_le (f k) (g k) (h k l)) m l (one_lt (f m) (g m) x t)

-- a test that all pass counts them all
pub count_all : (n : ℕ) (f : ℕ → Bool) → ((k : ℕ) → k < n → T (f k)) → count_below n f ≡ n
unfolding count_below sum_to
count_all zero f h = refl
count_all (suc n) f h =
    let e : one_if (f n) ≡ 1 = ap one_if (T_true (f n) (h n (omega arith))) in
    let i : sum_to n (λ k. one_if (f k)) ≡ n = count_all n f (λ k l. h k (omega arith)) in
    omega arith

pub count_most : (n : ℕ) (f : ℕ → Bool) → count_below n f ≤ n
unfolding count_below sum_to
count_most zero f = le_refl 0
count_most (suc n) f = let e : one_if (f n) ≤ 1 = one_le (f n) true (λ t. tt) in let i : sum_to n (λ k. one_if (f k)) ≤ n = count_most n f in omega arith
