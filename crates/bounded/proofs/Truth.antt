-- Truth values: what a test says, as a proposition. Assumes nothing.
use mathlib.Core.Path.{◌≡◌, refl, sym, subst}
use mathlib.Core.Bool.{Bool, true, false, not, ◌&&◌, ◌||◌}
use mathlib.Core.Logic.{◌⊎◌, inl, inr, ◌≢◌, ◌↔◌}
use Prim.Native.Nat.{ℕ, suc, ◌≤◌, ◌<◌}
use native.Mathlib.Nat.{le_of_suc-le-suc, eq-or-lt_of_le}
use lib.Dec.{T, eqb, eqb→eq, eqb_refl, ltb, ltb→lt, lt→ltb}
use borrow.Author.Tests.{ltb-true, ltb-false}
use Rattle.bounded.specs.Quantifiers.{imp}

pub T_true : (b : Bool) → T b → b ≡ true
T_true true t = refl
T_true false t = absurd t

pub T_of : {b : Bool} → b ≡ true → T b
T_of e = subst T (sym e) tt

pub T_false : (b : Bool) → (T b → ⊥) → b ≡ false
T_false true h = absurd (h tt)
T_false false h = refl

pub T_not : {b : Bool} → b ≡ false → T b → ⊥
T_not e t = subst T e t

-- two tests are one where each holds if the other does
pub T_ext : {a b : Bool} → (T a ↔ T b) → a ≡ b
T_ext {a = true} {b = true} f = refl
T_ext {a = true} {b = false} f = absurd (f.0 tt)
T_ext {a = false} {b = true} f = absurd (f.1 tt)
T_ext {a = false} {b = false} f = refl

pub T_dec : (b : Bool) → T b ⊎ (T b → ⊥)
T_dec true = inl tt
T_dec false = inr (λ t. t)

-- true or false, with the equation
pub split : (b : Bool) → (b ≡ true) ⊎ (b ≡ false)
split true = inl refl
split false = inr refl

pub clash : {b : Bool} → b ≡ true → b ≡ false → ⊥
clash p q = subst T q (T_of p)

pub and_iff : (a b : Bool) → T (a && b) ↔ (T a × T b)
and_iff true b = (λ t. (tt, t), λ p. p.1)
and_iff false b = (λ t. absurd t, λ p. p.0)

pub or_iff : (a b : Bool) → T (a || b) ↔ (T a ⊎ T b)
or_iff true b = (λ t. inl tt, λ p. tt)
or_iff false b = (λ t. inr t, λ p. elim p [ inl x ↦ absurd x | inr y ↦ y ])

pub imp_iff : (a b : Bool) → T (imp a b) ↔ (T a → T b)
imp_iff true b = (λ t s. t, λ f. f tt)
imp_iff false b = (λ t s. absurd s, λ f. tt)

pub imp_fails : (a b : Bool) → (T (imp a b) → ⊥) → T a × (T b → ⊥)
imp_fails true b f = (tt, f)
imp_fails false b f = absurd (f tt)

pub not_iff : (a : Bool) → T (not a) ↔ (T a → ⊥)
not_iff true = (λ t s. t, λ f. f tt)
not_iff false = (λ t s. s, λ f. tt)

pub eqb_iff : (m n : ℕ) → T (eqb m n) ↔ (m ≡ n)
eqb_iff m n = (eqb→eq m n, λ p. subst (λ (k : ℕ). T (eqb m k)) p (eqb_refl m))

pub ltb_iff : (m n : ℕ) → T (ltb m n) ↔ (m < n)
ltb_iff m n = (ltb→lt m n, lt→ltb m n)

pub eq_dec : (m n : ℕ) → (m ≡ n) ⊎ (m ≢ n)
eq_dec m n = go (T_dec (eqb m n))
  where
    go : T (eqb m n) ⊎ (T (eqb m n) → ⊥) → (m ≡ n) ⊎ (m ≢ n)
    go (inl t) = inl (eqb→eq m n t)
    go (inr h) = inr (λ e. h ((eqb_iff m n).1 e))

pub lt_dec : (m n : ℕ) → (m < n) ⊎ (n ≤ m)
lt_dec m n = go (ltb m n) refl
  where
    go : (b : Bool) → ltb m n ≡ b → (m < n) ⊎ (n ≤ m)
    go true e = inl (ltb-true m n e)
    go false e = inr (ltb-false m n e)

-- a number below suc n is n, or is below n
pub at_or_below : {k n : ℕ} → k < suc n → (k ≡ n) ⊎ (k < n)
at_or_below h = eq-or-lt_of_le (le_of_suc-le-suc h)

-- both sides of a conjunction, neither side of a disjunction
pub both : (a b : Bool) → (a && b) ≡ true → (a ≡ true) × (b ≡ true)
both true b e = (refl, e)
both false b e = absurd (clash {b = false} e refl)

pub neither : (a b : Bool) → (a || b) ≡ false → (a ≡ false) × (b ≡ false)
neither true b e = absurd (clash {b = true} refl e)
neither false b e = (refl, e)
