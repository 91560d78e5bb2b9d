-- Laws of a number in decimal digits. Assumes nothing.
use mathlib.Core.Path.{◌≡◌, sym, ap, ◌∙◌}
use mathlib.Core.Bool.{Bool, true, false}
use mathlib.Core.List.{List, [], ◌∷◌, ◌++◌}
use mathlib.Core.Logic.{⊎_elim}
use Prim.Native.Nat.{ℕ, zero, suc, ◌+◌, ◌*◌, ◌/◌, ◌%◌, ◌^◌, ◌≤◌, ◌<◌}
use native.Mathlib.Nat.{pow-suc}
use native.Mathlib.Omega.{arith}
use lib.ListN.{length, length-append}
use borrow.Author.Tests.{lt-ltb, le-ltb}
use Rattle.bounded.proofs.Truth.{lt_dec}
use Rattle.fields.specs.Print.{digits_from, decimal}

-- the definition over its test
abbrev digits : Bool → ℕ → ℕ → List ℕ
digits t f x = elim t [ true ↦ (48 + x) ∷ [] | false ↦ digits_from f (x / 10) ++ ((48 + x % 10) ∷ []) ]

pub digits_small : (f x : ℕ) → x < 10 → digits_from (suc f) x ≡ (48 + x) ∷ []
unfolding digits_from
digits_small f x h = ap (λ (t : Bool). digits t f x) (lt-ltb x 10 h)

pub digits_more : (f x : ℕ) → 10 ≤ x → digits_from (suc f) x ≡ digits_from f (x / 10) ++ ((48 + x % 10) ∷ [])
unfolding digits_from
digits_more f x h = ap (λ (t : Bool). digits t f x) (le-ltb x 10 h)

-- with enough turns, more of them change nothing
pub digits_turns : (f g x : ℕ) → x < f → x < g → digits_from f x ≡ digits_from g x
digits_turns zero g x a b = absurd (omega arith)
digits_turns (suc f) zero x a b = absurd (omega arith)
digits_turns (suc f) (suc g) x a b = ⊎_elim one (λ h. more h (digits_turns f g (x / 10) (omega arith) (omega arith))) (lt_dec x 10)
  where
    one : x < 10 → digits_from (suc f) x ≡ digits_from (suc g) x
    one h = digits_small f x h ∙ sym (digits_small g x h)

    more : 10 ≤ x → digits_from f (x / 10) ≡ digits_from g (x / 10) → digits_from (suc f) x ≡ digits_from (suc g) x
    more h e = digits_more f x h ∙ ap (λ (w : List ℕ). w ++ ((48 + x % 10) ∷ [])) e ∙ sym (digits_more g x h)

pub decimal_small : (x : ℕ) → x < 10 → decimal x ≡ (48 + x) ∷ []
unfolding decimal
decimal_small x h = digits_small x x h

pub decimal_more : (x : ℕ) → 10 ≤ x → decimal x ≡ decimal (x / 10) ++ ((48 + x % 10) ∷ [])
unfolding decimal
decimal_more x h =
    digits_more x x h ∙ ap (λ (w : List ℕ). w ++ ((48 + x % 10) ∷ [])) (digits_turns x (suc (x / 10)) (x / 10) (omega arith) (omega arith))

tenth : (x y : ℕ) → x < y * 10 → x / 10 < y
tenth x y h = omega arith

-- a number below ten to the power k has at most k digits, and at least one
pub decimal_digits : (k x : ℕ) → x < 10 ^ suc k → (1 ≤ length (decimal x)) × (length (decimal x) ≤ suc k)
decimal_digits zero x h = let e = ap length (decimal_small x (omega arith)) in (omega arith, omega arith)
decimal_digits (suc k) x h = ⊎_elim one (λ l. more l (decimal_digits k (x / 10) (tenth x (10 ^ suc k) (rw (pow-suc 10 (suc k)) at h)))) (lt_dec x 10)
  where
    one : x < 10 → (1 ≤ length (decimal x)) × (length (decimal x) ≤ suc (suc k))
    one l = let e = ap length (decimal_small x l) in (omega arith, omega arith)

    more : 10 ≤ x → (1 ≤ length (decimal (x / 10))) × (length (decimal (x / 10)) ≤ suc k) → (1 ≤ length (decimal x)) × (length (decimal x) ≤ suc (suc k))
    more l d =
        let e = ap length (decimal_more x l) ∙ length-append (decimal (x / 10)) ((48 + x % 10) ∷ []) in
        (omega arith, omega arith)

-- the numbers that are printed
pub decimal_five : (x : ℕ) → x < 100000 → (1 ≤ length (decimal x)) × (length (decimal x) ≤ 5)
decimal_five x h = decimal_digits 4 x h

pub decimal_four : (x : ℕ) → x < 10000 → (1 ≤ length (decimal x)) × (length (decimal x) ≤ 4)
decimal_four x h = decimal_digits 3 x h
