-- Tests joined, and one more behind them. Assumes nothing.
use mathlib.Core.Path.{◌≡◌, refl, sym, ap, ◌∙◌}
use mathlib.Core.Bool.{Bool, true, false, not, ◌&&◌}
use mathlib.Core.Logic.{◌≢◌}
use Prim.Native.Nat.{ℕ}
use lib.Dec.{eqb}
use Rattle.bounded.specs.Quantifiers.{imp}
use Rattle.bounded.proofs.Truth.{T_of, clash, both, not_iff, eqb_iff}

pub guard : (a b : Bool) (k i : ℕ) → (a && (b && not (eqb k i))) ≡ true → (a ≡ true) × (b ≡ true) × (k ≢ i)
guard a b k i e =
    let x = both a (b && not (eqb k i)) e in
    let y = both b (not (eqb k i)) x.1 in
    (x.0, y.0, λ q. (not_iff (eqb k i)).0 (T_of y.1) ((eqb_iff k i).1 q))

pub guard_met : {a b p q : Bool} (c x : Bool) → a ≡ p → b ≡ q → (a && (b && c)) ≡ true → (p && (q && (c && x))) ≡ x
guard_met {a} {b} {p} {q} c x e f h =
    let y = both a (b && c) h in
    let z = both b c y.1 in
    rw (sym e ∙ y.0, sym f ∙ z.0, z.1)

pub guard_left : {a b p q : Bool} (c x : Bool) → a ≡ p → b ≡ q → (a && (b && c)) ≡ false → (p && (q && (c && x))) ≡ false
guard_left {a} {b} {p} {q} c x e f h = rw (← e, ← f) (go a b c h)
  where
    go : (a b c : Bool) → (a && (b && c)) ≡ false → (a && (b && (c && x))) ≡ false
    go true true true h = absurd (clash {b = true} refl h)
    go true true false h = refl
    go true false c h = refl
    go false b c h = refl

-- ---- two tests and a third behind which a fourth stands

pub met : {a b p q : Bool} (c x : Bool) → a ≡ p → b ≡ q → (a && (b && c)) ≡ true → x ≡ imp (p && (q && c)) x
met {a} {b} {p} {q} c x e f h = ap (λ (z : Bool). imp z x) (sym h ∙ (λ i. e i && (f i && c)))

pub unmet : {a b p q : Bool} (c x : Bool) → a ≡ p → b ≡ q → (a && (b && c)) ≡ false → true ≡ imp (p && (q && c)) x
unmet {a} {b} {p} {q} c x e f h = ap (λ (z : Bool). imp z x) (sym h ∙ (λ i. e i && (f i && c)))
