-- What an argument names, from the number that is read at its front. Assumes nothing.
use mathlib.Core.Path.{◌≡◌, refl, sym, ap, ◌∙◌}
use mathlib.Core.Bool.{true, false, cond, ◌&&◌, and-false}
use mathlib.Core.List.{List, [], ◌∷◌}
use mathlib.Core.Logic.{◌⊎◌, inl, inr, ◌≢◌}
use Prim.Native.Nat.{ℕ, ◌+◌, ◌≤◌, ◌<◌}
use native.Mathlib.Omega.{arith}
use lib.Dec.{eqb, leb}
use lib.ListN.{length, get_or, get_or-eq_default}
use borrow.Author.Tests.{leb-true, le-leb, lt-leb, eq-eqb, ne_eqb}
use Rattle.bounded.proofs.Truth.{both, split, eq_dec}
use Rattle.graph.specs.Graph.{all_digits, is_number, decimal_from, decimal_of}
use Rattle.graph.specs.Scan.{digits_in}
use Rattle.graph.proofs.Fields.{digits_whole, whole_digits}
use Rattle.read_graph.specs.Parts.{NumberAt, FieldAt}
use Rattle.std.specs.Prelude.{None}
use Rattle.colour_sheet.specs.Argument.{channels_of}

-- the arguments `16`, `007`, nothing, `3x`, and ten digits
pub worked-arguments :
    (channels_of (49 ∷ 54 ∷ []) ≡ 16)
    × (channels_of (48 ∷ 48 ∷ 55 ∷ []) ≡ 7)
    × (channels_of [] ≡ 0)
    × (channels_of (51 ∷ 120 ∷ []) ≡ 0)
    × (channels_of (48 ∷ 48 ∷ 48 ∷ 48 ∷ 48 ∷ 48 ∷ 48 ∷ 48 ∷ 48 ∷ 51 ∷ []) ≡ 0)
unfolding channels_of is_number all_digits decimal_from
worked-arguments = (refl, refl, refl, refl, refl)

-- an argument that is no number names no channel
none : (w : List ℕ) → is_number w ≡ false → channels_of w ≡ 0
unfolding channels_of
none w e = rw e

pub none_long : (w : List ℕ) → 9 < length w → channels_of w ≡ 0
unfolding is_number
none_long w h = none w (rw (lt-leb (length w) 9 h, and-false (leb 1 (length w)), and-false (all_digits w)))

-- a number is read whole
read_whole : (w : List ℕ) → is_number w ≡ true → (1 ≤ length w) × ((length w ≤ 9) × (digits_in 10 w ≡ w))
unfolding is_number
read_whole w e =
    let p = both (all_digits w) (leb 1 (length w) && leb (length w) 9) e in
    let q = both (leb 1 (length w)) (leb (length w) 9) p.1 in
    let few = leb-true (length w) 9 q.1 in
    (leb-true 1 (length w) q.0, (few, digits_whole 10 w p.0 (omega arith)))

-- where none is read, it is none
pub none_read : (w : List ℕ) → FieldAt w 0 10 None → channels_of w ≡ 0
none_read w h = go (split (is_number w)) h
  where
    go : (is_number w ≡ true) ⊎ (is_number w ≡ false) → FieldAt w 0 10 None → channels_of w ≡ 0
    go (inr e) h = none w e
    go (inl e) (inl (inl z)) = let q = read_whole w e in let s = q.0 in let l = ap length q.1.1 in absurd (omega arith)
    go (inl e) (inl (inr z)) = let q = read_whole w e in let s = q.1.0 in let l = ap length q.1.1 in absurd (omega arith)
    go (inl e) (inr z) = absurd (z (ap (λ (l : List ℕ). get_or w (length l) 10) (read_whole w e).1.1 ∙ get_or-eq_default w 10 {n = length w} (omega arith)))

-- where one is read, it is the argument's if it ends with it
pub one_read : (w : List ℕ) (x n : ℕ) → NumberAt w 0 10 x n → cond (eqb n (length w + 1)) x 0 ≡ channels_of w
unfolding channels_of is_number
one_read w x n N = go (eq_dec n (length w + 1))
  where
    go : (n ≡ length w + 1) ⊎ (n ≢ length w + 1) → cond (eqb n (length w + 1)) x 0 ≡ channels_of w
    go (inl e) =
        let m = N.next in
        let l : length (digits_in 10 w) ≡ length w = omega arith in
        let d = whole_digits 10 w l in
        let s = N.some in
        let f = N.few in
        let q : is_number w ≡ true = simp (d, le-leb 1 (length w) (let z : 1 ≤ length w = omega arith in z), le-leb (length w) 9 (let z : length w ≤ 9 = omega arith in z)) in
        rw (eq-eqb n (length w + 1) e) (N.value ∙ ap decimal_of (digits_whole 10 w d (omega arith)) ∙ sym (rw q))
    go (inr e) = rw (ne_eqb n (length w + 1) e) (sym (none w (never (split (is_number w)))))
      where
        never : (is_number w ≡ true) ⊎ (is_number w ≡ false) → is_number w ≡ false
        never (inr q) = q
        never (inl q) = let l = ap length (read_whole w q).1.1 in let m = N.next in absurd (e (omega arith))
