-- The lines of what is left of a file: the first one, and those after it. Assumes nothing.
use mathlib.Core.Path.{◌≡◌, refl, ap, ◌∙◌}
use mathlib.Core.Bool.{Bool, true, false, ◌&&◌}
use mathlib.Core.List.{List, [], ◌∷◌, map}
use Prim.Native.Nat.{ℕ, suc, ◌+◌, ◌≤◌}
use native.Mathlib.Omega.{arith}
use lib.Dec.{eqb}
use lib.ListN.{length, drop}
use borrow.Author.Tests.{eqb-true, eqb-false, ne_eqb}
use Rattle.bounded.proofs.Truth.{both, clash}
use Rattle.graph.specs.Graph.{before, lines_of, line_of, file_lines, begins}
use Rattle.graph.specs.Scan.{line_in, after_line}

-- ---- one byte more

pub line_none : (x : ℕ) (r : List ℕ) → eqb x 10 ≡ true → line_in (x ∷ r) ≡ []
unfolding line_in
line_none x r e = rw (e, line_in)

pub line_more : (x : ℕ) (r : List ℕ) → eqb x 10 ≡ false → line_in (x ∷ r) ≡ x ∷ line_in r
unfolding line_in
line_more x r e = rw (e, line_in)

after_none : (x : ℕ) (r : List ℕ) → eqb x 10 ≡ true → after_line (x ∷ r) ≡ r
unfolding after_line
after_none x r e = rw (e, after_line)

after_more : (x : ℕ) (r : List ℕ) → eqb x 10 ≡ false → after_line (x ∷ r) ≡ after_line r
unfolding after_line
after_more x r e = rw (e, after_line)

pub lines_none : (x : ℕ) (r : List ℕ) → eqb x 10 ≡ true → lines_of (x ∷ r) ≡ [] ∷ lines_of r
unfolding lines_of
lines_none x r e = rw (e, lines_of)

pub lines_more : (x : ℕ) (r : List ℕ) → eqb x 10 ≡ false → lines_of (x ∷ r) ≡ before x (lines_of r)
unfolding lines_of
lines_more x r e = rw (e, lines_of)

-- ---- one line more

-- a file that is not empty has a first line, and then the lines of what stands after it
pub lines_next : (x : ℕ) (r : List ℕ) → lines_of (x ∷ r) ≡ line_in (x ∷ r) ∷ lines_of (after_line (x ∷ r))
unfolding lines_of line_in after_line
lines_next x [] = go (eqb x 10) refl
  where
    go : (t : Bool) → eqb x 10 ≡ t → lines_of (x ∷ []) ≡ line_in (x ∷ []) ∷ lines_of (after_line (x ∷ []))
    go true e = rw (lines_none x [] e, line_none x [] e, after_none x [] e)
    go false e = rw (lines_more x [] e, line_more x [] e, after_more x [] e)
lines_next x (y ∷ r) = go (eqb x 10) refl (lines_next y r)
  where
    go : (t : Bool) → eqb x 10 ≡ t → lines_of (y ∷ r) ≡ line_in (y ∷ r) ∷ lines_of (after_line (y ∷ r)) → lines_of (x ∷ y ∷ r) ≡ line_in (x ∷ y ∷ r) ∷ lines_of (after_line (x ∷ y ∷ r))
    go true e ih = rw (lines_none x (y ∷ r) e, line_none x (y ∷ r) e, after_none x (y ∷ r) e)
    go false e ih = rw (lines_more x (y ∷ r) e, line_more x (y ∷ r) e, after_more x (y ∷ r) e) (ap (before x) ih)

pub file_next : (x : ℕ) (r : List ℕ) → file_lines (x ∷ r) ≡ line_of (line_in (x ∷ r)) ∷ file_lines (after_line (x ∷ r))
unfolding file_lines
file_next x r = ap (map line_of) (lines_next x r)

pub file_none : file_lines [] ≡ []
unfolding file_lines lines_of
file_none = refl

-- what stands after the line is reached by its length and the newline
pub after_drop : (r : List ℕ) → after_line r ≡ drop (suc (length (line_in r))) r
unfolding line_in after_line
after_drop [] = refl
after_drop (x ∷ r) = go (eqb x 10) refl (after_drop r)
  where
    go : (t : Bool) → eqb x 10 ≡ t → after_line r ≡ drop (suc (length (line_in r))) r → after_line (x ∷ r) ≡ drop (suc (length (line_in (x ∷ r)))) (x ∷ r)
    go true e ih = rw (after_none x r e, line_none x r e)
    go false e ih = rw (after_more x r e, line_more x r e) ih

pub line_within : (r : List ℕ) → length (line_in r) ≤ length r
unfolding line_in
line_within [] = omega arith
line_within (x ∷ r) = go (eqb x 10) refl (line_within r)
  where
    go : (t : Bool) → eqb x 10 ≡ t → length (line_in r) ≤ length r → length (line_in (x ∷ r)) ≤ length (x ∷ r)
    go true e ih = rw (line_none x r e) (omega arith)
    go false e ih = rw (line_more x r e) (omega arith)

-- ---- a word at the front

-- no byte of the word is a newline
abbrev pub Inline : List ℕ → Type 0
Inline [] = Unit {0}
Inline (x ∷ w) = (eqb x 10 ≡ false) × Inline w

-- such a word begins what is left exactly where it begins the line
pub begins_line : (w r : List ℕ) → Inline w → begins w (line_in r) ≡ begins w r
unfolding begins line_in
begins_line [] r h = refl
begins_line (x ∷ w) [] h = refl
begins_line (x ∷ w) (y ∷ r) h = go (eqb y 10) refl (begins_line w r h.1)
  where
    go : (t : Bool) → eqb y 10 ≡ t → begins w (line_in r) ≡ begins w r → begins (x ∷ w) (line_in (y ∷ r)) ≡ begins (x ∷ w) (y ∷ r)
    go true e ih =
        let y_is : y ≡ 10 = eqb-true y 10 e in
        let d : x ≡ y → ⊥ = λ q. eqb-false x 10 h.0 (q ∙ y_is) in
        rw (line_none y r e, ne_eqb x y d)
    go false e ih = rw (line_more y r e) (ap (λ (t : Bool). eqb x y && t) ih)

begins_both : (x : ℕ) (w : List ℕ) (y : ℕ) (r : List ℕ) → begins (x ∷ w) (y ∷ r) ≡ true → (eqb x y ≡ true) × (begins w r ≡ true)
unfolding begins
begins_both x w y r e = both (eqb x y) (begins w r) e

begins_none : (x : ℕ) (w : List ℕ) → begins (x ∷ w) [] ≡ true → ⊥
unfolding begins
begins_none x w e = clash {b = false} e refl

pub begins_long : (w r : List ℕ) → begins w r ≡ true → length w ≤ length r
begins_long [] r b = omega arith
begins_long (x ∷ w) [] b = absurd (begins_none x w b)
begins_long (x ∷ w) (y ∷ r) b = let ih = begins_long w r (begins_both x w y r b).1 in omega arith

-- and then the rest of the line is the line of the rest
pub drop_line : (w r : List ℕ) → Inline w → begins w r ≡ true → (drop (length w) (line_in r) ≡ line_in (drop (length w) r)) × (length (line_in r) ≡ length w + length (line_in (drop (length w) r)))
drop_line [] r h b = (refl, omega arith)
drop_line (x ∷ w) [] h b = absurd (begins_none x w b)
drop_line (x ∷ w) (y ∷ r) h b =
    let q = begins_both x w y r b in
    let same : x ≡ y = eqb-true x y q.0 in
    let e : eqb y 10 ≡ false = rw same at h.0 in
    let ih = drop_line w r h.1 q.1 in
    let i1 = ih.1 in
    rw (line_more y r e) (ih.0, omega arith)
