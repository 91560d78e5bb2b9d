-- What lines and fields are: the pieces make the file again, and no piece has the byte that parts them. Assumes nothing.
use mathlib.Core.Path.{◌≡◌, refl, sym, ap, ◌∙◌}
use mathlib.Core.Bool.{Bool, true, false}
use mathlib.Core.List.{List, [], ◌∷◌, ◌++◌}
use mathlib.Core.Logic.{◌⊎◌, inl, inr, ◌≢◌}
use Prim.Native.Nat.{ℕ, ◌≤◌}
use native.Mathlib.Omega.{arith}
use lib.Dec.{eqb}
use lib.ListN.{length}
use borrow.Author.Tests.{eqb-true, eqb-false}
use Rattle.graph.specs.Graph.{before, lines_of, line_fields}
use Rattle.graph.proofs.Lines.{lines_none, lines_more}
use Rattle.graph.proofs.Fields.{fields_space, fields_more}

-- no byte of the piece is c
abbrev pub Without : ℕ → List ℕ → Type 0
Without c [] = Unit {0}
Without c (x ∷ l) = (eqb x c ≡ false) × Without c l

abbrev pub AllWithout : ℕ → List (List ℕ) → Type 0
AllWithout c [] = Unit {0}
AllWithout c (l ∷ m) = Without c l × AllWithout c m

-- one byte more before the first piece
before_without : (c x : ℕ) (m : List (List ℕ)) → eqb x c ≡ false → AllWithout c m → AllWithout c (before x m)
before_without c x [] e h = ((e, tt), tt)
before_without c x (l ∷ m) e h = ((e, h.0), h.1)

-- ---- lines

-- each line, and a newline after it
abbrev pub ended : List (List ℕ) → List ℕ
ended [] = []
ended (l ∷ m) = l ++ (10 ∷ ended m)

-- the file is not empty and does not end in a newline
abbrev pub Unended : List ℕ → Type 0
Unended [] = ⊥
Unended (x ∷ []) = x ≢ 10
Unended (x ∷ y ∷ f) = Unended (y ∷ f)

-- the lines, each with its newline, are the file; or the file and a newline, where it lacks the last
abbrev pub LinesMake : List ℕ → Type 0
LinesMake f = ((Unended f → ⊥) × (ended (lines_of f) ≡ f)) ⊎ (Unended f × (ended (lines_of f) ≡ f ++ (10 ∷ [])))

-- "each line ends in a newline, which the last may lack": a newline at the end opens no line after it
pub lines_make : (f : List ℕ) → LinesMake f
unfolding lines_of
lines_make [] = inl (λ h. h, refl)
lines_make (x ∷ []) = go (eqb x 10) refl
  where
    go : (t : Bool) → eqb x 10 ≡ t → LinesMake (x ∷ [])
    go true e = inl (λ d. d (eqb-true x 10 e), ap ended (lines_none x [] e) ∙ (λ i. sym (eqb-true x 10 e) i ∷ []))
    go false e = inr (eqb-false x 10 e, ap ended (lines_more x [] e))
lines_make (x ∷ y ∷ f) = go (eqb x 10) refl (lines_of (y ∷ f)) refl (lines_make (y ∷ f))
  where
    go : (t : Bool) → eqb x 10 ≡ t → (m : List (List ℕ)) → lines_of (y ∷ f) ≡ m → LinesMake (y ∷ f) → LinesMake (x ∷ y ∷ f)
    go true e m q (inl (n, h)) = inl (n, ap ended (lines_none x (y ∷ f) e) ∙ (λ i. sym (eqb-true x 10 e) i ∷ h i))
    go true e m q (inr (n, h)) = inr (n, ap ended (lines_none x (y ∷ f) e) ∙ (λ i. sym (eqb-true x 10 e) i ∷ h i))
    go false e [] q (inl (n, h)) = let z = ap length (sym h ∙ ap ended q) in absurd (omega arith)
    go false e [] q (inr (n, h)) = let z = ap length (sym h ∙ ap ended q) in absurd (omega arith)
    go false e (l ∷ m) q (inl (n, h)) = inl (n, ap ended (lines_more x (y ∷ f) e ∙ ap (before x) q) ∙ ap (λ (k : List ℕ). x ∷ k) (sym (ap ended q) ∙ h))
    go false e (l ∷ m) q (inr (n, h)) = inr (n, ap ended (lines_more x (y ∷ f) e ∙ ap (before x) q) ∙ ap (λ (k : List ℕ). x ∷ k) (sym (ap ended q) ∙ h))

-- and no line has one inside
pub lines_inside : (f : List ℕ) → AllWithout 10 (lines_of f)
unfolding lines_of
lines_inside [] = tt
lines_inside (x ∷ f) = go (eqb x 10) refl (lines_inside f)
  where
    go : (t : Bool) → eqb x 10 ≡ t → AllWithout 10 (lines_of f) → AllWithout 10 (lines_of (x ∷ f))
    go true e ih = rw (lines_none x f e) (tt, ih)
    go false e ih = rw (lines_more x f e) (before_without 10 x (lines_of f) e ih)

-- ---- fields

-- the pieces, and a space between each two
abbrev pub spaced : List (List ℕ) → List ℕ
spaced [] = []
spaced (l ∷ []) = l
spaced (l ∷ k ∷ m) = l ++ (32 ∷ spaced (k ∷ m))

-- there is always one
some : (l : List ℕ) → 1 ≤ length (line_fields l)
unfolding line_fields
some [] = omega arith
some (x ∷ l) = go (eqb x 32) refl (line_fields l) refl
  where
    go : (t : Bool) → eqb x 32 ≡ t → (m : List (List ℕ)) → line_fields l ≡ m → 1 ≤ length (line_fields (x ∷ l))
    go true e m q = rw (fields_space x l e) (omega arith)
    go false e [] q = rw (fields_more x l e, q) (omega arith)
    go false e (k ∷ m) q = rw (fields_more x l e, q) (omega arith)

-- "Fields stand one space apart": so parted, they are the text
pub fields_make : (l : List ℕ) → spaced (line_fields l) ≡ l
unfolding line_fields
fields_make [] = refl
fields_make (x ∷ l) = go (eqb x 32) refl (line_fields l) refl (some l) (fields_make l)
  where
    go : (t : Bool) → eqb x 32 ≡ t → (m : List (List ℕ)) → line_fields l ≡ m → 1 ≤ length (line_fields l) → spaced (line_fields l) ≡ l → spaced (line_fields (x ∷ l)) ≡ x ∷ l
    go t e [] q s ih = let z = ap length q in absurd (omega arith)
    go true e (k ∷ m) q s ih = ap spaced (fields_space x l e ∙ ap (λ (y : List (List ℕ)). [] ∷ y) q) ∙ (λ i. sym (eqb-true x 32 e) i ∷ (sym (ap spaced q) ∙ ih) i)
    go false e (k ∷ []) q s ih = ap spaced (fields_more x l e ∙ ap (before x) q) ∙ ap (λ (y : List ℕ). x ∷ y) (sym (ap spaced q) ∙ ih)
    go false e (k ∷ j ∷ m) q s ih = ap spaced (fields_more x l e ∙ ap (before x) q) ∙ ap (λ (y : List ℕ). x ∷ y) (sym (ap spaced q) ∙ ih)

-- and no field has one inside
pub fields_inside : (l : List ℕ) → AllWithout 32 (line_fields l)
unfolding line_fields
fields_inside [] = (tt, tt)
fields_inside (x ∷ l) = go (eqb x 32) refl (fields_inside l)
  where
    go : (t : Bool) → eqb x 32 ≡ t → AllWithout 32 (line_fields l) → AllWithout 32 (line_fields (x ∷ l))
    go true e ih = rw (fields_space x l e) (tt, ih)
    go false e ih = rw (fields_more x l e) (before_without 32 x (line_fields l) e ih)
