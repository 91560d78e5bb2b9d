-- Which colouring files 21 turns away, and which have a loop (22): the tests of Graph.antt as sentences about the lines. Assumes nothing.
use mathlib.Core.Path.{◌≡◌, refl, sym, ap, subst}
use mathlib.Core.Bool.{Bool, true, false, not, ◌||◌}
use mathlib.Core.List.{List, [], ◌∷◌}
use mathlib.Core.Logic.Iff
use mathlib.Core.Logic.{◌⊎◌, inl, inr, ◌≢◌, ◌↔◌}
use Prim.Native.Nat.{ℕ, zero, suc, ◌≤◌, ◌<◌}
use native.Mathlib.Omega.{arith}
use lib.Dec.{T, eqb, ltb}
use lib.ListN.{length, get_or}
use Rattle.bounded.specs.Quantifiers.{one_if}
use Rattle.bounded.proofs.Truth.{T_true, T_false, T_dec, or_iff, not_iff, eqb_iff, ltb_iff, eq_dec}
use Rattle.graph.specs.Graph.{file_limit, file_lines, line_at, any_line, count_lines, is_bad, is_size, is_edge, is_loop, strays, is_outside, stated_vertices, edge_first, bad_lines, bad_file}
use Rattle.graph.specs.declared.Line.{Line}
use Rattle.graph.specs.declared.Line.TheVariants.{Comment, Size, Edge, Bad}
use Rattle.graph.proofs.Sentences.{any_line_iff}

-- ---- the sentences

-- "The stated range is 1 to V, whatever V is": a vertex that is outside it
abbrev pub Astray : (v a : ℕ) → Type 0
Astray v a = (a < 1) ⊎ (v < a)

-- The file f is turned away by 21. A line is named by its place, counted from 0; past the last line stands `Bad`, so that a place with another
-- line is one of the file.
pub data BadFile (f : List ℕ) : Type 0 where
  -- "the file is over 64 KiB"
  Long : file_limit < length f → BadFile f
  -- "a line is of none of these forms (a blank one too)"
  Formless : (k : ℕ) → k < length (file_lines f) → line_at f k ≡ Bad → BadFile f
  -- "the `p` line is missing"
  Missing : ((k v e : ℕ) → line_at f k ≢ Size v e) → BadFile f
  -- "the `p` line is [..] repeated"
  Repeated : (k l v e w d : ℕ) → k < l → line_at f k ≡ Size v e → line_at f l ≡ Size w d → BadFile f
  -- "the `p` line is [..] after an `e` line"
  After : (k l a b v e : ℕ) → k < l → line_at f k ≡ Edge a b → line_at f l ≡ Size v e → BadFile f
  -- "a vertex is outside the stated range", at either end of an `e` line
  Outside : (k l a b v e : ℕ) → line_at f l ≡ Size v e → line_at f k ≡ Edge a b → Astray v a ⊎ Astray v b → BadFile f

-- ---- tests as sentences

either_iff : {A B : Type 0} (a b : Bool) → T a ↔ A → T b ↔ B → T (a || b) ↔ (A ⊎ B)
either_iff true b p q = (λ t. inl (p.0 t), λ x. tt)
either_iff false b p q = (λ t. inr (q.0 t), λ x. elim x [ inl y ↦ absurd (p.1 y) | inr y ↦ q.1 y ])

differ_iff : (x y : ℕ) → T (not (eqb x y)) ↔ (x ≢ y)
differ_iff x y = simp (not_iff, eqb_iff) Iff.rfl

astray_iff : (v a : ℕ) → T (is_outside v a) ↔ Astray v a
astray_iff v a = either_iff (ltb a 1) (ltb v a) (ltb_iff a 1) (ltb_iff v a)

strays_iff : (v a b : ℕ) → T (strays v (Edge a b)) ↔ (Astray v a ⊎ Astray v b)
strays_iff v a b = either_iff (is_outside v a) (is_outside v b) (astray_iff v a) (astray_iff v b)

-- ---- tests of one line

is_bad_lem : (l : Line) → T (is_bad l) → l ≡ Bad
is_bad_lem Comment t = absurd t
is_bad_lem (Size v e) t = absurd t
is_bad_lem (Edge a b) t = absurd t
is_bad_lem Bad t = refl

is_size_lem : (l : Line) → T (is_size l) → (v e : ℕ) × (l ≡ Size v e)
is_size_lem Comment t = absurd t
is_size_lem (Size v e) t = (v, e, refl)
is_size_lem (Edge a b) t = absurd t
is_size_lem Bad t = absurd t

is_loop_lem : (l : Line) → T (is_loop l) → (a : ℕ) × (l ≡ Edge a a)
is_loop_lem Comment t = absurd t
is_loop_lem (Size v e) t = absurd t
is_loop_lem (Edge a b) t = (a, ap (Edge a) (sym ((eqb_iff a b).0 t)))
is_loop_lem Bad t = absurd t

is_astray : (v : ℕ) (l : Line) → T (strays v l) → (a b : ℕ) × (l ≡ Edge a b) × (Astray v a ⊎ Astray v b)
is_astray v Comment t = absurd t
is_astray v (Size w e) t = absurd t
is_astray v (Edge a b) t = (a, b, refl, (strays_iff v a b).0 t)
is_astray v Bad t = absurd t

-- a line of a form passes the tests that the form passes
passes : (t : Line → Bool) {l x : Line} → l ≡ x → T (t x) → T (t l)
passes t p h = subst (λ (y : Line). T (t y)) (sym p) h

-- and is one of the file where `Bad` does not pass
pub there : (t : Line → Bool) → (T (t Bad) → ⊥) → (m : List Line) (k : ℕ) → T (t (get_or m k Bad)) → k < length m
there t n [] k h = absurd (n h)
there t n (x ∷ m) zero h = omega arith
there t n (x ∷ m) (suc k) h = let b = there t n m k h in omega arith

found : (t : Line → Bool) → (T (t Bad) → ⊥) → (m : List Line) (k : ℕ) → T (t (get_or m k Bad)) → T (any_line t m)
found t n m k h = (any_line_iff t m).1 (k, there t n m k h, h)

-- ---- the `p` lines counted

abbrev sizes : List Line → ℕ
sizes m = count_lines is_size m

one_size : (m : List Line) (k : ℕ) → T (is_size (get_or m k Bad)) → 1 ≤ sizes m
unfolding count_lines
one_size [] k t = absurd t
one_size (x ∷ m) zero t = let e : one_if (is_size x) ≡ 1 = ap one_if (T_true (is_size x) t) in omega arith
one_size (x ∷ m) (suc k) t = let h = one_size m k t in omega arith

two_sizes : (m : List Line) (k l : ℕ) → k < l → T (is_size (get_or m k Bad)) → T (is_size (get_or m l Bad)) → 2 ≤ sizes m
unfolding count_lines
two_sizes [] k l b s t = absurd s
two_sizes (x ∷ m) k zero b s t = absurd (omega arith)
two_sizes (x ∷ m) zero (suc l) b s t =
    let e : one_if (is_size x) ≡ 1 = ap one_if (T_true (is_size x) s) in
    let h = one_size m l t in
    omega arith
two_sizes (x ∷ m) (suc k) (suc l) b s t = let h = two_sizes m k l (omega arith) s t in omega arith

find_size : (m : List Line) → 1 ≤ sizes m → (k : ℕ) × T (is_size (get_or m k Bad))
unfolding count_lines
find_size [] h = absurd (omega arith)
find_size (x ∷ m) h = go (T_dec (is_size x)) (find_size m)
  where
    go : T (is_size x) ⊎ (T (is_size x) → ⊥) → (1 ≤ sizes m → (k : ℕ) × T (is_size (get_or m k Bad))) → (k : ℕ) × T (is_size (get_or (x ∷ m) k Bad))
    go (inl t) ih = (0, t)
    go (inr n) ih =
        let e : one_if (is_size x) ≡ 0 = ap one_if (T_false (is_size x) n) in
        let (k, t) = ih (omega arith) in
        (suc k, t)

find_two : (m : List Line) → 2 ≤ sizes m → (k l : ℕ) × (k < l) × T (is_size (get_or m k Bad)) × T (is_size (get_or m l Bad))
unfolding count_lines
find_two [] h = absurd (omega arith)
find_two (x ∷ m) h = go (T_dec (is_size x)) (find_two m)
  where
    go : T (is_size x) ⊎ (T (is_size x) → ⊥) → (2 ≤ sizes m → (k l : ℕ) × (k < l) × T (is_size (get_or m k Bad)) × T (is_size (get_or m l Bad)))
        → (k l : ℕ) × (k < l) × T (is_size (get_or (x ∷ m) k Bad)) × T (is_size (get_or (x ∷ m) l Bad))
    go (inl t) ih =
        let e : one_if (is_size x) ≡ 1 = ap one_if (T_true (is_size x) t) in
        let (l, s) = find_size m (omega arith) in
        (0, suc l, omega arith, t, s)
    go (inr n) ih =
        let e : one_if (is_size x) ≡ 0 = ap one_if (T_false (is_size x) n) in
        let (k, l, b, s, t) = ih (omega arith) in
        (suc k, suc l, omega arith, s, t)

-- ---- the only `p` line

-- it is the one that states the vertices
only_states : (m : List Line) (k v e : ℕ) → sizes m ≡ 1 → get_or m k Bad ≡ Size v e → stated_vertices m ≡ v
unfolding count_lines stated_vertices
only_states [] k v e h p = absurd (passes is_size p tt)
only_states (Comment ∷ m) zero v e h p = absurd (passes is_size p tt)
only_states (Comment ∷ m) (suc k) v e h p = only_states m k v e (omega arith) p
only_states (Size w d ∷ m) zero v e h p = cc
only_states (Size w d ∷ m) (suc k) v e h p = let b = one_size m k (passes is_size p tt) in absurd (omega arith)
only_states (Edge a b ∷ m) zero v e h p = absurd (passes is_size p tt)
only_states (Edge a b ∷ m) (suc k) v e h p = only_states m k v e (omega arith) p
only_states (Bad ∷ m) zero v e h p = absurd (passes is_size p tt)
only_states (Bad ∷ m) (suc k) v e h p = only_states m k v e (omega arith) p

-- an `e` line before it is before every `p` line
edge_first_lem : (m : List Line) (k l : ℕ) → sizes m ≡ 1 → k < l → T (is_edge (get_or m k Bad)) → T (is_size (get_or m l Bad)) → T (edge_first m)
unfolding count_lines edge_first
edge_first_lem [] k l h b s t = absurd t
edge_first_lem (x ∷ m) k zero h b s t = absurd (omega arith)
edge_first_lem (Comment ∷ m) zero (suc l) h b s t = absurd s
edge_first_lem (Comment ∷ m) (suc k) (suc l) h b s t = edge_first_lem m k l (omega arith) (omega arith) s t
edge_first_lem (Size v e ∷ m) k (suc l) h b s t = let i = one_size m l t in absurd (omega arith)
edge_first_lem (Edge c d ∷ m) k (suc l) h b s t = tt
edge_first_lem (Bad ∷ m) zero (suc l) h b s t = absurd s
edge_first_lem (Bad ∷ m) (suc k) (suc l) h b s t = edge_first_lem m k l (omega arith) (omega arith) s t

-- and where one is, it is before any `p` line
edge_before : (m : List Line) (l : ℕ) → T (edge_first m) → T (is_size (get_or m l Bad)) → (k a b : ℕ) × (k < l) × (get_or m k Bad ≡ Edge a b)
unfolding edge_first
edge_before [] l h t = absurd t
edge_before (Comment ∷ m) zero h t = absurd t
edge_before (Comment ∷ m) (suc l) h t = let (k, a, b, i, p) = edge_before m l h t in (suc k, a, b, omega arith, p)
edge_before (Size v e ∷ m) l h t = absurd h
edge_before (Edge a b ∷ m) zero h t = absurd t
edge_before (Edge a b ∷ m) (suc l) h t = (0, a, b, omega arith, refl)
edge_before (Bad ∷ m) zero h t = absurd t
edge_before (Bad ∷ m) (suc l) h t = let (k, a, b, i, p) = edge_before m l h t in (suc k, a, b, omega arith, p)

-- ---- 21 and 22

abbrev some_astray : List Line → Bool
some_astray m = any_line (strays (stated_vertices m)) m

-- the four tests of the lines, and that of the length
abbrev LineTests : List Line → Type 0
LineTests m = T (any_line is_bad m) ⊎ ((sizes m ≢ 1) ⊎ (T (edge_first m) ⊎ T (some_astray m)))

line_tests : (m : List Line) → T (bad_lines m) ↔ LineTests m
unfolding bad_lines
line_tests m =
    let one-and-after = either_iff (not (eqb (sizes m) 1)) (edge_first m || some_astray m) (differ_iff (sizes m) 1) (or_iff (edge_first m) (some_astray m)) in
    either_iff (any_line is_bad m) (not (eqb (sizes m) 1) || (edge_first m || some_astray m)) Iff.rfl one-and-after

module _ (f : List ℕ) where
  abbrev Tests : Type 0
  Tests = (file_limit < length f) ⊎ LineTests (file_lines f)

  file_tests : T (bad_file f) ↔ Tests
  unfolding bad_file
  file_tests = either_iff (ltb file_limit (length f)) (bad_lines (file_lines f)) (ltb_iff file_limit (length f)) (line_tests (file_lines f))

  abbrev lines : List Line
  lines = file_lines f

  -- no `p` line, or two
  not_one : sizes lines ≢ 1 → BadFile f
  not_one n = go (eq_dec (sizes lines) 0)
    where
      go : (sizes lines ≡ 0) ⊎ (sizes lines ≢ 0) → BadFile f
      go (inl z) = Missing (λ k v e p. let h = one_size lines k (passes is_size p tt) in omega arith)
      go (inr z) =
          let (k, l, b, s, t) = find_two lines (omega arith) in
          let (v, e, p) = is_size_lem (line_at f k) s in
          let (w, d, q) = is_size_lem (line_at f l) t in
          Repeated k l v e w d b p q

  -- one, and an `e` line before it, or with a vertex outside what it states
  edge_turned : sizes lines ≡ 1 → T (edge_first lines) → BadFile f
  edge_turned h t =
      let (l, s) = find_size lines (omega arith) in
      let (v, e, q) = is_size_lem (line_at f l) s in
      let (k, a, b, i, p) = edge_before lines l t s in
      After k l a b v e i p q

  vertex_turned : sizes lines ≡ 1 → T (some_astray lines) → BadFile f
  vertex_turned h t =
      let (l, s) = find_size lines (omega arith) in
      let (v, e, q) = is_size_lem (line_at f l) s in
      let (k, i, r) = (any_line_iff (strays (stated_vertices lines)) lines).0 t in
      let (a, b, p, o) = is_astray v (line_at f k) (subst (λ (w : ℕ). T (strays w (line_at f k))) (only_states lines l v e h q) r) in
      Outside k l a b v e q p o

  -- what follows from one `p` line is enough
  if_one : (sizes lines ≡ 1 → BadFile f) → BadFile f
  if_one g = elim (eq_dec (sizes lines) 1) [ inl h ↦ g h | inr n ↦ not_one n ]

  turned : Tests → BadFile f
  turned (inl h) = Long h
  turned (inr (inl t)) = let (k, b, p) = (any_line_iff is_bad lines).0 t in Formless k b (is_bad_lem (line_at f k) p)
  turned (inr (inr (inl n))) = not_one n
  turned (inr (inr (inr (inl t)))) = if_one (λ h. edge_turned h t)
  turned (inr (inr (inr (inr t)))) = if_one (λ h. vertex_turned h t)

  one_or : (sizes lines ≡ 1 → T (edge_first lines) ⊎ T (some_astray lines)) → Tests
  one_or g = inr (inr (elim (eq_dec (sizes lines) 1) [ inl h ↦ inr (g h) | inr n ↦ inl n ]))

  tested : BadFile f → Tests
  tested (Long h) = inl h
  tested (Formless k b p) = inr (inl ((any_line_iff is_bad lines).1 (k, b, passes is_bad p tt)))
  tested (Missing n) = one_or (λ h. let (k, t) = find_size lines (omega arith) in let (v, e, p) = is_size_lem (line_at f k) t in absurd (n k v e p))
  tested (Repeated k l v e w d b p q) = one_or (λ h. let i = two_sizes lines k l b (passes is_size p tt) (passes is_size q tt) in absurd (omega arith))
  tested (After k l a b v e i p q) = one_or (λ h. inl (edge_first_lem lines k l h i (passes is_edge p tt) (passes is_size q tt)))
  tested (Outside k l a b v e q p o) =
      one_or (λ h.
      let t = subst (λ (w : ℕ). T (strays w (Edge a b))) (sym (only_states lines l v e h q)) ((strays_iff v a b).1 o) in
      inr (found (strays (stated_vertices lines)) (λ n. n) lines k (passes (strays (stated_vertices lines)) p t)))

pub bad_file_iff : (f : List ℕ) → T (bad_file f) ↔ BadFile f
bad_file_iff f = (λ t. turned f ((file_tests f).0 t), λ b. (file_tests f).1 (tested f b))

-- "when both ends are one vertex", of some `e` line
pub loop_iff : (f : List ℕ) → T (any_line is_loop (file_lines f)) ↔ ((k : ℕ) × (a : ℕ) × (line_at f k ≡ Edge a a))
loop_iff f = (there_is, λ x. found is_loop (λ n. n) (file_lines f) x.0 (passes is_loop x.2 ((eqb_iff x.1 x.1).1 refl)))
  where
    there_is : T (any_line is_loop (file_lines f)) → (k : ℕ) × (a : ℕ) × (line_at f k ≡ Edge a a)
    there_is t =
        let (k, b, p) = (any_line_iff is_loop (file_lines f)).0 t in
        let (a, q) = is_loop_lem (line_at f k) p in
        (k, a, q)
