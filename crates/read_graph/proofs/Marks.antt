-- Marks, and line after line of a file. Assumes nothing.
use mathlib.Core.Path.{◌≡◌, refl, sym, ap, ◌∙◌}
use mathlib.Core.Bool.{Bool, true, false, not, cond, ◌&&◌, ◌||◌, or-true, or-false, or_assoc}
use mathlib.Core.List.{List, [], ◌∷◌}
use Rattle.std.specs.Prelude.{Option, None, Some, Result, Ok, Err, ok_or, IfOk, IsErr}
use mathlib.Core.Logic.{◌⊎◌, inl, inr, ◌≢◌}
use Prim.Native.Nat.{ℕ, suc, ◌+◌, ◌-◌, ◌*◌, ◌≤◌, ◌<◌}
use native.Mathlib.Omega.{arith}
use lib.Dec.{eqb, ltb}
use lib.ListN.{length, drop, get_or, set, length-set, length-drop, drop_of_length-le}
use lib.Seq.{get_or-set_same, get_or-set_other, drop-drop}
use borrow.Author.Tests.{ltb-false, le-ltb, eq-eqb, eqb-true}
use Rattle.bounded.proofs.Truth.{eq_dec, split, both, neither, clash}
use Rattle.graph.specs.Graph.{is_outside, line_of, file_lines, any_line, turned_away}
use Rattle.graph.specs.Colouring.{joins, adjacent}
use Rattle.graph.specs.Scan.{line_in, after_line, is_marked, with_edge, in_place, stepped, read_from}
use Rattle.graph.specs.declared.Line.{Line}
use Rattle.graph.specs.declared.Line.TheVariants.{Comment, Size, Edge, Bad}
use Rattle.graph.specs.declared.GraphRead.{GraphRead}
use Rattle.graph.specs.declared.TurnedAway.{TurnedAway}
use Rattle.graph.proofs.Lines.{file_next, file_none, after_drop, line_within}
use Rattle.graph.proofs.Reading.{read_on, read_away}
use Rattle.read_graph.specs.Parts.{Few, Inside, Marked, Unmarked, LineAt, MarksSay, LinesRead}
use Rattle.read_graph.specs.declared.LineRead.{LineRead}
use Rattle.read_graph.proofs.Laws.{drop_next}

-- ---- one line's marks

-- a line that joins nothing marks nothing
pub unmarked_by : (l : Line) (n : List ℕ) → ((i j : ℕ) → i < 32 → j < 32 → joins i j l ≡ false) → Marked l n n
unmarked_by l n h = record { long = refl; marks = λ i j a b. sym (ap (λ (t : Bool). is_marked n i j || t) (h i j a b) ∙ or-false (is_marked n i j)) }

-- which items an edge joins
joins_cases : (a b i j : ℕ) → joins i j (Edge a b) ≡ true → ((a ≡ i + 1) × (b ≡ j + 1)) ⊎ ((a ≡ j + 1) × (b ≡ i + 1))
joins_cases a b i j e = go (split (eqb a (i + 1) && eqb b (j + 1)))
  where
    go : ((eqb a (i + 1) && eqb b (j + 1)) ≡ true) ⊎ ((eqb a (i + 1) && eqb b (j + 1)) ≡ false) → ((a ≡ i + 1) × (b ≡ j + 1)) ⊎ ((a ≡ j + 1) × (b ≡ i + 1))
    go (inl s) = let q = both (eqb a (i + 1)) (eqb b (j + 1)) s in inl (eqb-true a (i + 1) q.0, eqb-true b (j + 1) q.1)
    go (inr s) =
        let t : (eqb a (j + 1) && eqb b (i + 1)) ≡ true = sym (ap (λ (x : Bool). x || (eqb a (j + 1) && eqb b (i + 1))) s) ∙ e in
        let q = both (eqb a (j + 1)) (eqb b (i + 1)) t in
        inr (eqb-true a (j + 1) q.0, eqb-true b (i + 1) q.1)

joins_this : (a b i j : ℕ) → a ≡ i + 1 → b ≡ j + 1 → joins i j (Edge a b) ≡ true
joins_this a b i j e f = simp (eq-eqb a (i + 1) e, eq-eqb b (j + 1) f)

joins_that : (a b i j : ℕ) → a ≡ j + 1 → b ≡ i + 1 → joins i j (Edge a b) ≡ true
joins_that a b i j e f = simp (eq-eqb a (j + 1) e, eq-eqb b (i + 1) f, or-true)

-- a test that holds in no case
never : (t : Bool) → (t ≡ true → ⊥) → t ≡ false
never true h = absurd (h refl)
never false h = refl

-- vertices that are not 1 to 32 are none of the first 32 items'
pub outside_joins : (a b i j : ℕ) → (is_outside 32 a || is_outside 32 b) ≡ true → i < 32 → j < 32 → joins i j (Edge a b) ≡ false
outside_joins a b i j o hi hj = never (joins i j (Edge a b)) (λ e. go (joins_cases a b i j e))
  where
    within : (x k : ℕ) → k < 32 → x ≡ k + 1 → is_outside 32 x ≡ false
    within x k h e = rw (le-ltb x 1 (let q : 1 ≤ x = omega arith in q), le-ltb 32 x (let q : x ≤ 32 = omega arith in q))

    go : ((a ≡ i + 1) × (b ≡ j + 1)) ⊎ ((a ≡ j + 1) × (b ≡ i + 1)) → ⊥
    go (inl q) = clash o (rw (within a i hi q.0, within b j hj q.1))
    go (inr q) = clash o (rw (within a j hj q.0, within b i hi q.1))

-- the marks of two vertices
abbrev pub marked_pair : List ℕ → (a b : ℕ) → List ℕ
marked_pair n a b = set (set n (32 * (a - 1) + (b - 1)) 1) (32 * (b - 1) + (a - 1)) 1

or_right : (a b : Bool) → b ≡ true → (a || b) ≡ true
or_right a b e = rw (e, or-true a)

pub pair_marked : (n : List ℕ) (a b : ℕ) → length n ≡ 1024 → 1 ≤ a → a ≤ 32 → 1 ≤ b → b ≤ 32 → Marked (Edge a b) n (marked_pair n a b)
pair_marked n a b l a1 a2 b1 b2 =
    record {
      long = length-set (set n (32 * (a - 1) + (b - 1)) 1) (32 * (b - 1) + (a - 1)) 1 ∙ length-set n (32 * (a - 1) + (b - 1)) 1;
      marks = λ i j hi hj. go i j hi hj (eq_dec (32 * i + j) (32 * (b - 1) + (a - 1))) (eq_dec (32 * i + j) (32 * (a - 1) + (b - 1)));
    }
  where
    one : List ℕ
    one = set n (32 * (a - 1) + (b - 1)) 1

    go : (i j : ℕ) → i < 32 → j < 32 → (32 * i + j ≡ 32 * (b - 1) + (a - 1)) ⊎ (32 * i + j ≢ 32 * (b - 1) + (a - 1)) → (32 * i + j ≡ 32 * (a - 1) + (b - 1)) ⊎ (32 * i + j ≢ 32 * (a - 1) + (b - 1))
        → is_marked (marked_pair n a b) i j ≡ (is_marked n i j || joins i j (Edge a b))
    go i j hi hj (inl e) y =
        let long = length-set n (32 * (a - 1) + (b - 1)) 1 in
        let v : get_or (marked_pair n a b) (32 * i + j) 0 ≡ 1 = ap (λ (x : ℕ). get_or (marked_pair n a b) x 0) e ∙ get_or-set_same (set n (32 * (a - 1) + (b - 1)) 1) (32 * (b - 1) + (a - 1)) 1 0 (omega arith) in
        eq-eqb _ 1 v ∙ sym (or_right (is_marked n i j) (joins i j (Edge a b)) (joins_that a b i j (omega arith) (omega arith)))
    go i j hi hj (inr d) (inl e) =
        let v : get_or (marked_pair n a b) (32 * i + j) 0 ≡ 1 =
        get_or-set_other (set n (32 * (a - 1) + (b - 1)) 1) (32 * (b - 1) + (a - 1)) (32 * i + j) 1 0 d ∙ ap (λ (x : ℕ). get_or (set n (32 * (a - 1) + (b - 1)) 1) x 0) e ∙ get_or-set_same n (32 * (a - 1) + (b - 1)) 1 0 (omega arith) in
        eq-eqb _ 1 v ∙ sym (or_right (is_marked n i j) (joins i j (Edge a b)) (joins_this a b i j (omega arith) (omega arith)))
    go i j hi hj (inr d) (inr f) =
        let v : get_or (marked_pair n a b) (32 * i + j) 0 ≡ get_or n (32 * i + j) 0 =
        get_or-set_other (set n (32 * (a - 1) + (b - 1)) 1) (32 * (b - 1) + (a - 1)) (32 * i + j) 1 0 d ∙ get_or-set_other n (32 * (a - 1) + (b - 1)) (32 * i + j) 1 0 f in
        let no : joins i j (Edge a b) ≡ false = never (joins i j (Edge a b)) (λ e. none i j hi hj d f (joins_cases a b i j e)) in
        ap (λ (x : ℕ). eqb x 1) v ∙ sym (ap (λ (t : Bool). is_marked n i j || t) no ∙ or-false (is_marked n i j))
      where
        none : (i j : ℕ) → i < 32 → j < 32 → 32 * i + j ≢ 32 * (b - 1) + (a - 1) → 32 * i + j ≢ 32 * (a - 1) + (b - 1) → ((a ≡ i + 1) × (b ≡ j + 1)) ⊎ ((a ≡ j + 1) × (b ≡ i + 1)) → ⊥
        none i j hi hj d f (inl q) = let e = q.0 in let g = q.1 in f (omega arith)
        none i j hi hj d f (inr q) = let e = q.0 in let g = q.1 in d (omega arith)

-- two vertices that are 1 to 32
pub inside : (x y : Bool) (a b : ℕ) → x ≡ is_outside 32 a → y ≡ is_outside 32 b → (x || y) ≡ false → Inside a b
inside x y a b e f o =
    let q = neither x y o in
    let s = neither (ltb a 1) (ltb 32 a) (sym e ∙ q.0) in
    let t = neither (ltb b 1) (ltb 32 b) (sym f ∙ q.1) in
    record { a_some = ltb-false a 1 s.0; a_few = ltb-false 32 a s.1; b_some = ltb-false b 1 t.0; b_few = ltb-false 32 b t.1 }

-- ---- an `e` line in its place, and out of it

pub in_place_is : (r : GraphRead) (a b : ℕ) (x y : Bool) → x ≡ is_outside r.vertices a → y ≡ is_outside r.vertices b → in_place r a b ≡ not (x || y)
in_place_is r a b x y e f = λ i. not (sym e i || sym f i)

-- ---- line after line

-- the lines left at p are the line there and those left after it
pub file_at : (f : List ℕ) (p : ℕ) → p < length f → file_lines (drop p f) ≡ line_of (line_in (drop p f)) ∷ file_lines (drop (suc (p + length (line_in (drop p f)))) f)
file_at f p h =
    let c = drop_next f p h in
    let x = get_or f p 10 in
    let r = drop (p + 1) f in
    let k : suc (p + length (line_in (drop p f))) ≡ p + suc (length (line_in (drop p f))) = omega arith in
    ap file_lines c ∙ file_next x r ∙ ap (λ (y : List ℕ). line_of (line_in y) ∷ file_lines (after_line y)) (sym c)
    ∙ ap (λ (y : List ℕ). line_of (line_in (drop p f)) ∷ file_lines y) (after_drop (drop p f) ∙ drop-drop (suc (length (line_in (drop p f)))) p f ∙ ap (λ (m : ℕ). drop m f) (sym k))

pub file_end : (f : List ℕ) (p : ℕ) → length f ≤ p → file_lines (drop p f) ≡ []
file_end f p h = ap file_lines (drop_of_length-le f {i = p} h) ∙ file_none

-- the reader has come to p and found g, and n has the marks of the lines passed
pub record Reading (f n : List ℕ) (g : Option GraphRead) (p : ℕ) : Type 0 where
  pub place : p ≤ length f + 1
  pub few : Few p g
  pub rest : read_from None (file_lines f) ≡ read_from g (file_lines (drop p f))
  pub long : length n ≡ 1024
  pub marks : (i j : ℕ) → i < 32 → j < 32 → (is_marked n i j || adjacent (file_lines (drop p f)) i j) ≡ adjacent (file_lines f) i j

pub reading_starts : (f n : List ℕ) → Unmarked n → Reading f n None 0
reading_starts f n U = record {
  place = omega arith;
  few = tt;
  rest = refl;
  long = U.long;
  marks = λ i j a b. ap (λ (t : Bool). t || adjacent (file_lines f) i j) (U.none i j a b);
}

-- as many `e` lines as bytes at most, and no more than a file has
pub few_more : (g : Option GraphRead) (n m : ℕ) → n ≤ m → Few n g → Few m g
few_more None n m h k = tt
few_more (Some r) n m h k = omega arith

-- one line more adds at most one to the `e` lines
step_few : (g : Option GraphRead) (l : Line) (n m : ℕ) → n < m → Few n g → IfOk (stepped g l) (Few m)
unfolding stepped
step_few None Comment n m h k = tt
step_few (Some r) Comment n m h k = omega arith
step_few None (Size v e) n m h k = omega arith
step_few (Some r) (Size v e) n m h k = tt
step_few None (Edge a b) n m h k = tt
step_few (Some r) (Edge a b) n m h k = go (in_place r a b)
  where
    go : (t : Bool) → IfOk (cond t (Ok (Some (with_edge r a b))) (Err turned_away)) (Few m)
    go true = omega arith
    go false = tt
step_few g Bad n m h k = tt

module _ (f n : List ℕ) (g : Option GraphRead) (p : ℕ) (R : Reading f n g p) (h : p < length f) where
  -- the line there is bad, and turns the file away
  pub reading_bad : line_of (line_in (drop p f)) ≡ Bad → read_from None (file_lines f) ≡ Err turned_away
  unfolding stepped
  reading_bad b = R.rest ∙ ap (read_from g) (file_at f p h ∙ ap (λ (l : Line). l ∷ file_lines (drop (suc (p + length (line_in (drop p f)))) f)) b) ∙ read_away g _ Bad refl

  module _ (r : LineRead) (L : LineAt f p (Ok r)) where
    here : file_lines (drop p f) ≡ r.line ∷ file_lines (drop r.next f)
    here = file_at f p h ∙ (λ i. sym L.0 i ∷ file_lines (drop (sym L.1 i) f))

    -- the line there has its form, and turns the file away
    pub reading_away : stepped g r.line ≡ Err turned_away → read_from None (file_lines f) ≡ Err turned_away
    reading_away e = R.rest ∙ ap (read_from g) here ∙ read_away g _ r.line e

    pub reading_rises : p < r.next
    reading_rises = let a = L.1 in omega arith

    -- the line is passed
    pub reading_turns : (g' : Option GraphRead) → stepped g r.line ≡ Ok g' → (n' : List ℕ) → Marked r.line n n' → Reading f n' g' r.next
    unfolding adjacent any_line
    reading_turns g' e n' M =
        let a = L.1 in
        let w = line_within (drop p f) in
        let d = length-drop p f in
        let s : IfOk (stepped g r.line) (Few r.next) = step_few g r.line p r.next reading_rises R.few in
        record {
          place = omega arith;
          few = rw e at s;
          rest = R.rest ∙ ap (read_from g) here ∙ read_on g _ r.line g' e;
          long = M.long ∙ R.long;
          marks = λ i j x y.
              ap (λ (t : Bool). t || adjacent (file_lines (drop r.next f)) i j) (M.marks i j x y) ∙ or_assoc (is_marked n i j) (joins i j r.line) _
              ∙ ap (λ (m : List Line). is_marked n i j || adjacent m i j) (sym here) ∙ R.marks i j x y;
        }

-- a file that is turned away is read, whatever is marked
pub lines_none : (f n : List ℕ) (r : Result GraphRead TurnedAway) → IsErr r → length n ≡ 1024 → read_from None (file_lines f) ≡ Err turned_away → LinesRead f n r
lines_none f n (Ok r) e l h = absurd (clash {b = false} e refl)
lines_none f n (Err x) e l h = record { is = sym h; long = l; marks = tt }

pub reading_ends : (f n : List ℕ) (g : Option GraphRead) (p : ℕ) → Reading f n g p → length f ≤ p → LinesRead f n (ok_or g turned_away)
unfolding adjacent any_line read_from
reading_ends f n g p R h =
    let z = file_end f p h in
    record {
      is = sym (R.rest ∙ ap (read_from g) z);
      long = R.long;
      marks = says g (λ i j x y. sym (or-false (is_marked n i j)) ∙ ap (λ (m : List Line). is_marked n i j || adjacent m i j) (sym z) ∙ R.marks i j x y);
    }
  where
    says : (g : Option GraphRead) → ((i j : ℕ) → i < 32 → j < 32 → is_marked n i j ≡ adjacent (file_lines f) i j) → MarksSay f n (ok_or g turned_away)
    says None m = tt
    says (Some r) m = m
