-- Line after line comes to what Graph.antt says of all lines. Assumes nothing.
use mathlib.Core.Path.{◌≡◌, refl, sym, ap, ◌∙◌}
use mathlib.Core.Bool.{Bool, true, false, not, cond, ◌||◌, or-false, or_assoc}
use mathlib.Core.List.{List, [], ◌∷◌}
use Rattle.std.specs.Prelude.{Option, None, Some, Result, Ok, Err}
use Prim.Native.Nat.{ℕ, zero, suc, ◌+◌, ◌≤◌, ◌<◌}
use native.Mathlib.Nat.{add-zero, zero-add, add_assoc}
use native.Mathlib.Omega.{arith}
use lib.Dec.{eqb}
use lib.ListN.{length}
use borrow.Author.Tests.{lt-ltb, le-ltb, ne_eqb}
use Rattle.graph.specs.Graph.{any_line, count_lines, is_bad, is_size, is_edge, is_loop, strays, is_outside, stated_vertices, stated_edges, edge_first, bad_lines, bad_file, lines_read, turned_away, read_graph, file_lines, file_limit}
use Rattle.graph.specs.Scan.{with_edge, in_place, stepped, read_from}
use Rattle.graph.specs.declared.Line.{Line}
use Rattle.graph.specs.declared.Line.TheVariants.{Comment, Size, Edge, Bad}
use Rattle.graph.specs.declared.GraphRead.{GraphRead}
use Rattle.graph.specs.declared.TurnedAway.{TurnedAway}

-- ---- one line more

module _ (g : Option GraphRead) (m : List Line) (l : Line) where
  pub read_on : (h : Option GraphRead) → stepped g l ≡ Ok h → read_from g (l ∷ m) ≡ read_from h m
  unfolding read_from
  read_on h e = rw (e, read_from)

  pub read_away : stepped g l ≡ Err turned_away → read_from g (l ∷ m) ≡ Err turned_away
  unfolding read_from
  read_away e = rw (e, read_from)

-- an `e` line in its place, and out of it
pub step_edge : (r : GraphRead) (a b : ℕ) → in_place r a b ≡ true → stepped (Some r) (Edge a b) ≡ Ok (Some (with_edge r a b))
unfolding stepped
step_edge r a b e = rw e

pub step_astray : (r : GraphRead) (a b : ℕ) → in_place r a b ≡ false → stepped (Some r) (Edge a b) ≡ Err turned_away
unfolding stepped
step_astray r a b e = rw e

-- ---- tests joined

away : (t : Bool) (x : Result GraphRead TurnedAway) → t ≡ true → Err turned_away ≡ cond t (Err turned_away) x
away t x e = rw e

or_middle : (a b c : Bool) → b ≡ true → (a || (b || c)) ≡ true
or_middle true b c e = refl
or_middle false b c e = rw e

or_last : (a b c : Bool) → c ≡ true → (a || (b || c)) ≡ true
or_last true b c e = refl
or_last false true c e = refl
or_last false false c e = e

-- what is found after the `p` line: a second one, a bad line and a vertex outside turn the file away
abbrev sized_away : GraphRead → List Line → Bool
sized_away r m = any_line is_bad m || (not (eqb (count_lines is_size m) 0) || any_line (strays r.vertices) m)

abbrev sized_found : GraphRead → List Line → GraphRead
sized_found r m = record { vertices = r.vertices; edges = r.edges; lines = r.lines + count_lines is_edge m; loops = r.loops || any_line is_loop m }

abbrev sized_read : GraphRead → List Line → Result GraphRead TurnedAway
sized_read r m = cond (sized_away r m) (Err turned_away) (Ok (sized_found r m))

sized_read_lem : (r : GraphRead) (m : List Line) → read_from (Some r) m ≡ sized_read r m
unfolding read_from stepped any_line count_lines
sized_read_lem r [] = simp (add-zero, or-false)
sized_read_lem r (Comment ∷ m) = read_on (Some r) m Comment (Some r) refl ∙ sized_read_lem r m ∙ simp zero-add
sized_read_lem r (Size v e ∷ m) =
    let n : eqb (1 + count_lines is_size m) 0 ≡ false = ne_eqb (1 + count_lines is_size m) 0 (λ q. omega arith) in
    read_away (Some r) m (Size v e) refl ∙ away (sized_away r (Size v e ∷ m)) _ (or_middle (any_line is_bad m) (not (eqb (1 + count_lines is_size m) 0)) _ (ap not n))
sized_read_lem r (Edge a b ∷ m) = go (is_outside r.vertices a || is_outside r.vertices b) refl (sized_read_lem (with_edge r a b) m)
  where
    go : (t : Bool) → (is_outside r.vertices a || is_outside r.vertices b) ≡ t → read_from (Some (with_edge r a b)) m ≡ sized_read (with_edge r a b) m → read_from (Some r) (Edge a b ∷ m) ≡ sized_read r (Edge a b ∷ m)
    go true e ih =
        read_away (Some r) m (Edge a b) (step_astray r a b (rw e)) ∙ away (sized_away r (Edge a b ∷ m)) _ (or_last (any_line is_bad m) (not (eqb (count_lines is_size (Edge a b ∷ m)) 0)) _ (rw e))
    go false e ih =
        read_on (Some r) m (Edge a b) (Some (with_edge r a b)) (step_edge r a b (rw e)) ∙ ih ∙ simp (e, zero-add, or_assoc, add_assoc)
sized_read_lem r (Bad ∷ m) = read_away (Some r) m Bad refl

one_more : (c : ℕ) → eqb (1 + c) 1 ≡ eqb c 0
one_more zero = refl
one_more (suc c) = ne_eqb (1 + suc c) 1 (λ q. omega arith) ∙ sym (ne_eqb (suc c) 0 (λ q. omega arith))

-- from the file's front: the tests of 21 over all lines, and what the tests after it look at
pub lines_read_lem : (m : List Line) → read_from None m ≡ cond (bad_lines m) (Err turned_away) (Ok (lines_read m))
unfolding read_from stepped bad_lines any_line count_lines stated_vertices stated_edges edge_first
lines_read_lem [] = refl
lines_read_lem (Comment ∷ m) = read_on None m Comment None refl ∙ lines_read_lem m ∙ simp zero-add
lines_read_lem (Size v e ∷ m) =
    let n = one_more (count_lines is_size m) in
    let r : GraphRead = record { vertices = v; edges = e; lines = 0; loops = false } in
    read_on None m (Size v e) (Some r) refl ∙ sized_read_lem r m ∙ simp (n, zero-add)
lines_read_lem (Edge a b ∷ m) = read_away None m (Edge a b) refl ∙ away (bad_lines (Edge a b ∷ m)) _ (or_last (any_line is_bad m) (not (eqb (count_lines is_size (Edge a b ∷ m)) 1)) true refl)
lines_read_lem (Bad ∷ m) = read_away None m Bad refl

-- the whole file: its length first
pub read_long : (f : List ℕ) → file_limit < length f → read_graph f ≡ Err turned_away
unfolding read_graph bad_file
read_long f h = rw (lt-ltb file_limit (length f) h, read_graph)

pub read_short : (f : List ℕ) → length f ≤ file_limit → read_graph f ≡ read_from None (file_lines f)
unfolding read_graph bad_file
read_short f h = rw (le-ltb file_limit (length f) h, read_graph) (go (bad_lines (file_lines f)) ∙ sym (lines_read_lem (file_lines f)))
  where
    go : (t : Bool) → elim t as (λ (x : Bool). Result GraphRead TurnedAway) [ true ↦ Err turned_away | false ↦ Ok (lines_read (file_lines f)) ] ≡ cond t (Err turned_away) (Ok (lines_read (file_lines f)))
    go true = refl
    go false = refl
