-- The plans of the sheet that is written are the proper colourings of the file's graph; its blocks are the edges. Assumes nothing.
use Rattle.std.specs.Prelude.{Ok, Some}
use mathlib.Core.Path.{◌≡◌, refl, sym, ap, ◌∙◌, subst}
use mathlib.Core.Bool.{Bool, true, false, not, cond, ◌&&◌, ◌||◌, or-true}
use mathlib.Core.List.{List, [], ◌∷◌, ◌++◌, append_assoc}
use mathlib.Core.Logic.Iff
use mathlib.Core.Logic.{◌⊎◌, inl, inr, ⊎_elim, ◌≢◌, ◌↔◌}
use Prim.Native.Nat.{ℕ, suc, ◌+◌, ◌-◌, ◌≤◌, ◌<◌}
use native.Mathlib.Omega.{arith}
use lib.Dec.{T, eqb, ltb}
use lib.ListN.{length, take, get_or}
use borrow.Author.Tests.{lt-ltb, le-ltb, eq-eqb, ne_eqb, eqb-true, ltb-false, not-false}
use Rattle.bounded.specs.Quantifiers.{one_if}
use Rattle.bounded.specs.Mask.{bit}
use Rattle.bounded.proofs.Truth.{T_true, T_of, T_not, T_ext, and_iff, or_iff, eqb_iff, ltb_iff, lt_dec, split, neither, clash}
use Rattle.problem.specs.Problem.{Problem, full}
use Rattle.problem.specs.Held.{Bounded}
use Rattle.problem.specs.PutBack.{solves_whole}
use Rattle.problem.proofs.Sound.{solves_whole_iff}
use Rattle.problem.specs.Sentences.{Solution}
use Rattle.sheet.specs.Sheet.{layout, version_of, Keeps}
use Rattle.sheet.specs.Relation.{rows_of, row_in, problem_of}
use Rattle.graph.specs.Graph.{any_line, file_lines, line_at, bad_file, bad_lines, is_bad, is_size, edge_first, file_limit, is_outside, strays, count_lines, is_edge, is_loop, stated_vertices, stated_edges}
use Rattle.graph.specs.Colouring.{joins, adjacent, colouring}
use Rattle.graph.specs.declared.Line.{Line}
use Rattle.graph.specs.declared.Line.TheVariants.{Comment, Size, Edge, Bad}
use Rattle.graph.proofs.Sentences.{any_line_iff}
use Rattle.graph.proofs.Turned.{BadFile, bad_file_iff, there}
use Rattle.compose.specs.Compose.{sheet_bytes}
use Rattle.compose.proofs.Written.{written_keeps, written_problem, written_short}
use Rattle.compose.proofs.Blocks.{layout_roomy, row_allows, block_bars}
use Rattle.colour.specs.Colour.{coloured_number, vertices_of, has_loop, miscounted, out_of_range, graph_problem, graph_sheet, colour_refused, colour_done, colour_job}
use Rattle.colour.specs.declared.ColourRefusal.TheVariants.{File, Loop, Count, Range, Buffer}
use Rattle.colour.proofs.Filling.{joined_pair, allows, colouring_size, colouring_vertices, colouring_bounded}
use Rattle.colour.proofs.Job.{InRange}
use Rattle.colour.proofs.Causes.{colour_iff, colour_25, colour_written}

-- ---- edges

-- line m of the file is an edge of the vertices a and c, whichever way round
abbrev pub EdgeLine : List ℕ → (m a c : ℕ) → Type 0
EdgeLine f m a c = (line_at f m ≡ Edge a c) ⊎ (line_at f m ≡ Edge c a)

-- some line joins the items i and j
abbrev pub Joined : List ℕ → (i j : ℕ) → Type 0
Joined f i j = (m : ℕ) × EdgeLine f m (i + 1) (j + 1)

joins_iff : (i j : ℕ) (l : Line) → T (joins i j l) ↔ ((l ≡ Edge (i + 1) (j + 1)) ⊎ (l ≡ Edge (j + 1) (i + 1)))
joins_iff i j Comment = (λ h. absurd h, λ w. ⊎_elim (λ e. let z : ◌≡◌ {A = ℕ} 0 1 = cc in absurd (omega arith)) (λ e. let z : ◌≡◌ {A = ℕ} 0 1 = cc in absurd (omega arith)) w)
joins_iff i j (Size v e) = (λ h. absurd h, λ w. ⊎_elim (λ e. let z : ◌≡◌ {A = ℕ} 0 1 = cc in absurd (omega arith)) (λ e. let z : ◌≡◌ {A = ℕ} 0 1 = cc in absurd (omega arith)) w)
joins_iff i j (Edge a b) = (
  λ h. there ((or_iff (eqb a (i + 1) && eqb b (j + 1)) (eqb a (j + 1) && eqb b (i + 1))).0 h),
  λ w. (or_iff (eqb a (i + 1) && eqb b (j + 1)) (eqb a (j + 1) && eqb b (i + 1))).1 (back w),
)
  where
    there : T (eqb a (i + 1) && eqb b (j + 1)) ⊎ T (eqb a (j + 1) && eqb b (i + 1)) → (Edge a b ≡ Edge (i + 1) (j + 1)) ⊎ (Edge a b ≡ Edge (j + 1) (i + 1))
    there (inl h) = let q = (and_iff (eqb a (i + 1)) (eqb b (j + 1))).0 h in inl (λ t. Edge ((eqb_iff a (i + 1)).0 q.0 t) ((eqb_iff b (j + 1)).0 q.1 t))
    there (inr h) = let q = (and_iff (eqb a (j + 1)) (eqb b (i + 1))).0 h in inr (λ t. Edge ((eqb_iff a (j + 1)).0 q.0 t) ((eqb_iff b (i + 1)).0 q.1 t))

    back : (Edge a b ≡ Edge (i + 1) (j + 1)) ⊎ (Edge a b ≡ Edge (j + 1) (i + 1)) → T (eqb a (i + 1) && eqb b (j + 1)) ⊎ T (eqb a (j + 1) && eqb b (i + 1))
    back (inl e) = let p : a ≡ i + 1 = cc in let q : b ≡ j + 1 = cc in inl ((and_iff (eqb a (i + 1)) (eqb b (j + 1))).1 ((eqb_iff a (i + 1)).1 p, (eqb_iff b (j + 1)).1 q))
    back (inr e) = let p : a ≡ j + 1 = cc in let q : b ≡ i + 1 = cc in inr ((and_iff (eqb a (j + 1)) (eqb b (i + 1))).1 ((eqb_iff a (j + 1)).1 p, (eqb_iff b (i + 1)).1 q))
joins_iff i j Bad = (λ h. absurd h, λ w. ⊎_elim (λ e. let z : ◌≡◌ {A = ℕ} 0 1 = cc in absurd (omega arith)) (λ e. let z : ◌≡◌ {A = ℕ} 0 1 = cc in absurd (omega arith)) w)

-- what the problem goes by is what the lines say
pub adjacent_iff : (f : List ℕ) (i j : ℕ) → T (adjacent (file_lines f) i j) ↔ Joined f i j
unfolding adjacent
adjacent_iff f i j = (
  λ h. let w = (any_line_iff (joins i j) (file_lines f)).0 h in (w.0, (joins_iff i j (line_at f w.0)).0 w.2),
  λ w. (any_line_iff (joins i j) (file_lines f)).1 (w.0, there (joins i j) (λ h. h) (file_lines f) w.0 ((joins_iff i j (line_at f w.0)).1 w.1), (joins_iff i j (line_at f w.0)).1 w.1),
)

-- an edge joins both ways round
joined_turn : (f : List ℕ) (i j : ℕ) → Joined f i j → Joined f j i
joined_turn f i j (m, inl e) = (m, inr e)
joined_turn f i j (m, inr e) = (m, inl e)

pair_joined : (f : List ℕ) (i j : ℕ) → T (joined_pair (adjacent (file_lines f)) i j) ↔ Joined f i j
pair_joined f i j = go (lt_dec i j)
  where
    go : (i < j) ⊎ (j ≤ i) → T (joined_pair (adjacent (file_lines f)) i j) ↔ Joined f i j
    go (inl h) = rw (lt-ltb i j h) (adjacent_iff f i j)
    go (inr h) = rw (le-ltb i j h) (λ t. joined_turn f j i ((adjacent_iff f j i).0 t), λ w. (adjacent_iff f j i).1 (joined_turn f i j w))

-- ---- colourings

-- "the proper colourings": every vertex, counted from 1, has a channel below the count, and the ends of every edge line differ
pub record ProperColouring (f : List ℕ) (k : ℕ) (p : ℕ → ℕ) : Type 0 where
  pub channel : (v : ℕ) → 1 ≤ v → v ≤ vertices_of f → p (v - 1) < k
  pub ends : (m a c : ℕ) → line_at f m ≡ Edge a c → p (a - 1) ≢ p (c - 1)

-- what is known of a file that the job takes
pub record SheetTaken (f : List ℕ) (k : ℕ) : Type 0 where
  pub range : InRange (vertices_of f) k
  -- every edge's ends are different vertices within the stated number
  pub inside : (m a c : ℕ) → line_at f m ≡ Edge a c → ((1 ≤ a) × (a ≤ vertices_of f)) × (((1 ≤ c) × (c ≤ vertices_of f)) × (a ≢ c))

-- the first state of a problem: every variable, every value
active_iff : (P : Problem) (i : ℕ) → T ((full P).active i) ↔ (i < P.n)
unfolding full
active_iff P i = ltb_iff i P.n

live_iff : (P : Problem) (i a : ℕ) → T ((full P).live i a) ↔ ((i < P.n) × (a < P.size i))
unfolding full
live_iff P i a = simp (and_iff, ltb_iff) Iff.rfl

-- a test and its opposite
not_and : (t : Bool) (a b : ℕ) → (T t → a ≢ b) → not (t && eqb a b) ≡ true
not_and true a b h = ap not (ne_eqb a b (h tt))
not_and false a b h = refl

and_not : (t : Bool) (a b : ℕ) → not (t && eqb a b) ≡ true → T t → a ≢ b
and_not true a b e h q = clash {b = not (eqb a b)} e (ap not (eq-eqb a b q))
and_not false a b e h q = h

module _ (f : List ℕ) (k : ℕ) (K : SheetTaken f k) where
  abbrev P : Problem
  P = graph_problem f k

  vertices : P.n ≡ vertices_of f
  vertices = colouring_vertices (vertices_of f) k (adjacent (file_lines f))

  channels : (i : ℕ) → i < vertices_of f → P.size i ≡ k
  channels i h = colouring_size (vertices_of f) k (adjacent (file_lines f)) i ∙ rw (lt-ltb i (vertices_of f) h)

  in_graph : (i : ℕ) → T ((full P).active i) → i < vertices_of f
  in_graph i h = let l = (active_iff P i).0 h in let e = vertices in omega arith

  proper_solves : (p : ℕ → ℕ) → ProperColouring f k p → Solution P (full P) p
  proper_solves p R = record {
    live = λ i h. let l = in_graph i h in (live_iff P i (p i)).1 ((active_iff P i).0 h, rw (channels i l) (has i l));
    ok = λ i j h l d.
        let hi = in_graph i h in
        let hj = in_graph j l in
        T_of (allows (vertices_of f) k (adjacent (file_lines f)) i (p i) j (p j) hi (has i hi) hj (has j hj) d
        ∙ not_and (joined_pair (adjacent (file_lines f)) i j) (p j) (p i) (λ t e. apart i j ((pair_joined f i j).0 t) (sym e)));
  }
    where
      one_less : (i : ℕ) → i + 1 - 1 ≡ i
      one_less i = omega arith

      has : (i : ℕ) → i < vertices_of f → p i < k
      has i h = subst (λ (x : ℕ). p x < k) (one_less i) (R.channel (i + 1) (omega arith) (omega arith))

      apart : (i j : ℕ) → Joined f i j → p i ≢ p j
      apart i j (m, inl e) q = R.ends m (i + 1) (j + 1) e (ap p (one_less i) ∙ q ∙ sym (ap p (one_less j)))
      apart i j (m, inr e) q = R.ends m (j + 1) (i + 1) e (ap p (one_less j) ∙ sym q ∙ sym (ap p (one_less i)))

  solves_proper : (p : ℕ → ℕ) → Solution P (full P) p → ProperColouring f k p
  solves_proper p S = record {
    channel = λ v s l. has (v - 1) (omega arith);
    ends = λ m a c e q.
        let b = K.inside m a c e in
        let a1 = b.0.0 in
        let a2 = b.0.1 in
        let c1 = b.1.0.0 in
        let c2 = b.1.0.1 in
        let hi : a - 1 < vertices_of f = omega arith in
        let hj : c - 1 < vertices_of f = omega arith in
        let d : a - 1 ≢ c - 1 = λ z. b.1.1 (let y : a ≡ c = omega arith in y) in
        let line : line_at f m ≡ Edge (a - 1 + 1) (c - 1 + 1) = e ∙ (λ t. Edge (back a a1 t) (back c c1 t)) in
        let t = T_true _ (S.ok (a - 1) (c - 1) (on (a - 1) hi) (on (c - 1) hj) d) in
        and_not (joined_pair (adjacent (file_lines f)) (a - 1) (c - 1)) (p (c - 1)) (p (a - 1))
        (sym (allows (vertices_of f) k (adjacent (file_lines f)) (a - 1) (p (a - 1)) (c - 1) (p (c - 1)) hi (has (a - 1) hi) hj (has (c - 1) hj) d) ∙ t)
        ((pair_joined f (a - 1) (c - 1)).1 (m, inl line))
        (sym q);
  }
    where
      on : (i : ℕ) → i < vertices_of f → T ((full P).active i)
      on i h = (active_iff P i).1 (let e = vertices in let y : i < P.n = omega arith in y)

      has : (i : ℕ) → i < vertices_of f → p i < k
      has i h = subst (λ (x : ℕ). p i < x) (channels i h) ((live_iff P i (p i)).0 (S.live i (on i h))).1

      back : (a : ℕ) → 1 ≤ a → a ≡ a - 1 + 1
      back a h = omega arith

-- ---- a file that the job takes

-- a line that is an edge stands in the file
edge_within : (f : List ℕ) (m a c : ℕ) → line_at f m ≡ Edge a c → m < length (file_lines f)
edge_within f m a c e = there is_edge (λ h. h) (file_lines f) m (subst (λ (l : Line). T (is_edge l)) (sym e) tt)

-- a vertex outside the stated number turns the file away
stray_bad : (f : List ℕ) → T (any_line (strays (vertices_of f)) (file_lines f)) → T (bad_file f)
unfolding bad_file bad_lines
stray_bad f t =
    (or_iff (ltb file_limit (length f)) (bad_lines (file_lines f))).1
    (inr ((or_iff (any_line is_bad (file_lines f)) _).1 (inr ((or_iff (not (eqb (count_lines is_size (file_lines f)) 1)) _).1 (inr ((or_iff (edge_first (file_lines f)) _).1 (inr t)))))))

-- a vertex of a sound file is within the stated number
inside_of : (f : List ℕ) → (BadFile f → ⊥) → (m a c : ℕ) → line_at f m ≡ Edge a c → (is_outside (vertices_of f) a ≡ false) × (is_outside (vertices_of f) c ≡ false)
inside_of f h m a c e = neither (is_outside (vertices_of f) a) (is_outside (vertices_of f) c) (go (split (strays (vertices_of f) (line_at f m))))
  where
    go : (strays (vertices_of f) (line_at f m) ≡ true) ⊎ (strays (vertices_of f) (line_at f m) ≡ false) → (is_outside (vertices_of f) a || is_outside (vertices_of f) c) ≡ false
    go (inr q) = sym (ap (strays (vertices_of f)) e) ∙ q
    go (inl q) = absurd (h ((bad_file_iff f).0 (stray_bad f ((any_line_iff (strays (vertices_of f)) (file_lines f)).1 (m, edge_within f m a c e, T_of q)))))

not_outside : (v a : ℕ) → is_outside v a ≡ false → (1 ≤ a) × (a ≤ v)
not_outside v a o = let q = neither (ltb a 1) (ltb v a) o in (ltb-false a 1 q.0, ltb-false v a q.1)

pub taken : (f : List ℕ) (k : ℕ) (b : List ℕ) (w : ℕ) → (colour_job f k b).answer ≡ Ok w → SheetTaken f k
taken f k b w e =
    let c = (colour_iff f k b (Ok w)).0 e in
    record {
      range = c.0.1;
      inside = λ m a d q.
          let o = inside_of f c.0.0.0.0 m a d q in
          (not_outside (vertices_of f) a o.0, (not_outside (vertices_of f) d o.1, λ z. c.0.0.0.1 (m, a, q ∙ ap (Edge a) (sym z))));
    }

-- ---- the sheet

-- numbers in range make a problem that a table can hold, and a sheet that is no longer than the longest
module _ (f : List ℕ) (k : ℕ) (R : InRange (vertices_of f) k) where
  bounded : Bounded (graph_problem f k)
  bounded = colouring_bounded (vertices_of f) k (adjacent (file_lines f)) R.v_few R.k_some R.k_few

  some : 1 ≤ (graph_problem f k).n
  some = rw (colouring_vertices (vertices_of f) k (adjacent (file_lines f))) R.v_some

  graph_short : length (graph_sheet f k) ≤ 16904
  unfolding graph_sheet
  graph_short = written_short layout 1 (graph_problem f k) layout_roomy refl bounded some

-- a buffer of as many bytes is never too short
pub colour_room : (f : List ℕ) (k : ℕ) (b : List ℕ) → 16904 ≤ length b → coloured_number (colour_job f k b).answer ≢ 25
colour_room f k b h e = let c = (colour_25 f k b).0 e in let s = graph_short f k c.0.1 in let l = c.1 in omega arith

module _ (f : List ℕ) (k : ℕ) (b : List ℕ) (w : ℕ) (e : (colour_job f k b).answer ≡ Ok w) where
  -- the sheet that was written: the bytes at the buffer's front
  abbrev pub sheet_at : List ℕ
  sheet_at = take w (colour_job f k b).buffer

  range : InRange (vertices_of f) k
  range = (colour_written f k b w e).range

  sheet_is : sheet_at ≡ graph_sheet f k
  sheet_is = (colour_written f k b w e).sheet

  -- it keeps the layout, so that every job takes it
  pub colour_keeps : Keeps layout (take w (colour_job f k b).buffer)
  unfolding graph_sheet
  colour_keeps = rw sheet_is (written_keeps layout 1 (graph_problem f k) layout_roomy refl (bounded f k range) (some f k range))

  -- it is of version 1
  pub colour_version : version_of (take w (colour_job f k b).buffer) ≡ 1
  unfolding graph_sheet sheet_bytes
  colour_version = ap version_of sheet_is

  -- it is the colouring problem of the file
  pub colour_problem : problem_of layout (take w (colour_job f k b).buffer) ≡ graph_problem f k
  unfolding graph_sheet
  colour_problem = ap (problem_of layout) sheet_is ∙ written_problem layout 1 (graph_problem f k) layout_roomy refl (bounded f k range) (some f k range)

  -- it is no longer than the longest sheet
  pub colour_longest : w ≤ 16904
  colour_longest = rw (colour_written f k b w e).length_is (graph_short f k range)

  -- "the sheet whose plans are exactly the proper colourings"
  pub colour_plans : (p : ℕ → ℕ) → T (solves_whole (problem_of layout (take w (colour_job f k b).buffer)) p) ↔ ProperColouring f k p
  colour_plans p = rw colour_problem (
    λ t. solves_proper f k (taken f k b w e) p ((solves_whole_iff (graph_problem f k) p).0 t),
    λ R. (solves_whole_iff (graph_problem f k) p).1 (proper_solves f k (taken f k b w e) p R),
  )

  -- ---- its blocks

  module _ (i j : ℕ) (rises : i < j) (ends : j < vertices_of f) where
    tells : (a c : ℕ) → a < k → c < k → (problem_of layout sheet_at).allowed i a j c ≡ not (joined_pair (adjacent (file_lines f)) i j && eqb c a)
    tells a c h l = ap (λ (Q : Problem). Q.allowed i a j c) colour_problem ∙ allows (vertices_of f) k (adjacent (file_lines f)) i a j c (omega arith) h ends l (λ z. omega arith)

    size_of : (x : ℕ) → x < vertices_of f → (problem_of layout sheet_at).size x ≡ k
    size_of x h = ap (λ (Q : Problem). Q.size x) colour_problem ∙ channels f k (taken f k b w e) x h

    -- some two settings are barred exactly where an edge joins the two
    barred_joined : (a c : ℕ) → a < k → c < k → (problem_of layout sheet_at).allowed i a j c ≡ false → Joined f i j
    barred_joined a c h l q = (pair_joined f i j).0 (barred (joined_pair (adjacent (file_lines f)) i j) (eqb c a) (sym (tells a c h l) ∙ q))
      where
        barred : (t u : Bool) → not (t && u) ≡ false → T t
        barred true u z = tt
        barred false u z = absurd (clash {b = true} refl z)

    joined_bars : Joined f i j → (a : ℕ) → a < k → (problem_of layout sheet_at).allowed i a j a ≡ false
    joined_bars x a h = tells a a h h ∙ simp (T_true (joined_pair (adjacent (file_lines f)) i j) ((pair_joined f i j).1 x), eq-eqb a a refl)

    count_is : (problem_of layout sheet_at).n ≡ vertices_of f
    count_is = ap (λ (Q : Problem). Q.n) colour_problem ∙ vertices f k (taken f k b w e)

    zi : (problem_of layout sheet_at).size i ≡ k
    zi = size_of i (omega arith)

    zj : (problem_of layout sheet_at).size j ≡ k
    zj = size_of j ends

    -- "each edge's block bars equal settings only, and no other pair has a block": a pair has a block exactly where an edge joins it
    pub colour_blocks : ((r : ℕ) × (rows_of layout (take w (colour_job f k b).buffer) i j ≡ Some r)) ↔ Joined f i j
    colour_blocks =
        let n = count_is in
        let y = zi in
        let z = zj in
        let some = range.k_some in
        let B = block_bars layout sheet_at colour_keeps i j rises (omega arith) in (
          λ x. let v = B.0 x in let h = v.2 in let l = v.3 in barred_joined v.0 v.1 (omega arith) (omega arith) v.4,
          λ x. B.1 (0, 0, omega arith, omega arith, joined_bars x 0 (omega arith)),
        )

    -- and its row of a has the bit of c exactly where a and c differ
    pub colour_rows : (r : ℕ) → rows_of layout (take w (colour_job f k b).buffer) i j ≡ Some r → (a c : ℕ) → a < k → c < k
        → T (bit (row_in layout (take w (colour_job f k b).buffer) j r a) c) ↔ (a ≢ c)
    colour_rows r q a c h l =
        let y = zi in
        let z = zj in
        let x = T_true (joined_pair (adjacent (file_lines f)) i j) ((pair_joined f i j).1 (colour_blocks.0 (r, q))) in
        let t : bit (row_in layout sheet_at j r a) c ≡ not (eqb c a) = row_allows layout sheet_at colour_keeps i j r q a c (omega arith) (omega arith) ∙ tells a c h l ∙ simp x in (
          λ s d. T_not {b = not (eqb c a)} (ap not (eq-eqb c a (sym d))) (subst T t s),
          λ d. subst T (sym t) (T_of (ap not (ne_eqb c a (λ u. d (sym u))))),
        )

-- ---- an edge given again

-- the sheet goes by the stated vertices and by which of them some line joins, however often and whichever way round
pub colour_same : (f g : List ℕ) (k : ℕ) → vertices_of f ≡ vertices_of g → ((i j : ℕ) → Joined f i j ↔ Joined g i j) → graph_sheet f k ≡ graph_sheet g k
unfolding graph_sheet
colour_same f g k v s =
    let a : adjacent (file_lines f) ≡ adjacent (file_lines g) =
    λ t i j. T_ext {a = adjacent (file_lines f) i j} {b = adjacent (file_lines g) i j} (λ x. (adjacent_iff g i j).1 ((s i j).0 ((adjacent_iff f i j).0 x)), λ x. (adjacent_iff f i j).1 ((s i j).1 ((adjacent_iff g i j).0 x))) t in
    λ t. sheet_bytes layout 1 (colouring (v t) k (a t))

-- "An edge given again, either way round, counts as a line but makes one block": among any lines
pub record Again (a c : ℕ) (x y : List Line) : Type 0 where
  -- which items are joined stays as it is
  pub joined : (i j : ℕ) → adjacent (x ++ (Edge a c ∷ y)) i j ≡ adjacent (x ++ y) i j
  -- and the `e` lines are one more
  pub counted : count_lines is_edge (x ++ (Edge a c ∷ y)) ≡ suc (count_lines is_edge (x ++ y))

count_insert : (t : Line → Bool) (l : Line) (x y : List Line) → count_lines t (x ++ (l ∷ y)) ≡ one_if (t l) + count_lines t (x ++ y)
unfolding count_lines
count_insert t l [] y = refl
count_insert t l (z ∷ x) y = let ih = count_insert t l x y in omega arith

or_swap : (a b c : Bool) → (a || (b || c)) ≡ (b || (a || c))
or_swap true b c = sym (or-true b)
or_swap false b c = refl

any_insert : (t : Line → Bool) (l : Line) (x y : List Line) → any_line t (x ++ (l ∷ y)) ≡ (t l || any_line t (x ++ y))
unfolding any_line
any_insert t l [] y = refl
any_insert t l (z ∷ x) y = ap (λ (b : Bool). t z || b) (any_insert t l x y) ∙ or_swap (t z) (t l) (any_line t (x ++ y))

or_told : (a b : Bool) → (T a → T b) → (a || b) ≡ b
or_told true b h = sym (T_true b (h tt))
or_told false b h = refl

-- the ends of an edge exchanged join the same items
joins_turn : (i j a c : ℕ) → T (joins i j (Edge a c)) → T (joins i j (Edge c a))
joins_turn i j a c h = (joins_iff i j (Edge c a)).1 (turn ((joins_iff i j (Edge a c)).0 h))
  where
    turn : (Edge a c ≡ Edge (i + 1) (j + 1)) ⊎ (Edge a c ≡ Edge (j + 1) (i + 1)) → (Edge c a ≡ Edge (i + 1) (j + 1)) ⊎ (Edge c a ≡ Edge (j + 1) (i + 1))
    turn (inl q) = let s : a ≡ i + 1 = cc in let t : c ≡ j + 1 = cc in inr (λ z. Edge (t z) (s z))
    turn (inr q) = let s : a ≡ j + 1 = cc in let t : c ≡ i + 1 = cc in inl (λ z. Edge (t z) (s z))

-- an edge given again changes no test that takes it either way round
any_again : (t : Line → Bool) (a c : ℕ) → (T (t (Edge a c)) → T (t (Edge c a)) × (T (t Bad) → ⊥)) → (x y : List Line) (m : ℕ) → (get_or (x ++ y) m Bad ≡ Edge a c) ⊎ (get_or (x ++ y) m Bad ≡ Edge c a)
    → any_line t (x ++ (Edge a c ∷ y)) ≡ any_line t (x ++ y)
any_again t a c h x y m e =
    any_insert t (Edge a c) x y
    ∙ or_told (t (Edge a c)) (any_line t (x ++ y))
    (λ k.
    let w : T (t (get_or (x ++ y) m Bad)) = ⊎_elim (λ q. subst (λ (l : Line). T (t l)) (sym q) k) (λ q. subst (λ (l : Line). T (t l)) (sym q) (h k).0) e in
    (any_line_iff t (x ++ y)).1 (m, there t (h k).1 (x ++ y) m w, w))

pub edge_again : (a c : ℕ) (x y : List Line) (m : ℕ) → (get_or (x ++ y) m Bad ≡ Edge a c) ⊎ (get_or (x ++ y) m Bad ≡ Edge c a) → Again a c x y
unfolding adjacent
edge_again a c x y m e =
    record {
      joined = λ i j. any_again (joins i j) a c (λ k. (joins_turn i j a c k, λ h. h)) x y m e;
      counted = let n = count_insert is_edge (Edge a c) x y in omega arith;
    }

-- ---- the same of two files

-- g is the file f with an edge given again: the `p` line states one edge more, and after it stands one `e` line more, of the vertices of an
-- edge of f, either way round
pub record GivenAgain (f g : List ℕ) : Type 0 where
  pub x : List Line
  pub y : List Line
  pub z : List Line
  pub v : ℕ
  pub e : ℕ
  pub a : ℕ
  pub c : ℕ
  pub m : ℕ
  pub first : file_lines f ≡ x ++ (Size v e ∷ (y ++ z))
  pub second : file_lines g ≡ x ++ (Size v (suc e) ∷ (y ++ (Edge a c ∷ z)))
  pub edge : EdgeLine f m a c

-- the first `p` line of either stands at one place and states as many vertices
same_vertices : (v e d : ℕ) (x p q : List Line) → stated_vertices (x ++ (Size v e ∷ p)) ≡ stated_vertices (x ++ (Size v d ∷ q))
unfolding stated_vertices
same_vertices v e d [] p q = refl
same_vertices v e d (Comment ∷ x) p q = same_vertices v e d x p q
same_vertices v e d (Size w u ∷ x) p q = refl
same_vertices v e d (Edge a b ∷ x) p q = same_vertices v e d x p q
same_vertices v e d (Bad ∷ x) p q = same_vertices v e d x p q

same_first : (v e d : ℕ) (x p q : List Line) → edge_first (x ++ (Size v e ∷ p)) ≡ edge_first (x ++ (Size v d ∷ q))
unfolding edge_first
same_first v e d [] p q = refl
same_first v e d (Comment ∷ x) p q = same_first v e d x p q
same_first v e d (Size w u ∷ x) p q = refl
same_first v e d (Edge a b ∷ x) p q = refl
same_first v e d (Bad ∷ x) p q = same_first v e d x p q

-- where it is the only one, it states the edges
only_states : (v e : ℕ) (x p : List Line) → count_lines is_size (x ++ (Size v e ∷ p)) ≡ 1 → stated_edges (x ++ (Size v e ∷ p)) ≡ e
unfolding stated_edges count_lines
only_states v e [] p h = refl
only_states v e (Comment ∷ x) p h = only_states v e x p (omega (arith, h))
only_states v e (Size w u ∷ x) p h = let n = count_insert is_size (Size v e) x p in absurd (omega arith)
only_states v e (Edge a b ∷ x) p h = only_states v e x p (omega (arith, h))
only_states v e (Bad ∷ x) p h = only_states v e x p (omega (arith, h))

eqb_more : (n k p q : ℕ) → n ≡ 1 + p → k ≡ 1 + q → eqb n k ≡ eqb p q
eqb_more n k p q h l = T_ext {a = eqb n k} {b = eqb p q} (λ t. let z = (eqb_iff n k).0 t in (eqb_iff p q).1 (omega arith), λ t. let z = (eqb_iff p q).0 t in (eqb_iff n k).1 (omega arith))

module _ {f g : List ℕ} (G : GivenAgain f g) where
  abbrev E : Line
  E = Edge G.a G.c

  -- the lines of f up to the new one
  abbrev to : List Line
  to = G.x ++ (Size G.v G.e ∷ G.y)

  made : to ++ G.z ≡ file_lines f
  made = append_assoc G.x (Size G.v G.e ∷ G.y) G.z ∙ sym G.first

  edged : to ++ (E ∷ G.z) ≡ G.x ++ (Size G.v G.e ∷ (G.y ++ (E ∷ G.z)))
  edged = append_assoc G.x (Size G.v G.e ∷ G.y) (E ∷ G.z)

  any_same : (t : Line → Bool) → t (Size G.v (suc G.e)) ≡ t (Size G.v G.e) → (T (t E) → T (t (Edge G.c G.a)) × (T (t Bad) → ⊥)) → any_line t (file_lines g) ≡ any_line t (file_lines f)
  any_same t p h =
      let rest = G.y ++ (E ∷ G.z) in
      ap (any_line t) G.second ∙ any_insert t (Size G.v (suc G.e)) G.x rest ∙ ap (λ (s : Bool). s || any_line t (G.x ++ rest)) p ∙ sym (any_insert t (Size G.v G.e) G.x rest)
      ∙ ap (any_line t) (sym edged)
      ∙ any_again t G.a G.c h to G.z G.m (subst (λ (l : List Line). (get_or l G.m Bad ≡ E) ⊎ (get_or l G.m Bad ≡ Edge G.c G.a)) (sym made) G.edge)
      ∙ ap (any_line t) made

  counted_more : (t : Line → Bool) → one_if (t (Size G.v (suc G.e))) ≡ one_if (t (Size G.v G.e)) → count_lines t (file_lines g) ≡ one_if (t E) + count_lines t (file_lines f)
  counted_more t p =
      let rest = G.y ++ (E ∷ G.z) in
      ap (count_lines t) G.second ∙ count_insert t (Size G.v (suc G.e)) G.x rest ∙ ap (λ (n : ℕ). n + count_lines t (G.x ++ rest)) p ∙ sym (count_insert t (Size G.v G.e) G.x rest)
      ∙ ap (count_lines t) (sym edged) ∙ count_insert t E to G.z ∙ ap (λ (l : List Line). one_if (t E) + count_lines t l) made

  sizes_same : count_lines is_size (file_lines g) ≡ count_lines is_size (file_lines f)
  sizes_same = let n = counted_more is_size refl in omega arith

  vertices_same : vertices_of g ≡ vertices_of f
  vertices_same = ap stated_vertices G.second ∙ same_vertices G.v (suc G.e) G.e G.x _ _ ∙ sym (ap stated_vertices G.first)

  strays_turn : (w : ℕ) → T (strays w E) → T (strays w (Edge G.c G.a)) × (T (strays w Bad) → ⊥)
  strays_turn w h = ((or_iff (is_outside w G.c) (is_outside w G.a)).1 (⊎_elim inr inl ((or_iff (is_outside w G.a) (is_outside w G.c)).0 h)), λ h. h)

  bad_same : bad_lines (file_lines g) ≡ bad_lines (file_lines f)
  unfolding bad_lines
  bad_same =
      let e = ap edge_first G.second ∙ same_first G.v (suc G.e) G.e G.x _ _ ∙ sym (ap edge_first G.first) in
      let s = ap (λ (w : ℕ). any_line (strays w) (file_lines g)) vertices_same ∙ any_same (strays (vertices_of f)) refl (strays_turn (vertices_of f)) in
      λ i. any_same is_bad refl (λ k. absurd k) i || (not (eqb (sizes_same i) 1) || (e i || s i))

  loop_same : has_loop g ≡ has_loop f
  loop_same = any_same is_loop refl (λ h. ((eqb_iff G.c G.a).1 (sym ((eqb_iff G.a G.c).0 h)), λ h. h))

  sheet_same : (k : ℕ) → graph_sheet g k ≡ graph_sheet f k
  unfolding graph_sheet adjacent
  sheet_same k = λ i. sheet_bytes layout 1 (colouring (vertices_same i) k (λ p q. any_same (joins p q) refl (λ h. (joins_turn p q G.a G.c h, λ h. h)) i))

  -- one line more and one more stated
  miscounted_same : count_lines is_size (file_lines f) ≡ 1 → miscounted g ≡ miscounted f
  miscounted_same one =
      let n = counted_more is_edge refl in
      let s : stated_edges (file_lines f) ≡ G.e = ap stated_edges G.first ∙ only_states G.v G.e G.x _ (ap (count_lines is_size) (sym G.first) ∙ one) in
      let r : stated_edges (file_lines g) ≡ suc G.e = ap stated_edges G.second ∙ only_states G.v (suc G.e) G.x _ (ap (count_lines is_size) (sym G.second) ∙ sizes_same ∙ one) in
      let q : stated_edges (file_lines g) ≡ 1 + stated_edges (file_lines f) = omega arith in
      λ i. not (eqb_more (count_lines is_edge (file_lines g)) (stated_edges (file_lines g)) (count_lines is_edge (file_lines f)) (stated_edges (file_lines f)) n q i)

  -- Neither file being over 64 KiB, the job answers and leaves the same for both: the same sheet, byte for byte, or the same refusal.
  pub colour_again : length f ≤ file_limit → length g ≤ file_limit → (k : ℕ) (b : List ℕ) → colour_job g k b ≡ colour_job f k b
  unfolding colour_job bad_file bad_lines
  colour_again lf lg k b = go (split (bad_file f))
    where
      bad : bad_file g ≡ bad_file f
      bad = λ i. (le-ltb file_limit (length g) lg ∙ sym (le-ltb file_limit (length f) lf)) i || bad_same i

      one : bad_file f ≡ false → count_lines is_size (file_lines f) ≡ 1
      one e =
          let late = edge_first (file_lines f) || any_line (strays (vertices_of f)) (file_lines f) in
          let many = not (eqb (count_lines is_size (file_lines f)) 1) in
          eqb-true _ 1 (not-false _ (neither many late (neither (any_line is_bad (file_lines f)) (many || late) (neither (ltb file_limit (length f)) (bad_lines (file_lines f)) e).1).1).0)

      go : (bad_file f ≡ true) ⊎ (bad_file f ≡ false) → colour_job g k b ≡ colour_job f k b
      go (inl e) = rw (bad, e)
      go (inr e) = λ i. cond (bad i) (colour_refused File b)
          (cond (loop_same i) (colour_refused Loop b)
          (cond (miscounted_same (one e) i) (colour_refused Count b)
          (cond (out_of_range (vertices_same i) k) (colour_refused Range b)
          (cond (ltb (length b) (length (sheet_same k i))) (colour_refused Buffer b)
          (colour_done (sheet_same k i) b)))))
