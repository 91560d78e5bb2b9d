-- The job's parts make the job. Assumes nothing.
use Rattle.std.specs.Prelude.{Result, Ok, Err, IsErrAnd}
use mathlib.Core.Path.{◌≡◌, refl, sym, ap, ◌∙◌}
use mathlib.Core.Bool.{Bool, true, false, cond, ◌||◌}
use mathlib.Core.List.{List}
use mathlib.Core.Logic.{◌⊎◌, inl, inr, ⊎_elim}
use Prim.Native.Nat.{ℕ, ◌+◌, ◌*◌, ◌≤◌, ◌<◌}
use native.Mathlib.Omega.{arith}
use lib.Dec.{eqb, ltb}
use lib.ListN.{length, get_or, replicate, length-replicate, get_or-replicate, get_or-eq_default}
use borrow.Author.Tests.{lt-ltb, le-ltb, ltb-false}
use Rattle.bounded.proofs.Truth.{lt_dec, neither}
use Rattle.problem.specs.Problem.{Problem, both_ways}
use Rattle.problem.specs.Held.{held, Bounded, Filled}
use Rattle.problem.proofs.BothWays.{both_up, both_down, both_same}
use Rattle.problem.proofs.Same.{problem_same}
use Rattle.sheet.specs.Sheet.{layout}
use Rattle.graph.specs.Graph.{file_lines, bad_file, lines_read, turned_away, read_graph, stated_vertices}
use Rattle.graph.specs.Colouring.{adjacent, channels_at, is_channel, may_stand, colouring}
use Rattle.graph.specs.Scan.{is_marked}
use Rattle.graph.specs.declared.GraphRead.{GraphRead}
use Rattle.graph.specs.declared.TurnedAway.{TurnedAway}
use Rattle.read_graph.specs.Parts.{Unmarked, GraphAt}
use Rattle.compose.specs.Compose.{sheet_bytes, sheet_over}
use Rattle.compose.specs.declared.TooShort.{TooShort}
use Rattle.compose.proofs.Over.{sheet_over_short, sheet_over_done, sheet_over_table}
use Rattle.colour.specs.Colour.{Coloured, has_loop, miscounted, out_of_range, graph_problem, graph_sheet, colour_refused, colour_job}
use Rattle.colour.specs.Parts.{marked_problem, write_job, graph_job}
use Rattle.colour.specs.declared.ColourRefusal.{ColourRefusal}
use Rattle.colour.specs.declared.ColourRefusal.TheVariants.{File, Buffer}

-- ---- zeros

zero_at : (n q : ℕ) → get_or (replicate {A = ℕ} n 0) q 0 ≡ 0
zero_at n q = ⊎_elim
    (λ (h : q < n). get_or-replicate {A = ℕ} n q 0 0 h)
    (λ (h : n ≤ q). let l = length-replicate {A = ℕ} n 0 in get_or-eq_default (replicate {A = ℕ} n 0) 0 (let z : length (replicate {A = ℕ} n 0) ≤ q = omega arith in z))
    (lt_dec q n)

-- no marks
pub blank_marks : Unmarked (replicate {A = ℕ} 1024 0)
blank_marks = record { long = length-replicate {A = ℕ} 1024 0; none = λ i j h l. ap (λ (x : ℕ). eqb x 1) (zero_at 1024 (32 * i + j)) }

-- ---- refusals

-- a refusal that is made from an error
pub err_is : (r : Coloured) (x : ColourRefusal) → IsErrAnd r (λ y. y ≡ x) → r ≡ Err x
err_is (Ok w) x e = absurd e
err_is (Err y) x e = ap Err e

-- ---- the sheet

abbrev pub coloured_of : Result ℕ TooShort → Coloured
coloured_of (Ok w) = Ok w
coloured_of (Err e) = Err Buffer

module _ (P : Problem) (B : Bounded P) (t b : List ℕ) (F : Filled P t) where
  pub write_answers : coloured_of (sheet_over layout 1 (held t) b).answer ≡ (write_job P b).answer
  unfolding write_job
  write_answers = rw (sheet_over_table layout 1 P b B F) (⊎_elim
      (λ (h : length b < length (sheet_bytes layout 1 P)). rw (sheet_over_short layout 1 P b h, lt-ltb _ _ h))
      (λ (h : length (sheet_bytes layout 1 P) ≤ length b). rw (sheet_over_done layout 1 P b h, le-ltb _ _ h))
      (lt_dec (length b) (length (sheet_bytes layout 1 P))))

  pub write_leaves : (sheet_over layout 1 (held t) b).buffer ≡ (write_job P b).buffer
  unfolding write_job
  write_leaves = rw (sheet_over_table layout 1 P b B F) (⊎_elim
      (λ (h : length b < length (sheet_bytes layout 1 P)). rw (sheet_over_short layout 1 P b h, lt-ltb _ _ h))
      (λ (h : length (sheet_bytes layout 1 P) ≤ length b). rw (sheet_over_done layout 1 P b h, le-ltb _ _ h))
      (lt_dec (length b) (length (sheet_bytes layout 1 P))))

-- ---- the range

-- numbers that pass 24
pub record InRange (v k : ℕ) : Type 0 where
  pub v_some : 1 ≤ v
  pub v_few : v ≤ 32
  pub k_some : 1 ≤ k
  pub k_few : k ≤ 16

pub in_range : (v k : ℕ) → out_of_range v k ≡ false → InRange v k
in_range v k o =
    let q = neither (ltb v 1 || ltb 32 v) (ltb k 1 || ltb 16 k) o in
    let s = neither (ltb v 1) (ltb 32 v) q.0 in
    let t = neither (ltb k 1) (ltb 16 k) q.1 in
    record { v_some = ltb-false v 1 s.0; v_few = ltb-false 32 v s.1; k_some = ltb-false k 1 t.0; k_few = ltb-false 16 k t.1 }

-- ---- marks in place of lines

-- two ways of telling which of the first 32 items are joined that agree make one problem
module _ (v k : ℕ) (m n : ℕ → ℕ → Bool) (few : v ≤ 32) (agree : (i j : ℕ) → i < 32 → j < 32 → m i j ≡ n i j) where
  may_same : (i a j b : ℕ) → may_stand v k m i a j b ≡ may_stand v k n i a j b
  unfolding may_stand is_channel
  may_same i a j b = go (lt_dec i v) (lt_dec j v)
    where
      go : (i < v) ⊎ (v ≤ i) → (j < v) ⊎ (v ≤ j) → may_stand v k m i a j b ≡ may_stand v k n i a j b
      go (inr h) y = rw (le-ltb i v h)
      go (inl h) (inr l) = rw (le-ltb j v l)
      go (inl h) (inl l) = rw (agree i j (omega arith) (omega arith))

  allowed_same : (i a j b : ℕ) → both_ways (may_stand v k m) i a j b ≡ both_ways (may_stand v k n) i a j b
  allowed_same i a j b = go (lt_dec i j) (lt_dec j i)
    where
      go : (i < j) ⊎ (j ≤ i) → (j < i) ⊎ (i ≤ j) → both_ways (may_stand v k m) i a j b ≡ both_ways (may_stand v k n) i a j b
      go (inl h) y = both_up (may_stand v k m) i a j b h ∙ may_same i a j b ∙ sym (both_up (may_stand v k n) i a j b h)
      go (inr h) (inl l) = both_down (may_stand v k m) i a j b l ∙ may_same j b i a ∙ sym (both_down (may_stand v k n) i a j b l)
      go (inr h) (inr l) = both_same (may_stand v k m) i a j b (omega arith) ∙ sym (both_same (may_stand v k n) i a j b (omega arith))

  pub same_colouring : colouring v k m ≡ colouring v k n
  unfolding colouring channels_at
  same_colouring = problem_same (colouring v k m) (colouring v k n) refl (λ i. refl) allowed_same

-- ---- the whole job

-- what is done where a test fails may be told by its failing
cond_same : {A : Type 0} (t : Bool) (x y z : A) → (t ≡ false → y ≡ z) → cond t x y ≡ cond t x z
cond_same true x y z h = refl
cond_same false x y z h = h refl

module _ (f : List ℕ) (k : ℕ) (b near : List ℕ) where
  is_read : bad_file f ≡ false → read_graph f ≡ Ok (lines_read (file_lines f))
  unfolding read_graph
  is_read e = rw (e, read_graph)

  is_bad_lem : bad_file f ≡ true → read_graph f ≡ Err turned_away
  unfolding read_graph
  is_bad_lem e = rw (e, read_graph)

  -- a file that is turned away
  pub job_bad : (x : TurnedAway) → GraphAt f near (Err x) → colour_job f k b ≡ colour_refused File b
  unfolding colour_job
  job_bad x G = go (bad_file f) refl
    where
      go : (t : Bool) → bad_file f ≡ t → colour_job f k b ≡ colour_refused File b
      go true q = rw q
      go false q = let g = G.is in let z = is_read q in let y : ◌≡◌ {A = ℕ} 0 1 = cc in absurd (omega arith)

  -- one that is read
  pub job_read : (r : GraphRead) → GraphAt f near (Ok r) → graph_job near r k b ≡ colour_job f k b
  unfolding colour_job graph_job write_job graph_sheet
  job_read r G = go (bad_file f) refl
    where
      go : (t : Bool) → bad_file f ≡ t → graph_job near r k b ≡ colour_job f k b
      go true p = let g = G.is in let z = is_bad_lem p in let y : ◌≡◌ {A = ℕ} 0 1 = cc in absurd (omega arith)
      go false p =
          let g = G.is in
          let z = is_read p in
          let m = file_lines f in
          let e : r ≡ lines_read m = cc in
          let last : out_of_range (stated_vertices m) k ≡ false → write_job (marked_problem near (stated_vertices m) k) b ≡ write_job (graph_problem f k) b =
          λ h. ap (λ (P : Problem). write_job P b) (same_colouring (stated_vertices m) k (is_marked near) (adjacent m) (in_range (stated_vertices m) k h).v_few G.marks) in
          ap (λ (x : GraphRead). graph_job near x k b) e
          ∙ cond_same (has_loop f) _ _ _ (λ _. cond_same (miscounted f) _ _ _ (λ _. cond_same (out_of_range (stated_vertices m) k) _ _ _ last))
          ∙ rw p
