-- What each answer of the job says: for each number its cause, and no other; and what is left in the buffer. Assumes nothing.
use Rattle.std.specs.Prelude.{Ok, Err}
use mathlib.Core.Path.{◌≡◌, refl, sym, ap, ◌∙◌}
use mathlib.Core.Bool.{true, false, cond}
use mathlib.Core.List.{List}
use mathlib.Core.Logic.{◌⊎◌, inl, inr, ◌↔◌}
use Prim.Native.Nat.{ℕ, ◌≤◌, ◌<◌}
use native.Mathlib.Omega.{arith}
use lib.Dec.{T, eqb}
use lib.ListN.{length, take}
use borrow.Author.Tests.{lt-ltb, le-ltb, eq-eqb, ne_eqb}
use Rattle.bounded.proofs.Truth.{T_true, T_false, T_dec, lt_dec, eq_dec, split, clash}
use Rattle.bounded.proofs.Causes.{cause_iff, number_iff}
use Rattle.sheet.specs.Sheet.{layout}
use Rattle.buffers.specs.Written.{fronted, AtFront}
use Rattle.buffers.proofs.Written.{fronted_bytes}
use Rattle.graph.specs.Graph.{file_lines, line_at, bad_file, count_lines, is_edge, stated_edges}
use Rattle.graph.specs.declared.Line.TheVariants.{Edge}
use Rattle.graph.proofs.Turned.{BadFile, bad_file_iff, loop_iff}
use Rattle.compose.proofs.Over.{sheet_stands}
use Rattle.colour.specs.Colour.{Coloured, coloured_number, has_loop, out_of_range, vertices_of, graph_problem, graph_sheet, ColourResult, colour_refused, colour_job}
use Rattle.colour.specs.declared.ColourRefusal.{ColourRefusal}
use Rattle.colour.specs.declared.ColourRefusal.TheVariants.{File, Loop, Count, Range, Buffer}
use Rattle.colour.proofs.Job.{InRange, in_range}

-- numbers that pass 24, told by the test
range_test : (v k : ℕ) → InRange v k → out_of_range v k ≡ false
range_test v k r = simp (le-ltb v 1 r.v_some, le-ltb 32 v r.v_few, le-ltb k 1 r.k_some, le-ltb 16 k r.k_few)

range_fails : (v k : ℕ) → (InRange v k → ⊥) → out_of_range v k ≡ true
range_fails v k h = go (split (out_of_range v k))
  where
    go : (out_of_range v k ≡ true) ⊎ (out_of_range v k ≡ false) → out_of_range v k ≡ true
    go (inl e) = e
    go (inr e) = absurd (h (in_range v k e))

module _ (f : List ℕ) (k : ℕ) (b : List ℕ) where
  -- ---- what each test says

  -- "when both ends are one vertex"
  abbrev pub HasLoop : Type 0
  HasLoop = (m : ℕ) × (a : ℕ) × (line_at f m ≡ Edge a a)

  -- "when the `e` lines differ from the stated number": they do not
  abbrev pub EdgesCounted : Type 0
  EdgesCounted = count_lines is_edge (file_lines f) ≡ stated_edges (file_lines f)

  -- 21 does not speak against the file; nor does 22; nor 23; nor 24
  abbrev pub Passes21 : Type 0
  Passes21 = BadFile f → ⊥

  abbrev pub Passes22 : Type 0
  Passes22 = Passes21 × (HasLoop → ⊥)

  abbrev pub Passes23 : Type 0
  Passes23 = Passes22 × EdgesCounted

  abbrev pub Passes24 : Type 0
  Passes24 = Passes23 × InRange (vertices_of f) k

  -- Why the job answers as it does: its own test speaks, and no earlier one does.
  abbrev pub ColourCause : Coloured → Type 0
  ColourCause (Err File) = BadFile f
  ColourCause (Err Loop) = Passes21 × HasLoop
  ColourCause (Err Count) = Passes22 × (EdgesCounted → ⊥)
  ColourCause (Err Range) = Passes23 × (InRange (vertices_of f) k → ⊥)
  ColourCause (Err Buffer) = Passes24 × (length b < length (graph_sheet f k))
  ColourCause (Ok w) = Passes24 × ((length (graph_sheet f k) ≤ length b) × (w ≡ length (graph_sheet f k)))

  -- ---- the tests in code, by these

  bad : BadFile f → bad_file f ≡ true
  bad h = T_true (bad_file f) ((bad_file_iff f).1 h)

  good : Passes21 → bad_file f ≡ false
  good h = T_false (bad_file f) (λ t. h ((bad_file_iff f).0 t))

  loops : HasLoop → has_loop f ≡ true
  loops h = T_true (has_loop f) ((loop_iff f).1 h)

  loopless : Passes22 → has_loop f ≡ false
  loopless h = T_false (has_loop f) (λ t. h.1 ((loop_iff f).0 t))

  counted : Passes23 → eqb (count_lines is_edge (file_lines f)) (stated_edges (file_lines f)) ≡ true
  counted h = eq-eqb (count_lines is_edge (file_lines f)) (stated_edges (file_lines f)) h.1

  -- the whole result, for each cause
  abbrev result_of : Coloured → ColourResult
  result_of (Err r) = colour_refused r b
  result_of (Ok w) = record { answer = Ok w; buffer = fronted (graph_sheet f k) b }

  cause_results : (x : Coloured) → ColourCause x → colour_job f k b ≡ result_of x
  unfolding colour_job
  cause_results (Err File) c = rw (bad c)
  cause_results (Err Loop) c = rw (good c.0, loops c.1)
  cause_results (Err Count) c = rw (good c.0.0, loopless c.0, ne_eqb (count_lines is_edge (file_lines f)) (stated_edges (file_lines f)) c.1)
  cause_results (Err Range) c = rw (good c.0.0.0, loopless c.0.0, counted c.0, range_fails (vertices_of f) k c.1)
  cause_results (Err Buffer) c =
      let p = c.0.0 in
      rw (good p.0.0, loopless p.0, counted p, range_test (vertices_of f) k c.0.1, lt-ltb (length b) (length (graph_sheet f k)) c.1)
  cause_results (Ok w) c =
      let p = c.0.0 in
      rw (good p.0.0, loopless p.0, counted p, range_test (vertices_of f) k c.0.1, le-ltb (length b) (length (graph_sheet f k)) c.1.0)
      (λ i. record { answer = Ok (sym c.1.1 i); buffer = fronted (graph_sheet f k) b })

  some_cause : (x : Coloured) × ColourCause x
  some_cause = file (T_dec (bad_file f))
    where
      buffer : Passes24 → (length b < length (graph_sheet f k)) ⊎ (length (graph_sheet f k) ≤ length b) → (x : Coloured) × ColourCause x
      buffer c (inl h) = (Err Buffer, (c, h))
      buffer c (inr h) = (Ok (length (graph_sheet f k)), (c, (h, refl)))

      range : Passes23 → (out_of_range (vertices_of f) k ≡ true) ⊎ (out_of_range (vertices_of f) k ≡ false) → (x : Coloured) × ColourCause x
      range c (inl h) = (Err Range, (c, λ r. clash h (range_test (vertices_of f) k r)))
      range c (inr h) = buffer (c, in_range (vertices_of f) k h) (lt_dec (length b) (length (graph_sheet f k)))

      count : Passes22 → EdgesCounted ⊎ (EdgesCounted → ⊥) → (x : Coloured) × ColourCause x
      count c (inl h) = range (c, h) (split (out_of_range (vertices_of f) k))
      count c (inr h) = (Err Count, (c, h))

      loop : Passes21 → T (has_loop f) ⊎ (T (has_loop f) → ⊥) → (x : Coloured) × ColourCause x
      loop c (inl h) = (Err Loop, (c, (loop_iff f).0 h))
      loop c (inr h) = count (c, λ x. h ((loop_iff f).1 x)) (eq_dec (count_lines is_edge (file_lines f)) (stated_edges (file_lines f)))

      file : T (bad_file f) ⊎ (T (bad_file f) → ⊥) → (x : Coloured) × ColourCause x
      file (inl h) = (Err File, (bad_file_iff f).0 h)
      file (inr h) = loop (λ x. h ((bad_file_iff f).1 x)) (T_dec (has_loop f))

  -- The job answers as it does for its cause and for no other.
  pub colour_iff : (x : Coloured) → ((colour_job f k b).answer ≡ x) ↔ ColourCause x
  colour_iff = cause_iff (colour_job f k b).answer ColourCause (λ x c. ap (λ (y : ColourResult). y.answer) (cause_results x c) ∙ told x) some_cause
    where
      told : (x : Coloured) → (result_of x).answer ≡ x
      told (Err r) = refl
      told (Ok w) = refl

  -- ---- by number

  abbrev refused_as : ℕ → Coloured
  refused_as n = cond (eqb n 21) (Err File) (cond (eqb n 22) (Err Loop) (cond (eqb n 23) (Err Count) (cond (eqb n 24) (Err Range) (Err Buffer))))

  number_back : (x : Coloured) → 21 ≤ coloured_number x → refused_as (coloured_number x) ≡ x
  number_back (Ok w) h = absurd (omega arith)
  number_back (Err File) h = refl
  number_back (Err Loop) h = refl
  number_back (Err Count) h = refl
  number_back (Err Range) h = refl
  number_back (Err Buffer) h = refl

  by_number : (x : Coloured) → 21 ≤ coloured_number x → (coloured_number (colour_job f k b).answer ≡ coloured_number x) ↔ ColourCause x
  by_number = number_iff (colour_job f k b).answer ColourCause colour_iff coloured_number refused_as (λ n. 21 ≤ n) number_back

  pub colour_21 : (coloured_number (colour_job f k b).answer ≡ 21) ↔ BadFile f
  colour_21 = by_number (Err File) (omega arith)

  pub colour_22 : (coloured_number (colour_job f k b).answer ≡ 22) ↔ (Passes21 × HasLoop)
  colour_22 = by_number (Err Loop) (omega arith)

  pub colour_23 : (coloured_number (colour_job f k b).answer ≡ 23) ↔ (Passes22 × (EdgesCounted → ⊥))
  colour_23 = by_number (Err Count) (omega arith)

  pub colour_24 : (coloured_number (colour_job f k b).answer ≡ 24) ↔ (Passes23 × (InRange (vertices_of f) k → ⊥))
  colour_24 = by_number (Err Range) (omega arith)

  pub colour_25 : (coloured_number (colour_job f k b).answer ≡ 25) ↔ (Passes24 × (length b < length (graph_sheet f k)))
  colour_25 = by_number (Err Buffer) (omega arith)

  -- ---- the buffer

  whole : (x : Coloured) → (colour_job f k b).answer ≡ x → colour_job f k b ≡ result_of x
  whole x e = cause_results x ((colour_iff x).0 e)

  -- a refusal leaves every byte as it was
  pub colour_unaltered : (r : ColourRefusal) → (colour_job f k b).answer ≡ Err r → (colour_job f k b).buffer ≡ b
  colour_unaltered r e = ap (λ (y : ColourResult). y.buffer) (whole (Err r) e)

  -- otherwise the answer is the sheet's length, the sheet stands at the front, and the old bytes after it
  pub record SheetWritten (w : ℕ) : Type 0 where
    pub length_is : w ≡ length (graph_sheet f k)
    pub front : AtFront (graph_sheet f k) b (colour_job f k b).buffer
    pub sheet : take w (colour_job f k b).buffer ≡ graph_sheet f k
    pub range : InRange (vertices_of f) k

  pub colour_written : (w : ℕ) → (colour_job f k b).answer ≡ Ok w → SheetWritten w
  unfolding graph_sheet
  colour_written w e =
      let c = (colour_iff (Ok w)).0 e in
      let q = ap (λ (y : ColourResult). y.buffer) (whole (Ok w) e) in
      record {
        length_is = c.1.1;
        front = rw q (fronted_bytes (graph_sheet f k) b c.1.0);
        sheet = ap (take w) q ∙ ap (λ (n : ℕ). take n (fronted (graph_sheet f k) b)) c.1.1 ∙ sheet_stands layout 1 (graph_problem f k) b;
        range = c.0.1;
      }
