-- The text from the run's answer: what an answer of the run says of the sheet, and the lines of its numbers. Assumes nothing.
use mathlib.Core.Path.{◌≡◌, refl, sym, ap, ◌∙◌}
use mathlib.Core.List.{List, [], ◌∷◌, ◌++◌}
use Prim.Native.Nat.{ℕ, ◌≤◌, ◌<◌}
use native.Mathlib.Nat.{zero-add}
use native.Mathlib.Omega.{arith}
use lib.ListN.{length}
use borrow.Author.Tests.{lt-ltb, le-ltb}
use Rattle.bounded.specs.Quantifiers.{count_below, sum_to}
use Rattle.problem.specs.Problem.{Problem, State, full, size_sum, live_count}
use Rattle.problem.specs.Run.{run, after_trace, end_of}
use Rattle.problem.specs.Held.{Bounded}
use Rattle.problem.specs.Masks.{state_of}
use Rattle.problem.specs.declared.End.{End}
use Rattle.problem.specs.declared.Masks.{Masks}
use Rattle.problem.proofs.Reflect.{full_fits}
use Rattle.problem.proofs.Count.{sizes_most}
use Rattle.problem.proofs.Trace.{trace_fits}
use Rattle.problem.proofs.Run.{run_short}
use Rattle.sheet.specs.Sheet.{layout, read_sheet, sheet_number, Keeps, SheetRead}
use Rattle.sheet.specs.Relation.{problem_of}
use Rattle.std.specs.Prelude.{Err, Ok}
use Rattle.sheet.proofs.Accepted.{keeps, problem_bounded}
use Rattle.run.specs.Numbers.{run_refusal_number, ran}
use Rattle.trace.specs.Trace.{trace_bytes}
use Rattle.buffers.specs.Written.{fronted, written}
use Rattle.run.specs.Run.{RunResult, run_done, run_job}
use Rattle.fields.specs.Print.{field, sheet_word, end_word, step_lines, refused_line, run_lines, sheet_lines}
use Rattle.run.specs.declared.RunAnswer.{RunAnswer}
use Rattle.run.specs.declared.RunRefusal.{RunRefusal}
use Rattle.run.specs.declared.RunRefusal.TheVariants.{Sheet}
use Rattle.run.proofs.Ran.{ran_parts, ran_iff}
use Rattle.jobs.proofs.Opened.{sheet_refused, sheet_kept}
use Rattle.run.proofs.Opened.{run_sheet_refused, run_accepted}
use Rattle.buffers.proofs.Written.{written_front}
use Rattle.fields.proofs.Laws.{Puts, after}
use Rattle.report.specs.Records.{records_in}
use Rattle.report.specs.Report.{text_in, Ran}
use Rattle.report.proofs.Counting.{active_counted, values_counted}
use Rattle.report.proofs.Records.{trace_read}

-- ---- a run's lines from its numbers

module _ (P : Problem) (B : Bounded P) (w : List ℕ) (e : End) (steps : ℕ) (m : Masks) (R : Ran P w e steps m) where
  last : State
  last = after_trace P (full P) (run P (full P))

  actives : count_below 32 (state_of m).active ≡ count_below P.n last.active
  unfolding last
  actives = ap (λ (x : Masks). count_below 32 (state_of x).active) R.last ∙ active_counted P B (trace_fits P (full_fits P) (run P (full P)))

  values : sum_to 32 (λ i. count_below 16 ((state_of m).live i)) ≡ live_count P last
  unfolding last
  values = ap (λ (x : Masks). sum_to 32 (λ i. count_below 16 ((state_of x).live i))) R.last ∙ values_counted P B (trace_fits P (full_fits P) (run P (full P)))

  pub run_text : (n sum a v : ℕ) → n ≡ P.n → sum ≡ size_sum P → a ≡ count_below 32 (state_of m).active → v ≡ sum_to 32 (λ i. count_below 16 ((state_of m).live i))
      → (sheet_word ++ (field n ++ (field sum ++ (10 ∷ []))))
      ++ (step_lines 1 (records_in steps w 1) ++ (end_word e ++ (field steps ++ (field a ++ (field v ++ (10 ∷ []))))))
      ≡ run_lines P
  unfolding run_lines last
  run_text n sum a v p q f g = λ i.
      (sheet_word ++ (field (p i) ++ (field (q i) ++ (10 ∷ []))))
      ++ (step_lines 1 (R.told i) ++ (end_word (R.end i) ++ (field (R.count i) ++ (field ((f ∙ actives) i) ++ (field ((g ∙ values) i) ++ (10 ∷ []))))))

  -- the three parts written one after the other
  pub run_put : (d b₁ b₂ b₃ : List ℕ) (p q r n sum a v : ℕ) → n ≡ P.n → sum ≡ size_sum P → a ≡ count_below 32 (state_of m).active → v ≡ sum_to 32 (λ i. count_below 16 ((state_of m).live i))
      → Puts d 0 (sheet_word ++ (field n ++ (field sum ++ (10 ∷ [])))) b₁ p
      → Puts b₁ p (step_lines 1 (records_in steps w 1)) b₂ q
      → Puts b₂ q (end_word e ++ (field steps ++ (field a ++ (field v ++ (10 ∷ []))))) b₃ r
      → p ≤ length d → q ≤ length b₁ → (b₃ ≡ written d 0 (run_lines P)) × (r ≡ length (run_lines P))
  run_put d b₁ b₂ b₃ p q r n sum a v h i j k x y z l o =
      let t = run_text n sum a v h i j k in
      let u = after d b₁ b₃ 0 p r _ _ x (after b₁ b₂ b₃ p q r _ _ y z o) l in
      (u.0 ∙ ap (written d 0) t, u.1 ∙ zero-add _ ∙ ap length t)

-- ---- what the run's answer says

-- the text of a refused sheet and of one that is read
refused_lines : (s : List ℕ) → (r : _) → read_sheet layout s ≡ Err r → sheet_lines s ≡ refused_line (sheet_number r)
unfolding sheet_lines
refused_lines s r e = sheet_refused s _ _ r e

pub read_lines : (s : List ℕ) → Keeps layout s → sheet_lines s ≡ run_lines (problem_of layout s)
unfolding sheet_lines
read_lines s K = sheet_kept s _ _ K

module _ (s b : List ℕ) (long : 2561 ≤ length b) where
  -- a sheet that is read is worked, in every buffer of 1 + 5 × 512 bytes
  worked : Keeps layout s → run_job s b ≡ run_done (problem_of layout s) b
  worked K = run_accepted s b K (omega (arith, sizes_most (problem_of layout s) (problem_bounded s K)))

  module _ (x : RunAnswer) (a : x ≡ (run_job s b).answer) where
    pub done_keeps : (e : End) (k n : ℕ) → x.outcome ≡ ran e k n → Keeps layout s
    done_keeps e k n o = ((ran_iff s b (ran e k n)).0 (ap (λ (y : RunAnswer). y.outcome) (sym a) ∙ o)).0

    pub refused_text : (r : RunRefusal) → x.outcome ≡ Err r → refused_line (run_refusal_number r) ≡ sheet_lines s
    unfolding run_done
    refused_text r o = go (read_sheet layout s) refl
      where
        go : (y : SheetRead) → read_sheet layout s ≡ y → refused_line (run_refusal_number r) ≡ sheet_lines s
        go (Ok r) h =
            let q = ap (λ (y : RunResult). y.answer.outcome) (worked (keeps layout s r.variables r.blocks h)) in
            let z : ◌≡◌ {A = ℕ} 0 1 = cc (ap (λ (y : RunAnswer). y.outcome) a) in absurd (omega arith)
        go (Err t) h =
            let q = ap (λ (y : RunResult). y.answer.outcome) (run_sheet_refused s b t h) in
            let z : r ≡ Sheet t = cc (ap (λ (y : RunAnswer). y.outcome) a) in
            ap (λ (y : RunRefusal). refused_line (run_refusal_number y)) z ∙ sym (refused_lines s t h)

    pub done_ran : (e : End) (k n : ℕ) → x.outcome ≡ ran e k n → (w : List ℕ) → w ≡ (run_job s b).buffer → Ran (problem_of layout s) w e k x.state
    unfolding run_done
    done_ran e k n o w h =
        let K = done_keeps e k n o in
        let P = problem_of layout s in
        let q = ap (λ (y : RunResult). y.answer.outcome) (worked K) in
        let f : ran e k n ≡ ran (end_of P (after_trace P (full P) (run P (full P)))) (length (run P (full P))) (length (trace_bytes (run P (full P)))) = cc (ap (λ (y : RunAnswer). y.outcome) a) in
        let parts = ran_parts f in
        let c = parts.1 in
        record {
          end = parts.0;
          count = c;
          few = omega (arith, run_short P, sizes_most P (problem_bounded s K));
          last = ap (λ (y : RunAnswer). y.state) a ∙ ap (λ (y : RunResult). y.answer.state) (worked K);
          told = (λ i. records_in (c i) ((h ∙ ap (λ (y : RunResult). y.buffer) (worked K)) i) 1) ∙ trace_read (run P (full P)) b;
        }

-- ---- a text by the room for it

module _ (need : ℕ) (w d : List ℕ) where
  in_short : length d < need → text_in need w (length d) ≡ []
  unfolding text_in
  in_short l = rw (lt-ltb (length d) need l, text_in)

  in_whole : need ≤ length d → text_in need w (length d) ≡ w
  unfolding text_in
  in_whole l = rw (le-ltb (length d) need l, text_in)

  -- what stands in the buffer d then, and how many bytes were written
  pub text_short : length d < need → (d ≡ fronted (text_in need w (length d)) d) × (0 ≡ length (text_in need w (length d)))
  text_short l = let e = in_short l in (ap (λ (x : List ℕ). fronted x d) (sym e), ap length (sym e))

  pub text_whole : (b : List ℕ) (r : ℕ) → need ≤ length d → (b ≡ written d 0 w) × (r ≡ length w) → (b ≡ fronted (text_in need w (length d)) d) × (r ≡ length (text_in need w (length d)))
  text_whole b r l p =
      let e = in_whole l in
      (p.0 ∙ written_front d w ∙ ap (λ (x : List ℕ). fronted x d) (sym e), p.1 ∙ ap length (sym e))
