-- Demands 1 and 2 of putting back, over the definitions that its contracts cite. Assumes nothing.
use mathlib.Core.Path.{◌≡◌, refl, sym, ap, ◌∙◌, subst}
use mathlib.Core.Bool.{◌||◌}
use mathlib.Core.List.{List}
use mathlib.Core.Logic.{◌↔◌}
use Prim.Native.Nat.{ℕ}
use lib.Dec.{T, eqb}
use lib.ListN.{length}
use Rattle.bounded.specs.Quantifiers.{all_below}
use Rattle.bounded.proofs.Truth.{T_true, and_iff}
use Rattle.bounded.proofs.Table.{get_d_tab}
use Rattle.problem.specs.Problem.{Problem, full}
use Rattle.problem.specs.Run.{lawful_trace, after_trace, run}
use Rattle.problem.specs.PutBack.{solves, solves_whole, undo_trace, plan_of}
use Rattle.problem.specs.declared.Record.{Record}
use Rattle.problem.proofs.Reflect.{full_fits}
use Rattle.problem.specs.Sentences.{Active, Live, Fits, Solvable}
use Rattle.problem.proofs.Published.{trace_published}
use Rattle.problem.proofs.Sound.{solves_iff, solves_whole_iff}
use Rattle.problem.proofs.Trace.{trace_fits, trace_undone, trace_solvable}
use Rattle.problem.proofs.Run.{run_lawful}
use Rattle.sheet.specs.Sheet.{layout, variables_of, Keeps}
use Rattle.sheet.specs.Relation.{problem_of}
use Rattle.trace.specs.Trace.{trace_bytes}
use Rattle.put_back.specs.PutBack.{PutBackResult, put_back_done, Lawful, plan_fits, after_check, put_back_over, put_back_job}
use Rattle.std.specs.Prelude.{Ok}
use Rattle.jobs.proofs.Opened.{variables_of_lem}
use Rattle.put_back.proofs.Opened.{put_back_checked_over, put_back_kept}
use Rattle.put_back.proofs.Checked.{taken_iff}
use Rattle.put_back.specs.Causes.{PutBack}
use Rattle.putting_back.proofs.Causes.{put_back_iff_over, put_back_iff}

-- ---- what an accepted call shows

-- the plan of a lawful trace is judged last
fits_done : (P : Problem) (u : List Record) (p b : List ℕ) → T (plan_fits P (after_trace P (full P) u) p) → after_check P p b (Lawful u) ≡ put_back_done P u p
fits_done P u p b h = rw (T_true (plan_fits P (after_trace P (full P) u) p) h, after_check)

-- ---- over a problem

-- it is accepted only where the lengths are right, the trace is lawful and the plan is one of what is left
pub put_back_accepted_over : (P : Problem) (t p b : List ℕ) → (put_back_over P t p b).answer ≡ Ok tt → (length p ≡ P.n) × (length b ≡ P.n) × PutBack P t p (put_back_over P t p b)
put_back_accepted_over P t p b h =
    let x = (put_back_iff_over P t p b (Ok tt)).0 h in
    let u = x.1.0 in (
      x.0.0,
      x.0.1,
      record {
        records = u;
        bytes = x.1.1;
        lawful = x.1.2;
        published = trace_published (full_fits P) u x.1.2;
        plan = x.1.3;
        result = put_back_checked_over P t p b x.0.0 x.0.1 ∙ ap (after_check P p b) ((taken_iff P t u).1 (x.1.1, x.1.2)) ∙ fits_done P u p b x.1.3;
      },
    )

-- and it is accepted wherever that holds: whoever wrote the lawful trace
pub put_back_accepts_over : (P : Problem) (u : List Record) (p b : List ℕ) → length p ≡ P.n → length b ≡ P.n
    → T (lawful_trace P (full P) u) → T (plan_fits P (after_trace P (full P) u) p) → put_back_over P (trace_bytes u) p b ≡ put_back_done P u p
put_back_accepts_over P u p b e f l h = put_back_checked_over P (trace_bytes u) p b e f ∙ ap (after_check P p b) ((taken_iff P (trace_bytes u) u).1 (refl, l)) ∙ fits_done P u p b h

-- the run's own trace, with any plan of what the run left
pub run_put_back_over : (P : Problem) (p b : List ℕ) → length p ≡ P.n → length b ≡ P.n → T (plan_fits P (after_trace P (full P) (run P (full P))) p)
    → put_back_over P (trace_bytes (run P (full P))) p b ≡ put_back_done P (run P (full P)) p
run_put_back_over P p b e f h = put_back_accepts_over P (run P (full P)) p b e f (run_lawful P (full P)) h

module _ (P : Problem) (t p : List ℕ) (x : PutBackResult) (A : PutBack P t p x) where
  left_fits : Fits P (after_trace P (full P) A.records)
  left_fits = trace_fits P (full_fits P) A.records

  -- "each plan of what is left is put back into a plan of the full sheet": the bytes of the result
  pub put_back_plan : T (solves_whole P (plan_of x.result))
  unfolding plan_fits
  put_back_plan =
      let h = (and_iff (all_below P.n (λ i. (after_trace P (full P) A.records).active i || eqb (plan_of p i) 255)) (solves P (after_trace P (full P) A.records) (plan_of p))).0 A.plan in
      let S = trace_undone P (full_fits P) A.records A.lawful (plan_of p) ((solves_iff left_fits (plan_of p)).0 h.1) in
      let at : (i : ℕ) → Active (full P) i → plan_of x.result i ≡ undo_trace P (full P) A.records (plan_of p) i
      = λ i a. ap (λ (y : PutBackResult). plan_of y.result i) A.result ∙ get_d_tab P.n (undo_trace P (full P) A.records (plan_of p)) i 0 ((full_fits P).active_lt i a) in
      (solves_whole_iff P (plan_of x.result)).1
      record {
        live = λ i a. subst (Live (full P) i) (sym (at i a)) (S.live i a);
        ok = λ i j a c d. subst (λ (v : ℕ). T (P.allowed i v j (plan_of x.result j))) (sym (at i a)) (subst (λ (v : ℕ). T (P.allowed i (undo_trace P (full P) A.records (plan_of p) i) j v)) (sym (at j c)) (S.ok i j a c d));
      }

  -- what an accepted trace leaves has a plan exactly when the full sheet has one
  pub put_back_solvable : Solvable P (after_trace P (full P) A.records) ↔ Solvable P (full P)
  put_back_solvable = trace_solvable P (full_fits P) A.records A.lawful

-- ---- over a sheet

-- the job accepts only where the sheet keeps the layout, the lengths are right, the trace is lawful and the plan is one of what is left
pub put_back_accepted : (s t p b : List ℕ) → (put_back_job s t p b).answer ≡ Ok tt
    → Keeps layout s × (length p ≡ variables_of s) × (length b ≡ variables_of s) × PutBack (problem_of layout s) t p (put_back_job s t p b)
put_back_accepted s t p b h =
    let K = ((put_back_iff s t p b (Ok tt)).0 h).0 in
    let q = put_back_kept s t p b K in
    let x = put_back_accepted_over (problem_of layout s) t p b (rw q at h) in
    (K, x.0 ∙ variables_of_lem s, x.1 ∙ variables_of_lem s, rw q x.2)

-- and it accepts wherever that holds: whoever wrote the lawful trace
pub put_back_accepts : (s : List ℕ) (u : List Record) (p b : List ℕ) → Keeps layout s → length p ≡ variables_of s → length b ≡ variables_of s
    → T (lawful_trace (problem_of layout s) (full (problem_of layout s)) u)
    → T (plan_fits (problem_of layout s) (after_trace (problem_of layout s) (full (problem_of layout s)) u) p)
    → put_back_job s (trace_bytes u) p b ≡ put_back_done (problem_of layout s) u p
put_back_accepts s u p b K e f l h = put_back_kept s (trace_bytes u) p b K ∙ put_back_accepts_over (problem_of layout s) u p b (e ∙ sym (variables_of_lem s)) (f ∙ sym (variables_of_lem s)) l h

-- the run's own trace, with any plan of what the run left
pub run_put_back : (s p b : List ℕ) → Keeps layout s → length p ≡ variables_of s → length b ≡ variables_of s
    → T (plan_fits (problem_of layout s) (after_trace (problem_of layout s) (full (problem_of layout s)) (run (problem_of layout s) (full (problem_of layout s)))) p)
    → put_back_job s (trace_bytes (run (problem_of layout s) (full (problem_of layout s)))) p b ≡ put_back_done (problem_of layout s) (run (problem_of layout s) (full (problem_of layout s))) p
run_put_back s p b K e f h = put_back_accepts s (run (problem_of layout s) (full (problem_of layout s))) p b K e f (run_lawful (problem_of layout s) (full (problem_of layout s))) h
