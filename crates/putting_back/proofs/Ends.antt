-- What the ends of a run say of the full problem, and of the full sheet. Assumes nothing.
use mathlib.Core.Path.{◌≡◌, sym, ap, ◌∙◌, subst}
use mathlib.Core.Bool.{◌||◌}
use mathlib.Core.List.{List}
use mathlib.Core.Logic.{inr}
use Prim.Native.Nat.{ℕ}
use lib.Dec.{T, eqb}
use lib.ListN.{length, take, replicate, length-replicate, get_or-replicate}
use lib.Seq.{take_at}
use Rattle.bounded.specs.Quantifiers.{all_below}
use Rattle.bounded.proofs.Truth.{and_iff, or_iff, eqb_iff}
use Rattle.bounded.proofs.Quantifiers.{all_iff}
use Rattle.problem.specs.Problem.{Problem, State, full}
use Rattle.problem.specs.Run.{after_trace, run}
use Rattle.problem.specs.PutBack.{solves, solves_whole, plan_of}
use Rattle.problem.specs.declared.Record.{Record}
use Rattle.problem.specs.declared.End.{End}
use Rattle.problem.specs.declared.End.TheVariants.{Impossible, Solved}
use Rattle.problem.proofs.Reflect.{full_fits}
use Rattle.problem.specs.Sentences.{EndSays}
use Rattle.problem.proofs.Sound.{solves_iff, solves_whole_iff}
use Rattle.problem.proofs.Trace.{trace_fits}
use Rattle.sheet.specs.Sheet.{layout, variables_of, Keeps}
use Rattle.sheet.specs.Relation.{problem_of}
use Rattle.run.specs.Run.{run_over, run_job}
use Rattle.trace.specs.Trace.{trace_bytes}
use Rattle.put_back.specs.PutBack.{PutBackResult, plan_fits, put_back_over, put_back_job}
use Rattle.run.specs.Numbers.{ran}
use Rattle.std.specs.Prelude.{Ok}
use Rattle.run.proofs.Opened.{run_kept}
use Rattle.put_back.proofs.Opened.{put_back_kept}
use Rattle.run.proofs.Ran.{ran_iff_over, ran_iff}
use Rattle.run.specs.Causes.{RunCauseOver, Worked}
use Rattle.run.proofs.Worked.{run_worked_over}
use Rattle.putting_back.proofs.Demands.{put_back_accepted_over, put_back_plan, run_put_back_over}

-- ---- over a problem

module _ (P : Problem) (b : List ℕ) where
  abbrev records : List Record
  records = run P (full P)

  abbrev last : State
  last = after_trace P (full P) records

  module _ (e : End) (k w : ℕ) (o : (run_over P b).answer.outcome ≡ ran e k w) where
    cause : RunCauseOver P b (ran e k w)
    cause = (ran_iff_over P b (ran e k w)).0 o

    worked : Worked P records last b (run_over P b)
    worked = run_worked_over P b cause.0

    says : EndSays last e
    says = subst (EndSays last) (sym cause.1.0) worked.end

    -- the bytes that the answer counts, from the front of the buffer
    trace_left_lem : take w (run_over P b).buffer ≡ trace_bytes records
    trace_left_lem = ap (take w) worked.buffer ∙ take_at (trace_bytes records) _ w (sym cause.1.1.1)

  -- impossible: the problem has no plan
  pub impossible_none_over : (k w : ℕ) → (run_over P b).answer.outcome ≡ ran Impossible k w → (p : ℕ → ℕ) → T (solves_whole P p) → ⊥
  impossible_none_over k w o p t =
      let x = says Impossible k w o in
      let y = (worked Impossible k w o).plan.1 (p, (solves_whole_iff P p).0 t) in
      x.2 (y.0 x.0) (y.1.live x.0 x.1)

  -- solved: 255 everywhere is a plan for no items
  pub solved_fits_over : (k w : ℕ) → (run_over P b).answer.outcome ≡ ran Solved k w → T (plan_fits P last (replicate P.n 255))
  unfolding plan_fits
  solved_fits_over k w o =
      let no = says Solved k w o in
      let p : List ℕ = replicate P.n 255 in
      (and_iff (all_below P.n (λ i. last.active i || eqb (plan_of p i) 255)) (solves P last (plan_of p))).1 (
        (all_iff P.n (λ i. last.active i || eqb (plan_of p i) 255)).1
            (λ i l. (or_iff (last.active i) (eqb (plan_of p i) 255)).1 (inr ((eqb_iff _ 255).1 (get_or-replicate P.n i 255 0 l)))),
        (solves_iff (trace_fits P (full_fits P) records) (plan_of p)).1 record { live = λ i a. absurd (no i a); ok = λ i j a c d. absurd (no i a) },
      )

  -- solved: the run's trace, put back with 255 everywhere, gives a plan
  pub solved_put_back_over : (k w : ℕ) → (run_over P b).answer.outcome ≡ ran Solved k w → (r : List ℕ) → length r ≡ P.n
      → ((put_back_over P (take w (run_over P b).buffer) (replicate P.n 255) r).answer ≡ Ok tt)
      × T (solves_whole P (plan_of (put_back_over P (take w (run_over P b).buffer) (replicate P.n 255) r).result))
  solved_put_back_over k w o r l =
      let p : List ℕ = replicate P.n 255 in
      let t = take w (run_over P b).buffer in
      let d : (put_back_over P t p r).answer ≡ Ok tt =
      ap (λ (u : List ℕ). (put_back_over P u p r).answer) (trace_left_lem Solved k w o)
      ∙ ap (λ (y : PutBackResult). y.answer) (run_put_back_over P p r (length-replicate P.n 255) l (solved_fits_over k w o)) in
      (d, put_back_plan P t p _ (put_back_accepted_over P t p r d).2)

  -- solved: so the problem has a plan
  pub solved_some_over : (k w : ℕ) → (run_over P b).answer.outcome ≡ ran Solved k w → (p : ℕ → ℕ) × T (solves_whole P p)
  solved_some_over k w o = (_, (solved_put_back_over k w o (replicate P.n 0) (length-replicate P.n 0)).1)

-- ---- over a sheet

module _ (s b : List ℕ) where
  abbrev problem : Problem
  problem = problem_of layout s

  -- an accepted run's sheet keeps the layout, and the run is that over its problem
  kept : (e : End) (k w : ℕ) → (run_job s b).answer.outcome ≡ ran e k w → Keeps layout s × ((run_over problem b).answer.outcome ≡ ran e k w)
  kept e k w o = let K = ((ran_iff s b (ran e k w)).0 o).0 in (K, rw (run_kept s b K) at o)

  -- impossible: the full sheet has no plan
  pub impossible_none : (k w : ℕ) → (run_job s b).answer.outcome ≡ ran Impossible k w → (p : ℕ → ℕ) → T (solves_whole problem p) → ⊥
  impossible_none k w o = impossible_none_over problem b k w (kept Impossible k w o).1

  -- solved: 255 everywhere is a plan for no items
  pub solved_fits : (k w : ℕ) → (run_job s b).answer.outcome ≡ ran Solved k w
      → T (plan_fits problem (after_trace problem (full problem) (run problem (full problem))) (replicate (variables_of s) 255))
  unfolding problem_of
  solved_fits k w o = solved_fits_over problem b k w (kept Solved k w o).1

  -- solved: the run's trace, put back with 255 everywhere, gives a plan of the full sheet
  pub solved_put_back : (k w : ℕ) → (run_job s b).answer.outcome ≡ ran Solved k w → (r : List ℕ) → length r ≡ variables_of s
      → ((put_back_job s (take w (run_job s b).buffer) (replicate (variables_of s) 255) r).answer ≡ Ok tt)
      × T (solves_whole problem (plan_of (put_back_job s (take w (run_job s b).buffer) (replicate (variables_of s) 255) r).result))
  unfolding problem_of
  solved_put_back k w o r =
      let x = kept Solved k w o in
      let q = put_back_kept s (take w (run_over problem b).buffer) (replicate (variables_of s) 255) r x.0 in
      rw (run_kept s b x.0, q) (solved_put_back_over problem b k w x.1 r)

  -- solved: so the full sheet has a plan
  pub solved_some : (k w : ℕ) → (run_job s b).answer.outcome ≡ ran Solved k w → (p : ℕ → ℕ) × T (solves_whole problem p)
  solved_some k w o = solved_some_over problem b k w (kept Solved k w o).1
