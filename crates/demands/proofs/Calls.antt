-- Demands 1 and 2 where C and Rust stand, a run and then putting back: from buffer to buffer, over the definitions that the exported functions'
-- contracts cite. Assumes nothing.
use mathlib.Core.Path.{◌≡◌, refl, sym, ap, ◌∙◌, subst}
use mathlib.Core.List.{List}
use mathlib.Core.Logic.{◌↔◌}
use Prim.Native.Nat.{ℕ, ◌/◌, ◌%◌, ◌≤◌}
use native.Mathlib.Omega.{arith}
use lib.Dec.{T}
use lib.ListN.{length, take, replicate, length-replicate}
use lib.Seq.{take-append_seam}
use Rattle.problem.specs.Problem.{Problem, State, full}
use Rattle.problem.specs.Masks.{state_of}
use Rattle.problem.specs.Run.{run, after_trace, end_of}
use Rattle.problem.specs.PutBack.{solves_whole, plan_of}
use Rattle.problem.specs.declared.End.{End}
use Rattle.problem.specs.declared.End.TheVariants as end·
use Rattle.problem.specs.declared.Record.{Record}
use Rattle.problem.specs.Sentences.{Solvable}
use Rattle.sheet.specs.Sheet.{layout, variables_of}
use Rattle.sheet.specs.Relation.{problem_of}
use Rattle.run.specs.Numbers.{end_number, ran}
use Rattle.run.specs.Run.{run_job}
use Rattle.put_back.specs.PutBack.{PutBackResult, plan_fits, put_back_job}
use Rattle.trace.specs.Trace.{trace_bytes}
use Rattle.buffers.specs.Written.{fronted}
use Rattle.run.specs.declared.RunAnswer.{RunAnswer}
use Rattle.std.specs.Prelude.{Ok}
use Rattle.run.proofs.Ran.{ran_iff}
use Rattle.run.proofs.Worked.{run_worked, run_left}
use Rattle.run.specs.Causes.{Worked}
use Rattle.putting_back.proofs.Demands.{put_back_accepted, put_back_plan, run_put_back}
use Rattle.putting_back.proofs.Ends.{impossible_none, solved_fits}
use Rattle.run.specs.Call.{trace_left, sheet_left, Asked, RunCall, run_call}
use Rattle.put_back.specs.Call.{put_back_call}
use Rattle.run.proofs.Call.{run_small, run_says, run_unpacked, run_taken, run_state}
use Rattle.putting_back.proofs.Call.{put_back_zero}

only_impossible : (x : End) → end_number x ≡ end_number end·.Impossible → x ≡ end·.Impossible
only_impossible end·.Impossible e = refl
only_impossible end·.Solved e = absurd (omega arith)
only_impossible end·.Rest e = absurd (omega arith)

only_solved : (x : End) → end_number x ≡ end_number end·.Solved → x ≡ end·.Solved
only_solved end·.Impossible e = absurd (omega arith)
only_solved end·.Solved e = refl
only_solved end·.Rest e = absurd (omega arith)

module _ (s t b : List ℕ) where
  -- the sheet's problem, the run's records and the state that they lead to
  abbrev problem : Problem
  problem = problem_of layout s

  abbrev records : List Record
  records = run problem (full problem)

  abbrev last : State
  last = after_trace problem (full problem) records

  module _ (A : Asked s t b) where
    worked : Worked problem records last t (run_job s t)
    worked = run_worked s t A.0 A.1

    done : (run_job s t).answer.outcome ≡ ran (end_of problem last) (length records) (length (trace_bytes records))
    done = ap (λ (y : RunAnswer). y.outcome) worked.answer

    asked_taken : (run_call s t b).answer % 256 ≡ 0
    asked_taken = (run_unpacked s t b A.2 _ _ _ done).0

    written_small : length (trace_bytes records) ≤ 2561
    written_small = (run_small s t _ refl _ _ _ done).1

    pub trace_left_lem : trace_left (run_call s t b) ≡ trace_bytes records
    trace_left_lem =
        let w = (run_unpacked s t b A.2 _ _ _ done).3 in
        let l = written_small in
        let n : (run_call s t b).answer / 4294967296 % 65536 ≡ length (trace_bytes records) = omega arith in
        let q : (run_call s t b).trace ≡ fronted (trace_bytes records) t = sym (ap (λ (y : RunCall). y.trace) (run_says s t b A.2 _ _ refl refl _ done)) ∙ worked.buffer in
        (λ j. take (n j) (q j)) ∙ take-append_seam (trace_bytes records) _

    pub sheet_left_lem : sheet_left (run_call s t b) ≡ last
    sheet_left_lem = ap state_of (run_state s t b A.2 _ _ _ done) ∙ run_left s t A.0 A.1

    -- "each plan of what is left is put back into a plan of the full sheet": the trace and the state that a run left, whatever bytes were
    -- in its buffers
    pub run_then_put_back : (p r : List ℕ) → length p ≡ variables_of s → length r ≡ variables_of s
        → T (plan_fits (problem_of layout s) (sheet_left (run_call s t b)) p)
        → ((put_back_call s (trace_left (run_call s t b)) p r).answer ≡ 0)
        × T (solves_whole (problem_of layout s) (plan_of (put_back_call s (trace_left (run_call s t b)) p r).result))
    unfolding put_back_call
    run_then_put_back p r m n f =
        let d : (put_back_job s (trace_left (run_call s t b)) p r).answer ≡ Ok tt =
        ap (λ (u : List ℕ). (put_back_job s u p r).answer) trace_left_lem
        ∙ ap (λ (y : PutBackResult). y.answer) (run_put_back s p r A.0 m n (subst (λ (q : State). T (plan_fits problem q p)) sheet_left_lem f)) in
        (put_back_zero s (trace_left (run_call s t b)) p r d, put_back_plan problem _ p _ (put_back_accepted s (trace_left (run_call s t b)) p r d).3)

    -- "The sheet left has a plan exactly when the full sheet has one"
    pub run_keeps_plan : Solvable (problem_of layout s) (sheet_left (run_call s t b)) ↔ Solvable (problem_of layout s) (full (problem_of layout s))
    run_keeps_plan = rw sheet_left_lem worked.plan

  -- "A run [..] with a fault, and no other, is turned away": a caller tells by the answer
  pub run_asked : ((run_call s t b).answer % 256 ≡ 0) ↔ Asked s t b
  run_asked = (λ z. let x = (run_taken s t b).0 z in let y = (ran_iff s t (ran x.1 x.2 x.3)).0 x.4 in (y.0, y.1.0, x.0), asked_taken)

  -- "each plan of what is left is put back into a plan of the full sheet": wherever the run's answer says no refusal
  pub taken_then_put_back : (run_call s t b).answer % 256 ≡ 0 → (p r : List ℕ) → length p ≡ variables_of s → length r ≡ variables_of s
      → T (plan_fits (problem_of layout s) (sheet_left (run_call s t b)) p)
      → ((put_back_call s (trace_left (run_call s t b)) p r).answer ≡ 0)
      × T (solves_whole (problem_of layout s) (plan_of (put_back_call s (trace_left (run_call s t b)) p r).result))
  taken_then_put_back z = run_then_put_back (run_asked.0 z)

  -- ---- what the ends say

  -- the end of an accepted run, as its answer has it in bits 8-15
  abbrev Ends : End → Type 0
  Ends e = (k : ℕ) × (w : ℕ) × ((run_job s t).answer.outcome ≡ ran e k w)

  ended : (n : ℕ) (e : End) → ((x : End) → end_number x ≡ n → x ≡ e) → (run_call s t b).answer % 256 ≡ 0 → (run_call s t b).answer / 256 % 256 ≡ n → Ends e
  ended n e only z a =
      let x = (run_taken s t b).0 z in
      let q : x.1 ≡ e = only x.1 (sym (run_unpacked s t b x.0 x.1 x.2 x.3 x.4).1 ∙ a) in
      (x.2, x.3, x.4 ∙ ap (λ (y : End). ran y x.2 x.3) q)

  -- impossible: the full sheet has no plan
  pub run_impossible : (run_call s t b).answer % 256 ≡ 0 → (run_call s t b).answer / 256 % 256 ≡ end_number end·.Impossible → (p : ℕ → ℕ) → T (solves_whole (problem_of layout s) p) → ⊥
  run_impossible z a = let x = ended (end_number end·.Impossible) end·.Impossible only_impossible z a in impossible_none s t x.0 x.1 x.2

  -- solved: putting back the trace that the run left, with 255 everywhere, gives a plan of the full sheet
  pub run_solved : (run_call s t b).answer % 256 ≡ 0 → (run_call s t b).answer / 256 % 256 ≡ end_number end·.Solved → (r : List ℕ) → length r ≡ variables_of s
      → ((put_back_call s (trace_left (run_call s t b)) (replicate (variables_of s) 255) r).answer ≡ 0)
      × T (solves_whole (problem_of layout s) (plan_of (put_back_call s (trace_left (run_call s t b)) (replicate (variables_of s) 255) r).result))
  run_solved z a r l =
      let x = ended (end_number end·.Solved) end·.Solved only_solved z a in
      let A = run_asked.0 z in
      run_then_put_back A (replicate (variables_of s) 255) r (length-replicate (variables_of s) 255) l
      (subst (λ (q : State). T (plan_fits problem q (replicate (variables_of s) 255))) (sym (sheet_left_lem A)) (solved_fits s t x.0 x.1 x.2))
