-- Demands 1 and 2 of the run, over the definitions that the run's contracts cite. Assumes nothing.
use mathlib.Core.Path.{◌≡◌, refl, ap, ◌∙◌}
use mathlib.Core.List.{List, [], ◌∷◌}
use Prim.Native.Nat.{ℕ, ◌+◌, ◌*◌, ◌≤◌}
use native.Mathlib.Omega.{arith}
use lib.Dec.{T}
use lib.ListN.{length, length-append}
use Rattle.problem.specs.Problem.{Problem, full, size_sum, none_empty}
use Rattle.problem.specs.Run.{holds, after_trace, run}
use Rattle.problem.specs.Held.{Bounded}
use Rattle.problem.specs.Masks.{state_of}
use Rattle.problem.specs.declared.Record.{Record}
use Rattle.problem.proofs.Apart.{fields_few}
use Rattle.problem.proofs.Reflect.{full_fits}
use Rattle.problem.proofs.Published.{holds_published, run_published}
use Rattle.problem.proofs.Least.{run_least}
use Rattle.problem.proofs.Trace.{trace_fits, trace_undone, trace_solvable, lawful_iff}
use Rattle.problem.proofs.Bridge.{state_back}
use Rattle.problem.proofs.Run.{run_lawful, run_complete, run_short, end_says}
use Rattle.sheet.specs.Sheet.{layout, Keeps}
use Rattle.sheet.specs.Relation.{problem_of}
use Rattle.sheet.proofs.Accepted.{problem_bounded}
use Rattle.trace.specs.Trace.{record_bytes, records_bytes, trace_bytes}
use Rattle.run.specs.Run.{RunResult, run_done, run_over, run_job}
use Rattle.run.specs.declared.RunAnswer.{RunAnswer}
use Rattle.run.specs.Causes.{Worked}
use Rattle.run.proofs.Opened.{run_accepted_over, run_kept}

-- ---- a trace's length

records_length : (t : List Record) → length (records_bytes t) ≤ 5 * length t
unfolding records_bytes
records_length [] = omega arith
records_length (r ∷ t) = omega (arith, length-append (record_bytes r) (records_bytes t), fields_few r, records_length t)

pub trace_length : (t : List Record) → length (trace_bytes t) ≤ 1 + 5 * length t
unfolding trace_bytes
trace_length t = omega (arith, records_length t)

-- ---- what an accepted run shows

-- every problem, with a buffer as long as the format asks, is worked to its end
pub run_worked_over : (P : Problem) (b : List ℕ) → 1 + 5 * size_sum P ≤ length b → Worked P (run P (full P)) (after_trace P (full P) (run P (full P))) b (run_over P b)
unfolding run_done
run_worked_over P b l =
    let t = run P (full P) in
    let e = run_accepted_over P b l in
    let h = run_lawful P (full P) in
    let over : T (none_empty P (after_trace P (full P) t)) → (r : Record) → T (holds P (after_trace P (full P) t) r) → ⊥
    = λ n r x. run_complete P (full_fits P) r ((lawful_iff P (after_trace P (full P) t) r).1 (n, x)) in
    record {
      answer = ap (λ (x : RunResult). x.answer) e;
      buffer = ap (λ (x : RunResult). x.buffer) e;
      few = run_short P;
      room = omega (arith, trace_length t, run_short P);
      reached = refl;
      lawful = h;
      published = run_published (full_fits P);
      least = run_least (full_fits P);
      end = end_says P (trace_fits P (full_fits P) t);
      rest = over;
      settled = λ n r x. over n r ((holds_published (trace_fits P (full_fits P) t) r).1 x);
      plan = trace_solvable P (full_fits P) t h;
      back = λ p A. trace_undone P (full_fits P) t h p A;
    }

-- every sheet that keeps the layout, with a buffer as long as the format asks, is worked to its end
pub run_worked : (s b : List ℕ) → Keeps layout s → 1 + 5 * size_sum (problem_of layout s) ≤ length b
    → Worked (problem_of layout s) (run (problem_of layout s) (full (problem_of layout s))) (after_trace (problem_of layout s) (full (problem_of layout s)) (run (problem_of layout s) (full (problem_of layout s)))) b (run_job s b)
run_worked s b K l = rw (run_kept s b K) (run_worked_over (problem_of layout s) b l)

-- ---- the state left

-- where a table can hold the problem, the masks that an accepted run answers are the state that its records lead to
pub run_left_over : (P : Problem) → Bounded P → (b : List ℕ) → 1 + 5 * size_sum P ≤ length b → state_of (run_over P b).answer.state ≡ after_trace P (full P) (run P (full P))
run_left_over P B b l = ap (λ (x : RunAnswer). state_of x.state) (run_worked_over P b l).answer ∙ state_back P B (trace_fits P (full_fits P) (run P (full P)))

pub run_left : (s b : List ℕ) → Keeps layout s → 1 + 5 * size_sum (problem_of layout s) ≤ length b
    → state_of (run_job s b).answer.state ≡ after_trace (problem_of layout s) (full (problem_of layout s)) (run (problem_of layout s) (full (problem_of layout s)))
run_left s b K l = rw (run_kept s b K) (run_left_over (problem_of layout s) (problem_bounded s K) b l)
