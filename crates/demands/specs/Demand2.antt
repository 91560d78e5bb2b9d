-- Demand 2, sentence by sentence: of the jobs, and of the calls from C over the bytes that they leave. Its one theorem is proofs/Demand2.antt.
use Rattle.std.specs.Prelude.{◌≡◌, List, [], ◌∷◌, ◌++◌, ◌↔◌, ◌⊎◌, ℕ, ◌+◌, ◌*◌, ◌≤◌, T, length, Ok}
use Rattle.problem.specs.Problem.{size_sum}
use Rattle.problem.specs.Run.{lawful, lawful_trace, after, after_trace}
use Rattle.problem.specs.PutBack.{solves_whole, plan_of}
use Rattle.problem.specs.Masks.{state_of}
use Rattle.problem.specs.Sentences.{Solvable, NoneEmpty}
use Rattle.problem.specs.Causes.{SomeEmpty}
use Rattle.problem.specs.Published.{Published, StepPublished}
use Rattle.problem.specs.Solutions.{solution_count}
use Rattle.problem.specs.declared.Record.{Record}
use Rattle.problem.specs.declared.Record.TheVariants.{Snake}
use Rattle.sheet.specs.Sheet.{layout, variables_of, Keeps}
use Rattle.jobs.specs.Sheets.{sheet_e}
use Rattle.trace.specs.Trace.{trace_bytes}
use Rattle.run.specs.Run.{run_job}
use Rattle.run.specs.Call.{run_call, Asked, trace_left, sheet_left}
use Rattle.put_back.specs.PutBack.{plan_fits, put_back_job}
use Rattle.put_back.specs.Causes.{PutBack}
use Rattle.put_back.specs.Call.{put_back_call}
use Rattle.demands.specs.Left.{sheet_problem, full_sheet, run_records, left_by_run}

pub record Demand2 : Type 0 where
  -- ---- "Each step is lawful under the published rules that document 01 condenses": the records of a run, and those of every trace that putting
  -- back accepts (`PutBack`, fields `lawful` and `published`). Lawful is what the papers' rules are, and a step does what they have it do.

  pub lawful_steps : (s : List ℕ) → T (lawful_trace (sheet_problem s) (full_sheet s) (run_records s))
  pub published_steps : (s : List ℕ) (before : List Record) (r : Record) (rest : List Record) → run_records s ≡ before ++ (r ∷ rest)
      → Published (sheet_problem s) (after_trace (sheet_problem s) (full_sheet s) before) r
  pub accepted_steps : (s t p b : List ℕ) → (put_back_job s t p b).answer ≡ Ok tt → PutBack (sheet_problem s) t p (put_back_job s t p b)
  pub lawful_published : (s : List ℕ) (u : List Record) (r : Record)
      → T (lawful (sheet_problem s) (after_trace (sheet_problem s) (full_sheet s) u) r)
      ↔ (NoneEmpty (sheet_problem s) (after_trace (sheet_problem s) (full_sheet s) u) × Published (sheet_problem s) (after_trace (sheet_problem s) (full_sheet s) u) r)
  pub step_published : (s : List ℕ) (u : List Record) (r : Record)
      → StepPublished (sheet_problem s) (after_trace (sheet_problem s) (full_sheet s) u) r (after (sheet_problem s) (after_trace (sheet_problem s) (full_sheet s) u) r)
  -- ---- "and at the end no rule holds or some item has no setting left"

  pub settled : (s : List ℕ) → ((r : Record) → Published (sheet_problem s) (left_by_run s) r → ⊥) ⊎ SomeEmpty (sheet_problem s) (left_by_run s)
  -- ---- "The sheet left has a plan exactly when the full sheet has one": the state that the run answers, and what any lawful trace leaves

  pub run_keeps : (s b : List ℕ) → Keeps layout s → 1 + 5 * size_sum (sheet_problem s) ≤ length b
      → Solvable (sheet_problem s) (state_of (run_job s b).answer.state) ↔ Solvable (sheet_problem s) (full_sheet s)
  pub trace_keeps : (s : List ℕ) (u : List Record) → T (lawful_trace (sheet_problem s) (full_sheet s) u)
      → Solvable (sheet_problem s) (after_trace (sheet_problem s) (full_sheet s) u) ↔ Solvable (sheet_problem s) (full_sheet s)
  -- ---- "and each plan of what is left is put back into a plan of the full sheet, whoever wrote the lawful trace"

  pub put_back : (s : List ℕ) → Keeps layout s → (u : List Record) → T (lawful_trace (sheet_problem s) (full_sheet s) u)
      → (p b : List ℕ) → length p ≡ variables_of s → length b ≡ variables_of s → T (plan_fits (sheet_problem s) (after_trace (sheet_problem s) (full_sheet s) u) p)
      → ((put_back_job s (trace_bytes u) p b).answer ≡ Ok tt) × T (solves_whole (sheet_problem s) (plan_of (put_back_job s (trace_bytes u) p b).result))
  -- ---- "How many plans there are is not wanted, since taking an item out can raise that count": sheet E

  pub raised : (solution_count (sheet_problem sheet_e) (full_sheet sheet_e) ≡ 2)
      × (solution_count (sheet_problem sheet_e) (after_trace (sheet_problem sheet_e) (full_sheet sheet_e) (Snake 0 0 ∷ [])) ≡ 8)
  -- ---- the same of calls from C: the bytes that a run leaves are the trace of its records, and its state is the sheet left; so each plan of
  -- that is put back by these bytes, and by the bytes of any lawful trace

  pub call_trace : (s t b : List ℕ) → Asked s t b → trace_left (run_call s t b) ≡ trace_bytes (run_records s)
  pub call_left : (s t b : List ℕ) → Asked s t b → sheet_left (run_call s t b) ≡ left_by_run s
  pub call_keeps : (s t b : List ℕ) → Asked s t b → Solvable (sheet_problem s) (sheet_left (run_call s t b)) ↔ Solvable (sheet_problem s) (full_sheet s)
  pub call_put_back : (s t b : List ℕ) → Asked s t b → (p r : List ℕ) → length p ≡ variables_of s → length r ≡ variables_of s
      → T (plan_fits (sheet_problem s) (sheet_left (run_call s t b)) p)
      → ((put_back_call s (trace_left (run_call s t b)) p r).answer ≡ 0) × T (solves_whole (sheet_problem s) (plan_of (put_back_call s (trace_left (run_call s t b)) p r).result))
  pub call_put_back_any : (s t p r : List ℕ) (u : List Record) → Keeps layout s → length p ≡ variables_of s → length r ≡ variables_of s
      → t ≡ trace_bytes u → T (lawful_trace (sheet_problem s) (full_sheet s) u) → T (plan_fits (sheet_problem s) (after_trace (sheet_problem s) (full_sheet s) u) p)
      → ((put_back_call s t p r).answer ≡ 0) × T (solves_whole (sheet_problem s) (plan_of (put_back_call s t p r).result))
