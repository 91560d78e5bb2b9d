-- The run: lent a problem and a trace buffer; as a job, a sheet and a trace buffer. Its answer, and the buffer afterwards.
use Rattle.std.specs.Prelude.{Bool, true, false, List, ℕ, ◌+◌, ◌*◌, ltb, length, Err}
use Rattle.problem.specs.Problem.{Problem, full, size_sum}
use Rattle.problem.specs.Run.{run, after_trace, end_of}
use Rattle.problem.specs.Masks.{masks_of, empty_masks}
use Rattle.problem.specs.declared.Record.{Record}
use Rattle.trace.specs.Trace.{trace_bytes}
use Rattle.buffers.specs.Written.{fronted}
use Rattle.jobs.specs.WithSheet.{with_sheet}
use Rattle.run.specs.declared.RunAnswer.{RunAnswer}
use Rattle.run.specs.declared.RunRefusal.{RunRefusal}
use Rattle.run.specs.declared.RunRefusal.TheVariants.{Sheet, Buffer}
use Rattle.run.specs.Numbers.{ran}

-- what the job answers and leaves in the buffer
pub record RunResult : Type 0 where
  pub answer : RunAnswer
  pub buffer : List ℕ

-- "A refused run answers the number only", and leaves the buffer as it was
abbrev pub run_refused : RunRefusal → List ℕ → RunResult
run_refused r b = record { answer = record { outcome = Err r; state = empty_masks }; buffer = b }

-- "The run answers with the end, the number of steps, the bytes written and the last state; the trace buffer holds the trace at its front
-- and its old bytes after that." t are its records.
abbrev pub ran_through : Problem → (t : List Record) → List ℕ → RunResult
ran_through P t b =
    record {
      answer = record { outcome = ran (end_of P (after_trace P (full P) t)) (length t) (length (trace_bytes t)); state = masks_of (after_trace P (full P) t) };
      buffer = fronted (trace_bytes t) b;
    }

unfoldable pub run_done : Problem → List ℕ → RunResult
run_done P b = ran_through P (run P (full P)) b

-- 10: "shorter than 1 + 5 × the sum of the sizes"
abbrev pub buffer_short : Problem → List ℕ → Bool
buffer_short P b = ltb (length b) (1 + 5 * size_sum P)

-- the run over the problem P with the buffer b: 10, and otherwise P is worked
unfoldable pub run_over : Problem → List ℕ → RunResult
run_over P b = elim (buffer_short P b) [ true ↦ run_refused Buffer b | false ↦ run_done P b ]

-- the run of the sheet s with the buffer b
unfoldable pub run_job : List ℕ → List ℕ → RunResult
run_job s b = with_sheet s (λ r. run_refused (Sheet r) b) (λ P. run_over P b)
