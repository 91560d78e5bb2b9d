-- "the trace buffer holds the trace at its front and its old bytes after that", byte by byte. Assumes nothing.
use mathlib.Core.List.{List}
use Prim.Native.Nat.{ℕ, ◌+◌, ◌*◌, ◌≤◌}
use lib.ListN.{length}
use Rattle.problem.specs.Problem.{Problem, full, size_sum}
use Rattle.problem.specs.Run.{run}
use Rattle.sheet.specs.Sheet.{layout, Keeps}
use Rattle.sheet.specs.Relation.{problem_of}
use Rattle.trace.specs.Trace.{trace_bytes}
use Rattle.run.specs.Run.{run_over, run_job}
use Rattle.run.proofs.Opened.{run_kept}
use Rattle.run.proofs.Worked.{run_worked_over}
use Rattle.buffers.proofs.Written.{fronted_bytes}
use Rattle.buffers.specs.Written.{AtFront}

-- the buffer of an accepted run
pub run_bytes_over : (P : Problem) (b : List ℕ) → 1 + 5 * size_sum P ≤ length b → AtFront (trace_bytes (run P (full P))) b (run_over P b).buffer
run_bytes_over P b l = let x = run_worked_over P b l in rw x.buffer (fronted_bytes (trace_bytes (run P (full P))) b x.room)

pub run_bytes : (s b : List ℕ) → Keeps layout s → 1 + 5 * size_sum (problem_of layout s) ≤ length b
    → AtFront (trace_bytes (run (problem_of layout s) (full (problem_of layout s)))) b (run_job s b).buffer
run_bytes s b K l = rw (run_kept s b K) (run_bytes_over (problem_of layout s) b l)
