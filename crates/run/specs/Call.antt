-- What the exported run answers, as one number, and what it leaves in the buffers lent to it.
-- The low byte of the answer is the number of the refusal, from 1 to 255, or 0 where there is none. Above it stand the parts of what was done.
use Rattle.std.specs.Prelude.{◌≡◌, true, false, List, ℕ, ◌+◌, ◌*◌, ◌/◌, ◌%◌, ◌≤◌, ◌<◌, eqb, length, take, Err, Ok}
use Rattle.problem.specs.Problem.{State, size_sum}
use Rattle.problem.specs.Masks.{state_of}
use Rattle.problem.specs.declared.Masks.{Masks}
use Rattle.sheet.specs.Sheet.{layout, Keeps}
use Rattle.sheet.specs.Relation.{problem_of}
use Rattle.run.specs.Numbers.{run_refusal_number, end_number, RunOutcome}
use Rattle.run.specs.Run.{run_job}
use Rattle.boundary.specs.State.{state_length, masks_bytes, masks_in}
use Rattle.boundary.specs.Numbers.{bad_state}

-- the answer and the two buffers
pub record RunCall : Type 0 where
  pub answer : ℕ
  pub trace : List ℕ
  pub state : List ℕ

-- the number of what the job answers: bits 0-7 the refusal, bits 8-15 the end, bits 16-31 the steps, bits 32-47 the bytes written
abbrev pub ran_number : RunOutcome → ℕ
ran_number (Err r) = run_refusal_number r
ran_number (Ok a) = 256 * (end_number a.end + 256 * (a.steps + 65536 * a.written))

-- the state's buffer b: the last state m is written, and a refused run writes nothing
abbrev pub ran_state : RunOutcome → Masks → List ℕ → List ℕ
ran_state (Err r) m b = b
ran_state (Ok _) m b = masks_bytes m

-- from what the job answers, its last state m and the trace t as it leaves it; the state's buffer was b
abbrev pub run_crossed : RunOutcome → Masks → (t b : List ℕ) → RunCall
run_crossed o m t b = record { answer = ran_number o; trace = t; state = ran_state o m b }

-- the sheet s, the trace's buffer t and the state's buffer b: the length of b first, then the job
unfoldable pub run_call : (s t b : List ℕ) → RunCall
run_call s t b =
    elim (eqb (length b) state_length) [
      | false ↦ record { answer = bad_state; trace = t; state = b }
      | true ↦ run_crossed (run_job s t).answer.outcome (run_job s t).answer.state (run_job s t).buffer b
    ]

-- the steps and the bytes written have room: two bytes each
abbrev pub RunFits : RunOutcome → Type 0
RunFits (Ok a) = (a.steps < 65536) × (a.written < 65536)
RunFits (Err r) = Unit {0}

-- ---- what it is lent, and what is left

-- the trace that a run leaves: as many bytes from the front of its buffer as its answer says, in bits 32-47
abbrev pub trace_left : RunCall → List ℕ
trace_left x = take (x.answer / 4294967296 % 65536) x.trace

-- the sheet that a run leaves: the items and settings that the state's buffer says
abbrev pub sheet_left : RunCall → State
sheet_left x = state_of (masks_in x.state)

-- what a run is lent: "Every sheet that keeps the layout, [..], lent with a trace as long as the format asks", and a buffer for its state
abbrev pub Asked : (s t b : List ℕ) → Type 0
Asked s t b = Keeps layout s × (1 + 5 * size_sum (problem_of layout s) ≤ length t) × (length b ≡ state_length)
