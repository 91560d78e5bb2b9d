-- What the exported function that picks a plan answers, as one number, and what it leaves in the buffers lent to it.
use Rattle.std.specs.Prelude.{Bool, true, false, List, ℕ, ◌+◌, ◌*◌, ◌<◌, eqb, length, Err, Ok}
use Rattle.bounded.specs.Quantifiers.{one_if}
use Rattle.problem.specs.declared.End.{End}
use Rattle.problem.specs.declared.Masks.{Masks}
use Rattle.run.specs.Numbers.{end_number}
use Rattle.boundary.specs.State.{state_length, masks_bytes}
use Rattle.boundary.specs.Numbers.{bad_state}
use Rattle.pick.specs.Pick.{pick_number, pick_job, PickOutcome}

-- the answer and the three buffers
pub record PickCall : Type 0 where
  pub answer : ℕ
  pub trace : List ℕ
  pub plan : List ℕ
  pub state : List ℕ

-- as the run's answer, and y above it: bits 0-7 the refusal, bits 8-15 the end, bits 16-31 the steps, bits 32-47 the bytes written, bit 48
-- whether a plan was written
abbrev pub done_number : (y : Bool) → End → (k w : ℕ) → ℕ
done_number y e k w = 256 * (end_number e + 256 * (k + 65536 * (w + 65536 * one_if y)))

abbrev pub crossed_number : PickOutcome → ℕ
crossed_number (Ok c) = done_number c.plan c.run.end c.run.steps c.run.written
crossed_number (Err r) = pick_number r

-- the state's buffer b: the last state m is written with a plan and with none
abbrev pub crossed_state : PickOutcome → Masks → List ℕ → List ℕ
crossed_state (Ok _) m b = masks_bytes m
crossed_state (Err r) m b = b

-- the sheet s, the trace's buffer t, the plan's buffer p and the state's buffer b: the length of b first, then the job
unfoldable pub pick_call : (s t p b : List ℕ) → PickCall
pick_call s t p b =
    elim (eqb (length b) state_length) [
      | false ↦ record { answer = bad_state; trace = t; plan = p; state = b }
      | true ↦ record {
        answer = crossed_number (pick_job s t p).answer.outcome;
        trace = (pick_job s t p).trace;
        plan = (pick_job s t p).plan;
        state = crossed_state (pick_job s t p).answer.outcome (pick_job s t p).answer.state b;
      }
    ]

-- the steps and the bytes written have room: two bytes each
abbrev pub PickFits : PickOutcome → Type 0
PickFits (Ok c) = (c.run.steps < 65536) × (c.run.written < 65536)
PickFits (Err r) = Unit {0}
