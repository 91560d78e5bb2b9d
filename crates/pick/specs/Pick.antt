-- docs/FORMAT.md, "Picking a plan", as a job: lent a problem, a trace buffer and a buffer for the plan; as a job, a sheet and these.
use Rattle.std.specs.Prelude.{Bool, true, false, cond, List, ℕ, eqb, length, replicate, take, Result, Ok, Err}
use Rattle.problem.specs.Problem.{Problem, State, full}
use Rattle.problem.specs.Run.{run, after_trace, end_of}
use Rattle.problem.specs.Masks.{masks_of, empty_masks}
use Rattle.problem.specs.declared.End.{End}
use Rattle.sheet.specs.Sheet.{sheet_number}
use Rattle.trace.specs.Trace.{trace_bytes}
use Rattle.buffers.specs.Written.{fronted}
use Rattle.jobs.specs.WithSheet.{with_sheet}
use Rattle.run.specs.Run.{buffer_short}
use Rattle.put_back.specs.PutBack.{put_back_over}
use Rattle.first_plan.specs.First.{first_plan}
use Rattle.first_plan.specs.declared.Found.{Found}
use Rattle.pick.specs.declared.PickRefusal.{PickRefusal}
use Rattle.pick.specs.declared.PickRefusal.TheVariants.{Sheet, Buffer, ResultLength}
use Rattle.pick.specs.declared.Sought.{Sought}
use Rattle.pick.specs.declared.Picked.{Picked}

-- ---- what picking answers beside the run's last state

-- whether there is a plan, with what the run answers; or why picking is refused
abbrev pub PickOutcome : Type 0
PickOutcome = Result Sought PickRefusal

-- a plan or none, and with either "the answer carries the run's own": the end, the number of steps and the bytes written
abbrev pub outcome_of : Bool → End → (k w : ℕ) → PickOutcome
outcome_of y e k w = Ok (record { plan = y; run = record { end = e; steps = k; written = w } })

-- ---- the format's number for each refusal, in the order of its table; and of an answer, 0 where there is no refusal

abbrev pub pick_number : PickRefusal → ℕ
pick_number (Sheet r) = sheet_number r
pick_number Buffer = 10
pick_number ResultLength = 20

abbrev pub picked_number : PickOutcome → ℕ
picked_number (Ok _) = 0
picked_number (Err r) = pick_number r

-- ---- what is left after the run, and its first plan

-- the state that the run leads to
unfoldable pub left_by : Problem → State
left_by P = after_trace P (full P) (run P (full P))

-- the bytes of the run's trace
abbrev pub run_trace : Problem → List ℕ
run_trace P = trace_bytes (run P (full P))

-- 255 for each item: none has a setting yet
abbrev pub blank : List ℕ
blank = replicate 32 255

-- "searches the items left, lowest item first, lowest setting first": the first plan of what is left, 255 at the items out; or none
unfoldable pub first_left : Problem → Found
first_left P = first_plan P (left_by P) blank

-- it as a lent plan: a byte for each item
abbrev pub left_plan : Problem → List ℕ
left_plan P = take P.n (first_left P).plan

-- ---- the job

-- what the job answers and leaves in the two buffers
pub record PickResult : Type 0 where
  pub answer : Picked
  pub trace : List ℕ
  pub plan : List ℕ

-- "A refused pick answers the number only.", and leaves the buffers as they were
abbrev pub pick_refused : PickRefusal → (b p : List ℕ) → PickResult
pick_refused r b p = record { answer = record { outcome = Err r; state = empty_masks }; trace = b; plan = p }

-- The first plan of what is left is put back into the lent plan p by the run's own trace; where there is none, p stays as it was.
unfoldable pub plan_left : Problem → List ℕ → List ℕ
plan_left P p = cond (first_left P).ok (put_back_over P (run_trace P) (left_plan P) p).result p

-- "In either case the trace holds the run's trace, and the answer carries the run's own: the end, the number of steps, the bytes written and
-- the last state."
unfoldable pub pick_done : Problem → (b p : List ℕ) → PickResult
pick_done P b p =
    record {
      answer = record { outcome = outcome_of (first_left P).ok (end_of P (left_by P)) (length (run P (full P))) (length (run_trace P)); state = masks_of (left_by P) };
      trace = fronted (run_trace P) b;
      plan = plan_left P p;
    }

-- over the problem P with the trace's buffer b and the plan's buffer p: 10, "shorter than 1 + 5 × the sum of the sizes"; then 20, "the lent
-- plan is not n bytes"
unfoldable pub pick_over : Problem → (b p : List ℕ) → PickResult
pick_over P b p =
    elim (buffer_short P b) [
      | true ↦ pick_refused Buffer b p
      | false ↦ elim (eqb (length p) P.n) [ false ↦ pick_refused ResultLength b p | true ↦ pick_done P b p ]
    ]

-- picking over the sheet s
unfoldable pub pick_job : (s b p : List ℕ) → PickResult
pick_job s b p = with_sheet s (λ r. pick_refused (Sheet r) b p) (λ P. pick_over P b p)
