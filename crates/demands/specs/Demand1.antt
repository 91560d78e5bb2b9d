-- Demand 1, sentence by sentence: of the jobs, and of the calls from C over the bytes that they leave. Its one theorem is proofs/Demand1.antt.
-- "without an index or a sum going astray" is the checker's verdict on every function, and no field of this record.
use Rattle.std.specs.Prelude.{◌≡◌, List, ◌↔◌, ◌≢◌, ℕ, ◌+◌, ◌*◌, ◌%◌, ◌≤◌, length, Err}
use Rattle.problem.specs.Problem.{size_sum}
use Rattle.problem.specs.Run.{end_of}
use Rattle.problem.specs.Sentences.{EndSays}
use Rattle.problem.specs.Masks.{masks_of, Proper}
use Rattle.sheet.specs.Sheet.{layout, read_sheet, Keeps, SheetRead}
use Rattle.sheet.specs.Causes.{ReadCause}
use Rattle.sheet.specs.Refusals as sheet·
use Rattle.trace.specs.Trace.{trace_bytes}
use Rattle.buffers.specs.Written.{fronted}
use Rattle.boundary.specs.State.{state_length}
use Rattle.boundary.specs.Numbers.{bad_state, bad_hand_state}
use Rattle.run.specs.Numbers.{run_number, RunOutcome, ran}
use Rattle.run.specs.Run.{run_job}
use Rattle.run.specs.Causes.{RunCause}
use Rattle.run.specs.Call.{run_call, Asked}
use Rattle.run.specs.Refusals as run·
use Rattle.run.specs.declared.RunRefusal.{RunRefusal}
use Rattle.hand.specs.Numbers.{call_number, CallOutcome}
use Rattle.hand.specs.Hand.{call_job}
use Rattle.hand.specs.Causes.{Cause}
use Rattle.hand.specs.Call.{hand_state_length, hand_in, hand_call}
use Rattle.hand.specs.Refusals as hand·
use Rattle.hand.specs.declared.HandState.{HandState}
use Rattle.hand.specs.declared.HandRefusal.{HandRefusal}
use Rattle.put_back.specs.Numbers.{put_back_number, PutBackOutcome}
use Rattle.put_back.specs.PutBack.{put_back_job}
use Rattle.put_back.specs.Causes.{BackCause}
use Rattle.put_back.specs.Call.{put_back_call}
use Rattle.put_back.specs.Refusals as back·
use Rattle.put_back.specs.declared.PutBackRefusal.{PutBackRefusal}
use Rattle.demands.specs.Left.{sheet_problem, run_records, left_by_run}

pub record Demand1 : Type 0 where
  -- ---- "Every sheet that keeps the layout, up to 32 items of up to 16 settings, lent with a trace as long as document 01 asks, is worked to
  -- its end [..], in no more steps than it lists settings."

  pub sizes : (s : List ℕ) → Keeps layout s → ((sheet_problem s).n ≤ 32) × ((i : ℕ) → (sheet_problem s).size i ≤ 16)
  pub worked : (s b : List ℕ) → Keeps layout s → 1 + 5 * size_sum (sheet_problem s) ≤ length b
      → ((run_job s b).answer ≡ record { outcome = ran (end_of (sheet_problem s) (left_by_run s)) (length (run_records s)) (length (trace_bytes (run_records s))); state = masks_of (left_by_run s) })
      × ((run_job s b).buffer ≡ fronted (trace_bytes (run_records s)) b)
  pub ended : (s : List ℕ) → EndSays (left_by_run s) (end_of (sheet_problem s) (left_by_run s))
  pub few : (s : List ℕ) → length (run_records s) ≤ size_sum (sheet_problem s)
  -- ---- "A run, hand call or putting back with a fault, and no other, is turned away under the one number that document 01 gives for its
  -- first fault": each answer is given for its cause, and no cause for another; a sheet's own faults come first in each

  pub read_fault : (s : List ℕ) (x : SheetRead) → (read_sheet layout s ≡ x) ↔ ReadCause s x
  pub run_fault : (s b : List ℕ) (o : RunOutcome) → ((run_job s b).answer.outcome ≡ o) ↔ RunCause s b o
  pub hand_fault : (s : List ℕ) (st : HandState) → Proper st.masks → (i : ℕ) (o : CallOutcome) → ((call_job s st i).outcome ≡ o) ↔ Cause s st i o
  pub put_back_fault : (s t p b : List ℕ) (o : PutBackOutcome) → ((put_back_job s t p b).answer ≡ o) ↔ BackCause s t p b o
  -- and tables of calls, with the number of each
  pub sheet_numbers : sheet·.AllNumbered sheet·.rows
  pub run_numbers : run·.AllNumbered run·.rows
  pub hand_numbers : hand·.AllNumbered hand·.rows
  pub put_back_numbers : back·.AllNumbered back·.rows
  -- ---- "and no byte of a trace or plan lent to the call is altered"; nor the state of a hand call

  pub run_unaltered : (s b : List ℕ) (r : RunRefusal) → (run_job s b).answer.outcome ≡ Err r → (run_job s b).buffer ≡ b
  pub hand_unaltered : (s : List ℕ) (st : HandState) (i : ℕ) (r : HandRefusal) → (call_job s st i).outcome ≡ Err r → (call_job s st i).state ≡ st
  pub put_back_unaltered : (s t p b : List ℕ) (r : PutBackRefusal) → (put_back_job s t p b).answer ≡ Err r → (put_back_job s t p b).result ≡ b
  -- ---- the same of a call from C: the low byte of its answer is the number, 0 where there is none; the boundary's own come first

  pub run_call_asked : (s t b : List ℕ) → ((run_call s t b).answer % 256 ≡ 0) ↔ Asked s t b
  pub run_call_number : (s t b : List ℕ) → length b ≡ state_length → (run_call s t b).answer % 256 ≡ run_number (run_job s t).answer.outcome
  pub run_call_own : (s t b : List ℕ) → ((run_call s t b).answer ≡ bad_state) ↔ (length b ≢ state_length)
  pub run_call_unaltered : (s t b : List ℕ) → (run_call s t b).answer % 256 ≢ 0 → ((run_call s t b).trace ≡ t) × ((run_call s t b).state ≡ b)
  pub hand_call_number : (s b : List ℕ) (i : ℕ) → length b ≡ hand_state_length → (hand_call s b i).answer % 256 ≡ call_number (call_job s (hand_in b) i).outcome
  pub hand_call_own : (s b : List ℕ) (i : ℕ) → ((hand_call s b i).answer ≡ bad_hand_state) ↔ (length b ≢ hand_state_length)
  pub hand_call_unaltered : (s b : List ℕ) (i : ℕ) → (hand_call s b i).answer % 256 ≢ 0 → (hand_call s b i).state ≡ b
  pub put_back_call_number : (s t p b : List ℕ) → (put_back_call s t p b).answer % 256 ≡ put_back_number (put_back_job s t p b).answer
  pub put_back_call_unaltered : (s t p b : List ℕ) → (put_back_call s t p b).answer % 256 ≢ 0 → (put_back_call s t p b).result ≡ b
