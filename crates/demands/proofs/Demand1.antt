-- Demand 1. Assumes nothing.
use mathlib.Core.Path.{◌≡◌, refl, ap}
use mathlib.Core.List.{List}
use Prim.Native.Nat.{ℕ, ◌%◌}
use native.Mathlib.Omega.{arith}
use lib.ListN.{length}
use Rattle.problem.proofs.Reflect.{full_fits}
use Rattle.problem.proofs.Trace.{trace_fits}
use Rattle.problem.proofs.Run.{run_short, end_says}
use Rattle.sheet.proofs.Accepted.{problem_bounded}
use Rattle.sheet.proofs.Refusals as sheet·
use Rattle.read_sheet.proofs.Causes.{read_iff}
use Rattle.boundary.specs.State.{state_length}
use Rattle.run.specs.Numbers.{run_number, RunOutcome}
use Rattle.run.specs.Run.{run_job}
use Rattle.run.specs.Call.{RunCall, run_call}
use Rattle.std.specs.Prelude.{Err, Ok}
use Rattle.run.proofs.Ran.{ran_iff}
use Rattle.run.proofs.Worked.{run_worked}
use Rattle.run.proofs.Unaltered.{run_unaltered}
use Rattle.run.proofs.Refusals as run·
use Rattle.run.proofs.Call.{run_says, run_listed, run_refused_keeps, run_bad_state}
use Rattle.hand.specs.Numbers.{call_number, CallOutcome}
use Rattle.hand.specs.Hand.{call_job}
use Rattle.hand.specs.Call.{hand_state_length, hand_in, HandCall, hand_call}
use Rattle.hand.proofs.Called.{called_iff}
use Rattle.hand.proofs.Unaltered.{call_unaltered}
use Rattle.hand.proofs.Refusals as hand·
use Rattle.hand.proofs.Call.{hand_says, hand_listed, call_refused_keeps, call_bad_state}
use Rattle.put_back.proofs.Unaltered.{put_back_unaltered}
use Rattle.put_back.proofs.Refusals as back·
use Rattle.putting_back.proofs.Causes.{put_back_iff}
use Rattle.putting_back.proofs.Call.{put_back_number_lem, put_back_refused_keeps}
use Rattle.demands.specs.Left.{sheet_problem, run_records}
use Rattle.demands.specs.Demand1.{Demand1}
use Rattle.demands.proofs.Calls.{run_asked}

-- the low byte of a call's answer is the job's number
run_number_lem : (s t b : List ℕ) → length b ≡ state_length → (run_call s t b).answer % 256 ≡ run_number (run_job s t).answer.outcome
run_number_lem s t b l = go (run_job s t).answer.outcome refl
  where
    go : (o : RunOutcome) → (run_job s t).answer.outcome ≡ o → (run_call s t b).answer % 256 ≡ run_number o
    go (Ok _) o = let n = ap (λ (y : RunCall). y.answer) (run_says s t b l _ _ refl refl _ o) in omega arith
    go (Err r) o = let n = ap (λ (y : RunCall). y.answer) (run_says s t b l _ _ refl refl _ o) in let f = run_listed r in omega arith

hand_number : (s b : List ℕ) (i : ℕ) → length b ≡ hand_state_length → (hand_call s b i).answer % 256 ≡ call_number (call_job s (hand_in b) i).outcome
hand_number s b i l = go (call_job s (hand_in b) i).outcome refl
  where
    go : (o : CallOutcome) → (call_job s (hand_in b) i).outcome ≡ o → (hand_call s b i).answer % 256 ≡ call_number o
    go (Ok v) o = let n = ap (λ (y : HandCall). y.answer) (hand_says s b i l _ refl _ o) in omega arith
    go (Err r) o = let n = ap (λ (y : HandCall). y.answer) (hand_says s b i l _ refl _ o) in let f = hand_listed r in omega arith

pub demand_1 : Demand1
demand_1 =
    record {
      sizes = λ s K. let B = problem_bounded s K in (B.few, B.narrow);
      worked = λ s b K l. let W = run_worked s b K l in (W.answer, W.buffer);
      ended = λ s. end_says (sheet_problem s) (trace_fits (sheet_problem s) (full_fits (sheet_problem s)) (run_records s));
      few = λ s. run_short (sheet_problem s);
      read_fault = read_iff;
      run_fault = ran_iff;
      hand_fault = λ s st R i. called_iff s st i R;
      put_back_fault = put_back_iff;
      sheet_numbers = sheet·.numbered;
      run_numbers = run·.numbered;
      hand_numbers = hand·.numbered;
      put_back_numbers = back·.numbered;
      run_unaltered = run_unaltered;
      hand_unaltered = call_unaltered;
      put_back_unaltered = put_back_unaltered;
      run_call_asked = run_asked;
      run_call_number = run_number_lem;
      run_call_own = run_bad_state;
      run_call_unaltered = run_refused_keeps;
      hand_call_number = hand_number;
      hand_call_own = call_bad_state;
      hand_call_unaltered = call_refused_keeps;
      put_back_call_number = put_back_number_lem;
      put_back_call_unaltered = put_back_refused_keeps;
    }
