-- The same of the calls from C and Rust: the number and every buffer are alike. Assumes nothing.
use mathlib.Core.Path.{◌≡◌, refl, ap, ◌∙◌}
use mathlib.Core.Bool.{true, false}
use mathlib.Core.List.{List, [], ◌∷◌}
use Prim.Native.Nat.{ℕ}
use lib.Dec.{eqb}
use lib.ListN.{length}
use Rattle.sheet.specs.Sheet.{layout, Keeps}
use Rattle.run.specs.Run.{RunResult}
use Rattle.hand.specs.declared.StartAnswer.{StartAnswer}
use Rattle.hand.specs.declared.CallAnswer.{CallAnswer}
use Rattle.pick.specs.Pick.{PickResult}
use Rattle.boundary.specs.State.{state_length}
use Rattle.hand.specs.Call.{hand_state_length, hand_in, HandCall, start_crossed, start_call, called_crossed, hand_call, hand_calls}
use Rattle.boundary.specs.Numbers.{bad_state, bad_hand_state}
use Rattle.read.specs.Read.{read_number, read_call}
use Rattle.run.specs.Call.{RunCall, run_crossed, run_call}
use Rattle.put_back.specs.Call.{put_back_call}
use Rattle.pick.specs.Call.{PickCall, crossed_number, crossed_state, pick_call}
use Rattle.moved.specs.Move.{moved_bytes}
use Rattle.alike.proofs.Alike.{read_alike, run_alike, start_alike, call_alike, put_back_alike, pick_alike}

module _ (s : List ℕ) (K : Keeps layout s) where
  pub read_call_alike : read_call (moved_bytes s) ≡ read_call s
  read_call_alike = ap read_number (read_alike s K)

  pub run_call_alike : (t b : List ℕ) → run_call (moved_bytes s) t b ≡ run_call s t b
  unfolding run_call
  run_call_alike t b =
      ap {B = RunCall}
      (λ (y : RunResult). elim (eqb (length b) state_length) [ false ↦ record { answer = bad_state; trace = t; state = b } | true ↦ run_crossed y.answer.outcome y.answer.state y.buffer b ])
      (run_alike s K t)

  pub start_call_alike : (b : List ℕ) → start_call (moved_bytes s) b ≡ start_call s b
  unfolding start_call
  start_call_alike b =
      ap {B = HandCall}
      (λ (y : StartAnswer). elim (eqb (length b) hand_state_length) [ false ↦ record { answer = bad_hand_state; state = b } | true ↦ start_crossed y.outcome y.state b ])
      (start_alike s K)

  pub hand_call_alike : (b : List ℕ) (i : ℕ) → hand_call (moved_bytes s) b i ≡ hand_call s b i
  unfolding hand_call
  hand_call_alike b i =
      ap {B = HandCall}
      (λ (y : CallAnswer). elim (eqb (length b) hand_state_length) [ false ↦ record { answer = bad_hand_state; state = b } | true ↦ called_crossed y.outcome y.state b ])
      (call_alike s K (hand_in b) i)

  pub hand_calls_alike : (b l : List ℕ) → hand_calls (moved_bytes s) b l ≡ hand_calls s b l
  unfolding hand_calls
  hand_calls_alike b [] = refl
  hand_calls_alike b (i ∷ l) = ap (λ (y : HandCall). hand_calls (moved_bytes s) y.state l) (hand_call_alike b i) ∙ hand_calls_alike (hand_call s b i).state l

  pub put_back_call_alike : (t p b : List ℕ) → put_back_call (moved_bytes s) t p b ≡ put_back_call s t p b
  unfolding put_back_call
  put_back_call_alike t p b = rw (put_back_alike s K t p b)

  pub pick_call_alike : (t p b : List ℕ) → pick_call (moved_bytes s) t p b ≡ pick_call s t p b
  unfolding pick_call
  pick_call_alike t p b =
      ap {B = PickCall}
      (λ (y : PickResult). elim (eqb (length b) state_length) [
        | false ↦ record { answer = bad_state; trace = t; plan = p; state = b }
        | true ↦ record { answer = crossed_number y.answer.outcome; trace = y.trace; plan = y.plan; state = crossed_state y.answer.outcome y.answer.state b }
      ])
      (pick_alike s K t p)
