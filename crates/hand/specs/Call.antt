-- A hand state as bytes, what exported starting and the exported hand call answer, as one number, and what they leave in the state's buffer.
-- The low byte of the answer is the number of the refusal, from 1 to 255, or 0 where there is none. Above it stand the parts of what was done.
use Rattle.std.specs.Prelude.{true, false, List, [], ◌∷◌, ℕ, ◌*◌, ◌<◌, eqb, length, get_or, Err, Ok}
use Rattle.sheet.specs.Sheet.{sheet_number}
use Rattle.hand.specs.Numbers.{hand_refusal_number, CallOutcome, StartOutcome}
use Rattle.hand.specs.Hand.{start_job, call_job}
use Rattle.hand.specs.declared.HandState.{HandState}
use Rattle.boundary.specs.State.{masks_bytes, masks_in}
use Rattle.boundary.specs.Numbers.{bad_hand_state}

-- ---- a hand state: it holds a run's state and nothing else

abbrev pub hand_state_length : ℕ
hand_state_length = 68

abbrev pub hand_bytes : HandState → List ℕ
hand_bytes st = masks_bytes st.masks

abbrev pub hand_in : List ℕ → HandState
hand_in b = record { masks = masks_in b }

-- numbers that a buffer can hold
abbrev pub OfBytes : List ℕ → Type 0
OfBytes b = (k : ℕ) → k < hand_state_length → get_or b k 0 < 256

-- ---- the calls

-- the answer and the state's buffer
pub record HandCall : Type 0 where
  pub answer : ℕ
  pub state : List ℕ

-- from what starting answers and its state; the buffer was b
abbrev pub start_crossed : StartOutcome → HandState → List ℕ → HandCall
start_crossed (Err r) st b = record { answer = sheet_number r; state = b }
start_crossed (Ok _) st b = record { answer = 0; state = hand_bytes st }

-- the sheet s and the state's buffer b: the length of b first, then the job
unfoldable pub start_call : (s b : List ℕ) → HandCall
start_call s b =
    elim (eqb (length b) hand_state_length) [
      | false ↦ record { answer = bad_hand_state; state = b }
      | true ↦ start_crossed (start_job s).outcome (start_job s).state b
    ]

-- from what a hand call answers and its state; the buffer was b, which holds the state that a refused call answers.
-- Bits 0-7 the refusal, bits 8-15 the value.
abbrev pub called_crossed : CallOutcome → HandState → List ℕ → HandCall
called_crossed (Err r) st b = record { answer = hand_refusal_number r; state = b }
called_crossed (Ok v) st b = record { answer = 256 * v; state = hand_bytes st }

-- the sheet s, the buffer b with the state, and the variable i: the length of b first, then the job
unfoldable pub hand_call : (s b : List ℕ) (i : ℕ) → HandCall
hand_call s b i =
    elim (eqb (length b) hand_state_length) [
      | false ↦ record { answer = bad_hand_state; state = b }
      | true ↦ called_crossed (call_job s (hand_in b) i).outcome (call_job s (hand_in b) i).state b
    ]

-- a list of hand calls: each is lent the buffer that the one before it left, a refused one's included
unfoldable pub hand_calls : (s b : List ℕ) → List ℕ → List ℕ
hand_calls s b [] = b
hand_calls s b (i ∷ l) = hand_calls s (hand_call s b i).state l
