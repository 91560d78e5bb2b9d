-- Demand 3: one claim about lists of hand calls, of the job, and of the calls from C over the bytes that they leave. Its one theorem is
-- proofs/Demand3.antt.
use Rattle.std.specs.Prelude.{◌≡◌, List, ℕ, T, length}
use Rattle.problem.specs.Hand.{arc_consistent, finished}
use Rattle.problem.specs.Masks.{Proper}
use Rattle.problem.specs.Sentences.{Active, Alike}
use Rattle.sheet.specs.Sheet.{layout, Keeps}
use Rattle.hand.specs.Hand.{hand_state, hand_fits, start_job, calls_job}
use Rattle.hand.specs.Call.{hand_state_length, hand_in, OfBytes, start_call, hand_calls}
use Rattle.hand.specs.declared.HandState.{HandState}
use Rattle.demands.specs.Left.{sheet_problem}

-- "Both begin from one state that fits the sheet and in which every setting on has a partner at each other item in"
pub record Begins (s : List ℕ) (st : HandState) : Type 0 where
  -- a value of its struct
  pub proper : Proper st.masks
  pub fits : T (hand_fits (sheet_problem s) st)
  pub partners : T (arc_consistent (sheet_problem s) (hand_state st))

-- "Where after each list the rule holds for no item"
abbrev pub FinishedAt : (s : List ℕ) → HandState → Type 0
FinishedAt s st = T (finished (sheet_problem s) (hand_state st))

pub record Demand3 : Type 0 where
  -- ---- "Take any two lists of hand calls on one sheet that keeps the layout, whichever item each call names and refused calls included. [..]
  -- each later call is given the state that the call before it answered, and nobody alters sheet or state meanwhile. Where after each list the
  -- rule holds for no item, the items left, their settings and the pairs allowed among them are alike in both."

  pub alike : (s : List ℕ) → Keeps layout s → (st : HandState) → Begins s st → (k l : List ℕ) → FinishedAt s (calls_job s st k) → FinishedAt s (calls_job s st l)
      → Alike (sheet_problem s) (hand_state (calls_job s st k)) (hand_state (calls_job s st l))
  -- ---- "And no list of such calls from that state, finished or not, takes out an item that a finished one leaves."

  pub left_in : (s : List ℕ) → Keeps layout s → (st : HandState) → Begins s st → (k l : List ℕ) → FinishedAt s (calls_job s st k)
      → (i : ℕ) → Active (hand_state (calls_job s st k)) i → Active (hand_state (calls_job s st l)) i
  -- what starting answers is such a state
  pub start_begins : (s : List ℕ) → Keeps layout s → Begins s (start_job s).state
  -- ---- the same of calls from C: from one buffer, finished lists leave one buffer, byte for byte

  pub same_bytes : (s : List ℕ) → Keeps layout s → (b : List ℕ) → length b ≡ hand_state_length → OfBytes b → Begins s (hand_in b)
      → (k l : List ℕ) → FinishedAt s (hand_in (hand_calls s b k)) → FinishedAt s (hand_in (hand_calls s b l)) → hand_calls s b k ≡ hand_calls s b l
  pub bytes_left_in : (s : List ℕ) → Keeps layout s → (b : List ℕ) → length b ≡ hand_state_length → OfBytes b → Begins s (hand_in b)
      → (k l : List ℕ) → FinishedAt s (hand_in (hand_calls s b k))
      → (i : ℕ) → Active (hand_state (hand_in (hand_calls s b k))) i → Active (hand_state (hand_in (hand_calls s b l))) i
  pub started_bytes : (s b : List ℕ) → Keeps layout s → length b ≡ hand_state_length
      → (k l : List ℕ) → FinishedAt s (hand_in (hand_calls s (start_call s b).state k)) → FinishedAt s (hand_in (hand_calls s (start_call s b).state l))
      → hand_calls s (start_call s b).state k ≡ hand_calls s (start_call s b).state l
