-- Taking out by hand: starting, one hand call, and lists of hand calls, over a problem and as jobs.
use Rattle.std.specs.Prelude.{Bool, List, [], ◌∷◌, ℕ, Err, Ok}
use Rattle.problem.specs.Problem.{Problem, State, state_fits, eliminate}
use Rattle.problem.specs.Hand.{start, call}
use Rattle.problem.specs.Masks.{state_of, masks_of, empty_masks}
use Rattle.problem.specs.declared.Call.{Call}
use Rattle.problem.specs.declared.Call.TheVariants as outcome
use Rattle.sheet.specs.declared.SheetRefusal.{SheetRefusal}
use Rattle.jobs.specs.WithSheet.{with_sheet}
use Rattle.hand.specs.declared.HandState.{HandState}
use Rattle.hand.specs.declared.StartAnswer.{StartAnswer}
use Rattle.hand.specs.declared.CallAnswer.{CallAnswer}
use Rattle.hand.specs.declared.HandRefusal.{HandRefusal}
use Rattle.hand.specs.declared.HandRefusal.TheVariants as refusal

-- the hand state's items and settings
abbrev pub hand_state : HandState → State
hand_state st = state_of st.masks

abbrev pub hand_of : State → HandState
hand_of s = record { masks = masks_of s }

-- a hand state fits: the run's state in it does
abbrev pub hand_fits : Problem → HandState → Bool
hand_fits P st = state_fits P (hand_state st)

-- ---- starting

-- "Starting answers the state with all items in and the largest sets of settings in which each has a partner at every other item."
-- "Starting has no rows of its own."
abbrev pub start_over : Problem → StartAnswer
start_over P = record { outcome = Ok tt; state = hand_of (start P) }

-- "A refused start answers a state with no items in and no settings on."
abbrev pub start_refused : SheetRefusal → StartAnswer
start_refused r = record { outcome = Err r; state = record { masks = empty_masks } }

-- starting on the sheet s
unfoldable pub start_job : List ℕ → StartAnswer
start_job s = with_sheet s start_refused start_over

-- ---- one hand call

-- "a refused hand call answers the state it was given"
abbrev pub call_refused : HandRefusal → HandState → CallAnswer
call_refused r st = record { outcome = Err r; state = st }

-- what a call comes to, as an answer
abbrev pub call_answer : Problem → HandState → ℕ → Call → CallAnswer
call_answer P st i (outcome.Eliminated v) = record { outcome = Ok v; state = hand_of (eliminate P (hand_state st) i) }
call_answer P st i outcome.Misfit = call_refused refusal.State st
call_answer P st i outcome.NotActive = call_refused refusal.Item st
call_answer P st i outcome.Emptied = call_refused refusal.Emptied st
call_answer P st i outcome.NoSnake = call_refused refusal.Rule st

-- "A hand call names one item. It performs the snake step with the lowest fitting v and answers the new state and v."
abbrev pub call_over : Problem → HandState → ℕ → CallAnswer
call_over P st i = call_answer P st i (call P (hand_state st) i)

-- a hand call on the sheet s
unfoldable pub call_job : List ℕ → HandState → ℕ → CallAnswer
call_job s st i = with_sheet s (λ r. call_refused (refusal.Sheet r) st) (λ P. call_over P st i)

-- ---- lists of hand calls

-- "The first is given the state the list starts from, each later one the state that the call before it answered, a refused one's included"
unfoldable pub calls_over : Problem → HandState → List ℕ → HandState
calls_over P st [] = st
calls_over P st (i ∷ l) = calls_over P (call_over P st i).state l

-- the same on the sheet s
unfoldable pub calls_job : List ℕ → HandState → List ℕ → HandState
calls_job s st [] = st
calls_job s st (i ∷ l) = calls_job s (call_job s st i).state l
