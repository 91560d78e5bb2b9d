-- Why a start and a hand call answer as they do.
use Rattle.std.specs.Prelude.{◌≡◌, List, ◌⊎◌, ℕ, ◌≤◌, T, Err, Ok}
use Rattle.problem.specs.Problem.{Problem, State, snake}
use Rattle.problem.specs.Sentences.{Active, Fits, NoneEmpty}
use Rattle.problem.specs.Causes.{Misfits, Named, SomeEmpty, LowestSnake}
use Rattle.sheet.specs.Sheet.{layout, read_sheet, Keeps}
use Rattle.hand.specs.Numbers.{CallOutcome, StartOutcome}
use Rattle.jobs.specs.Causes.{Whose, Sheets, Own, SheetCause}
use Rattle.hand.specs.Hand.{hand_state}
use Rattle.hand.specs.declared.HandState.{HandState}
use Rattle.hand.specs.declared.HandRefusal.TheVariants as refusal

-- ---- starting

module _ (s : List ℕ) where
  -- Why a start answers as it does: it is refused for its sheet only.
  abbrev pub StartCause : StartOutcome → Type 0
  StartCause (Err r) = read_sheet layout s ≡ Err r
  StartCause (Ok _) = Keeps layout s

-- ---- a hand call

module _ (P : Problem) (st : HandState) (i : ℕ) where
  -- the state that the call is given
  abbrev given : State
  given = hand_state st

  -- Why a hand call over a problem answers as it does.
  abbrev pub CauseOver : CallOutcome → Type 0
  CauseOver (Err (refusal.Sheet r)) = ⊥
  -- 11: "an item in is not below n, an item out has a setting on, or a setting on is not below its size"
  CauseOver (Err refusal.State) = Misfits P given
  -- 12: "named item not below n or not in"
  CauseOver (Err refusal.Item) = Fits P given × ((P.n ≤ i) ⊎ (Active given i → ⊥))
  -- 13: "some item in has no setting on"
  CauseOver (Err refusal.Emptied) = Fits P given × Named P given i × SomeEmpty P given
  -- 14: "the snake rule holds for no v"
  CauseOver (Err refusal.Rule) = Fits P given × Named P given i × NoneEmpty P given × ((v : ℕ) → T (snake P given i v) → ⊥)
  -- accepted: no cause speaks, and v is the lowest for which the snake rule holds
  CauseOver (Ok v) = Fits P given × Named P given i × NoneEmpty P given × LowestSnake P given i v

abbrev pub whose_call : CallOutcome → Whose
whose_call (Err (refusal.Sheet r)) = Sheets r
whose_call (Err refusal.State) = Own
whose_call (Err refusal.Item) = Own
whose_call (Err refusal.Emptied) = Own
whose_call (Err refusal.Rule) = Own
whose_call (Ok v) = Own

module _ (s : List ℕ) (st : HandState) (i : ℕ) where
  -- Why a hand call answers as it does: the sheet's own fault, or the cause over its problem.
  abbrev pub Cause : CallOutcome → Type 0
  Cause o = SheetCause s (whose_call o) (λ P. CauseOver P st i o)
