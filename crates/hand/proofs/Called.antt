-- "A [..] hand call [..] with a fault, and no other, is turned away under the one number [..] for its first fault": what each answer of the
-- hand call says, and for each number its cause. Assumes nothing.
use mathlib.Core.Path.{◌≡◌, refl, ap}
use mathlib.Core.Bool.{cond}
use mathlib.Core.List.{List}
use mathlib.Core.Logic.{◌⊎◌, ◌↔◌}
use Prim.Native.Nat.{ℕ, ◌≤◌}
use native.Mathlib.Omega.{arith}
use lib.Dec.{T, eqb}
use Rattle.bounded.proofs.Causes.{cause_iff, number_iff}
use Rattle.problem.specs.Problem.{Problem, State, snake}
use Rattle.problem.specs.Hand.{call}
use Rattle.problem.specs.Masks.{Proper}
use Rattle.problem.specs.declared.Call.{Call}
use Rattle.problem.specs.declared.Call.TheVariants as outcome
use Rattle.problem.specs.Sentences.{Active, Fits, NoneEmpty}
use Rattle.problem.proofs.Bridge.{fits_iff}
use Rattle.problem.proofs.OneCall.{call_iff}
use Rattle.problem.specs.Causes.{Misfits, Named, SomeEmpty, CallCause}
use Rattle.sheet.specs.Sheet.{layout, Keeps}
use Rattle.sheet.specs.Relation.{problem_of}
use Rattle.sheet.proofs.Refusals.{sheet_number_lem}
use Rattle.hand.specs.Numbers.{call_number, CallOutcome}
use Rattle.hand.specs.Hand.{hand_state, call_answer, call_over, call_job}
use Rattle.hand.specs.declared.HandState.{HandState}
use Rattle.hand.specs.declared.CallAnswer.{CallAnswer}
use Rattle.std.specs.Prelude.{Err, Ok}
use Rattle.hand.specs.declared.HandRefusal.TheVariants as refusal
use Rattle.hand.specs.Causes.{CauseOver, whose_call, Cause}
use Rattle.jobs.proofs.SheetCause.{Told, sheet_iff}

-- ---- over a problem

-- the state that the call is given
module _ (P : Problem) (st : HandState) (i : ℕ) where
  abbrev given : State
  given = hand_state st

  module _ (R : Proper st.masks) where
    says : (c : Call) → (call P given i ≡ c) ↔ CallCause P given i c
    says = call_iff P given (fits_iff P st.masks R).0 i

    answers : (c : Call) → CallCause P given i c → (call_over P st i).outcome ≡ (call_answer P st i c).outcome
    answers c x = ap (λ (y : Call). (call_answer P st i y).outcome) ((says c).1 x)

    cause_answers : (o : CallOutcome) → CauseOver P st i o → (call_over P st i).outcome ≡ o
    cause_answers (Err (refusal.Sheet r)) x = absurd x
    cause_answers (Err refusal.State) x = answers outcome.Misfit x
    cause_answers (Err refusal.Item) x = answers outcome.NotActive x
    cause_answers (Err refusal.Emptied) x = answers outcome.Emptied x
    cause_answers (Err refusal.Rule) x = answers outcome.NoSnake x
    cause_answers (Ok v) x = answers (outcome.Eliminated v) x

    some_cause : (o : CallOutcome) × CauseOver P st i o
    some_cause = by_call (call P given i) ((says (call P given i)).0 refl)
      where
        by_call : (c : Call) → CallCause P given i c → (o : CallOutcome) × CauseOver P st i o
        by_call outcome.Misfit x = (Err refusal.State, x)
        by_call outcome.NotActive x = (Err refusal.Item, x)
        by_call outcome.Emptied x = (Err refusal.Emptied, x)
        by_call outcome.NoSnake x = (Err refusal.Rule, x)
        by_call (outcome.Eliminated v) x = (Ok v, x)

    -- A hand call over a problem answers as it does for its cause and for no other.
    pub called_iff_over : (o : CallOutcome) → ((call_over P st i).outcome ≡ o) ↔ CauseOver P st i o
    called_iff_over = cause_iff (call_over P st i).outcome (CauseOver P st i) cause_answers some_cause

-- ---- over a sheet

told : (o : CallOutcome) → Told (λ r. Err (refusal.Sheet r)) (whose_call o) o
told (Err (refusal.Sheet r)) = refl
told (Err refusal.State) = tt
told (Err refusal.Item) = tt
told (Err refusal.Emptied) = tt
told (Err refusal.Rule) = tt
told (Ok v) = tt

-- the answer that a number from 10 on stands for
abbrev numbered : ℕ → CallOutcome
numbered k = cond (eqb k 11) (Err refusal.State) (cond (eqb k 12) (Err refusal.Item) (cond (eqb k 13) (Err refusal.Emptied) (Err refusal.Rule)))

number_back : (o : CallOutcome) → 10 ≤ call_number o → numbered (call_number o) ≡ o
number_back (Ok v) l = absurd (omega arith)
number_back (Err (refusal.Sheet r)) l = let m = sheet_number_lem r in absurd (omega arith)
number_back (Err refusal.State) l = refl
number_back (Err refusal.Item) l = refl
number_back (Err refusal.Emptied) l = refl
number_back (Err refusal.Rule) l = refl

-- the sheet's problem
module _ (s : List ℕ) (st : HandState) (i : ℕ) where
  abbrev problem : Problem
  problem = problem_of layout s

  module _ (R : Proper st.masks) where
    -- A hand call answers as it does for its cause and for no other.
    pub called_iff : (o : CallOutcome) → ((call_job s st i).outcome ≡ o) ↔ Cause s st i o
    unfolding call_job
    called_iff = sheet_iff s _ _ (λ (y : CallAnswer). y.outcome) whose_call told (λ r. refl) (λ P. CauseOver P st i) (λ P r x. x) (λ _. called_iff_over (problem_of layout s) st i R)

    by_number : (o : CallOutcome) → 10 ≤ call_number o → (call_number (call_job s st i).outcome ≡ call_number o) ↔ Cause s st i o
    by_number = number_iff (call_job s st i).outcome (Cause s st i) called_iff call_number numbered (λ k. 10 ≤ k) number_back

    pub called_11 : (call_number (call_job s st i).outcome ≡ 11) ↔ (Keeps layout s × Misfits problem (hand_state st))
    called_11 = by_number (Err refusal.State) (omega arith)

    pub called_12 : (call_number (call_job s st i).outcome ≡ 12) ↔ (Keeps layout s × (Fits problem (hand_state st) × ((problem.n ≤ i) ⊎ (Active (hand_state st) i → ⊥))))
    called_12 = by_number (Err refusal.Item) (omega arith)

    pub called_13 : (call_number (call_job s st i).outcome ≡ 13) ↔ (Keeps layout s × (Fits problem (hand_state st) × Named problem (hand_state st) i × SomeEmpty problem (hand_state st)))
    called_13 = by_number (Err refusal.Emptied) (omega arith)

    pub called_14 : (call_number (call_job s st i).outcome ≡ 14)
        ↔ (Keeps layout s × (Fits problem (hand_state st) × Named problem (hand_state st) i × NoneEmpty problem (hand_state st) × ((v : ℕ) → T (snake problem (hand_state st) i v) → ⊥)))
    called_14 = by_number (Err refusal.Rule) (omega arith)
