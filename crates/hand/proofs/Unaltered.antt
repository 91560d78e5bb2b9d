-- "A refusal [..] leaves all lent bytes unchanged": a refused hand call answers the state it was given. Assumes nothing.
use mathlib.Core.Path.{◌≡◌, refl}
use mathlib.Core.List.{List}
use Prim.Native.Nat.{ℕ}
use native.Mathlib.Omega.{arith}
use Rattle.problem.specs.Problem.{Problem}
use Rattle.problem.specs.Hand.{call}
use Rattle.problem.specs.Masks.{empty_masks}
use Rattle.problem.specs.declared.Call.{Call}
use Rattle.problem.specs.declared.Call.TheVariants as outcome
use Rattle.sheet.specs.Sheet.{layout}
use Rattle.sheet.specs.Relation.{problem_of}
use Rattle.sheet.specs.declared.SheetRefusal.{SheetRefusal}
use Rattle.hand.specs.Hand.{hand_state, start_job, call_answer, call_over, call_job}
use Rattle.hand.specs.declared.HandState.{HandState}
use Rattle.hand.specs.declared.StartAnswer.{StartAnswer}
use Rattle.std.specs.Prelude.{Err}
use Rattle.hand.specs.declared.HandRefusal.{HandRefusal}
use Rattle.hand.specs.declared.CallAnswer.{CallAnswer}
use Rattle.jobs.proofs.Opened.{sheet_each}

-- "a refused hand call answers the state it was given"
pub call_unaltered_over : (P : Problem) (st : HandState) (i : ℕ) (r : HandRefusal) → (call_over P st i).outcome ≡ Err r → (call_over P st i).state ≡ st
call_unaltered_over P st i r = go (call P (hand_state st) i)
  where
    go : (c : Call) → (call_answer P st i c).outcome ≡ Err r → (call_answer P st i c).state ≡ st
    go (outcome.Eliminated v) e = let z : ◌≡◌ {A = ℕ} 0 1 = cc in absurd (omega arith)
    go outcome.Misfit e = refl
    go outcome.NotActive e = refl
    go outcome.Emptied e = refl
    go outcome.NoSnake e = refl

-- "A refused start answers a state with no items in and no settings on"
pub start_unaltered : (s : List ℕ) (r : SheetRefusal) → (start_job s).outcome ≡ Err r → (start_job s).state ≡ record { masks = empty_masks }
unfolding start_job
start_unaltered s r = sheet_each s _ _ (λ (y : StartAnswer). y.outcome ≡ Err r → y.state ≡ record { masks = empty_masks }) (λ _ _ _. refl) (λ _ o. let z : ◌≡◌ {A = ℕ} 0 1 = cc in absurd (omega arith))

pub call_unaltered : (s : List ℕ) (st : HandState) (i : ℕ) (r : HandRefusal) → (call_job s st i).outcome ≡ Err r → (call_job s st i).state ≡ st
unfolding call_job
call_unaltered s st i r = sheet_each s _ _ (λ (y : CallAnswer). y.outcome ≡ Err r → y.state ≡ st) (λ _ _ _. refl) (λ _. call_unaltered_over (problem_of layout s) st i r)
