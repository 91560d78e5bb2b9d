-- Starting and hand calls, by what reading their sheet finds. Assumes nothing.
use mathlib.Core.Path.{◌≡◌, refl, ap, ◌∙◌, fun_ext}
use mathlib.Core.List.{List, [], ◌∷◌}
use Prim.Native.Nat.{ℕ}
use Rattle.sheet.specs.Sheet.{layout, read_sheet, Keeps}
use Rattle.sheet.specs.Relation.{problem_of}
use Rattle.sheet.specs.declared.SheetRefusal.{SheetRefusal}
use Rattle.std.specs.Prelude.{Err}
use Rattle.jobs.proofs.Opened.{sheet_refused, sheet_kept}
use Rattle.hand.specs.Hand.{start_refused, start_over, start_job, call_refused, call_over, call_job, calls_over, calls_job}
use Rattle.hand.specs.declared.HandState.{HandState}
use Rattle.hand.specs.declared.CallAnswer.{CallAnswer}
use Rattle.hand.specs.declared.HandRefusal.TheVariants as hand

module _ (s : List ℕ) where
  pub start_refused_lem : (r : SheetRefusal) → read_sheet layout s ≡ Err r → start_job s ≡ start_refused r
  unfolding start_job
  start_refused_lem r e = sheet_refused s _ _ r e

  pub start_kept : Keeps layout s → start_job s ≡ start_over (problem_of layout s)
  unfolding start_job
  start_kept K = sheet_kept s _ _ K

  module _ (st : HandState) (i : ℕ) where
    pub call_refused_lem : (r : SheetRefusal) → read_sheet layout s ≡ Err r → call_job s st i ≡ call_refused (hand.Sheet r) st
    unfolding call_job
    call_refused_lem r e = sheet_refused s _ _ r e

    pub call_kept : Keeps layout s → call_job s st i ≡ call_over (problem_of layout s) st i
    unfolding call_job
    call_kept K = sheet_kept s _ _ K

  calls_each : Keeps layout s → (l : List ℕ) (st : HandState) → calls_job s st l ≡ calls_over (problem_of layout s) st l
  unfolding calls_job calls_over
  calls_each K [] st = refl
  calls_each K (i ∷ l) st = calls_each K l (call_job s st i).state ∙ ap (λ (y : CallAnswer). calls_over (problem_of layout s) y.state l) (call_kept st i K)

  -- lists of hand calls on a sheet that keeps the layout are lists of calls over its problem
  pub calls_kept : Keeps layout s → calls_job s ≡ calls_over (problem_of layout s)
  calls_kept K = fun_ext λ st. fun_ext λ l. calls_each K l st
