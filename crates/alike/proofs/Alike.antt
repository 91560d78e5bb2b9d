-- Every job but the move answers on the moved sheet as on the sheet, for all that it is lent besides, refused or not, and leaves the same
-- bytes: one law, and a corollary for each job. Assumes nothing.
use mathlib.Core.Path.{◌≡◌, refl, sym, ap, ◌∙◌}
use mathlib.Core.List.{List, [], ◌∷◌}
use Prim.Native.Nat.{ℕ}
use Rattle.problem.specs.Problem.{Problem}
use Rattle.sheet.specs.Sheet.{layout, variables_of, blocks_of, read_sheet, Keeps, accepted}
use Rattle.sheet.specs.declared.SheetRefusal.{SheetRefusal}
use Rattle.jobs.specs.WithSheet.{with_sheet}
use Rattle.run.specs.Run.{run_job}
use Rattle.hand.specs.Hand.{start_job, call_job, calls_job}
use Rattle.put_back.specs.PutBack.{put_back_job}
use Rattle.fields.specs.Print.{sheet_lines, printed}
use Rattle.hand.specs.declared.HandState.{HandState}
use Rattle.hand.specs.declared.CallAnswer.{CallAnswer}
use Rattle.jobs.proofs.Opened.{variables_of_lem, sheet_kept}
use Rattle.fields.proofs.Printed.{printed_sheet}
use Rattle.compose.specs.Compose.{block_count}
use Rattle.compose.proofs.Canonical.{blocks_counted}
use Rattle.pick.specs.Pick.{pick_job}
use Rattle.plan_report.specs.Planned.{planned_lines, planned}
use Rattle.plan_report.proofs.Printed.{planned_sheet}
use Rattle.moved.specs.Move.{moved_bytes}
use Rattle.moved.proofs.Demands.{move_keeps, move_same}

module _ (s : List ℕ) (K : Keeps layout s) where
  -- a job reads its sheet, and then what the sheet is
  pub sheet_alike : {A : Type 0} (refused : SheetRefusal → A) (over : Problem → A) → with_sheet (moved_bytes s) refused over ≡ with_sheet s refused over
  sheet_alike refused over = sheet_kept (moved_bytes s) refused over (move_keeps s K) ∙ ap over (move_same s K) ∙ sym (sheet_kept s refused over K)

  -- the read check: as many items and blocks
  pub read_alike : read_sheet layout (moved_bytes s) ≡ read_sheet layout s
  read_alike = move_keeps s K ∙ (λ i. accepted (variables i) (blocks i)) ∙ sym K
    where
      variables : variables_of (moved_bytes s) ≡ variables_of s
      variables = sym (variables_of_lem (moved_bytes s)) ∙ ap (λ (P : Problem). P.n) (move_same s K) ∙ variables_of_lem s

      blocks : blocks_of (moved_bytes s) ≡ blocks_of s
      blocks = blocks_counted layout (moved_bytes s) (move_keeps s K) ∙ ap (λ (P : Problem). block_count P 1024 0) (move_same s K) ∙ sym (blocks_counted layout s K)

  -- the run
  pub run_alike : (b : List ℕ) → run_job (moved_bytes s) b ≡ run_job s b
  unfolding run_job
  run_alike b = sheet_alike _ _

  -- taking out by hand
  pub start_alike : start_job (moved_bytes s) ≡ start_job s
  unfolding start_job
  start_alike = sheet_alike _ _

  pub call_alike : (st : HandState) (i : ℕ) → call_job (moved_bytes s) st i ≡ call_job s st i
  unfolding call_job
  call_alike st i = sheet_alike _ _

  pub calls_alike : (st : HandState) (l : List ℕ) → calls_job (moved_bytes s) st l ≡ calls_job s st l
  unfolding calls_job
  calls_alike st [] = refl
  calls_alike st (i ∷ l) = ap (λ (y : CallAnswer). calls_job (moved_bytes s) y.state l) (call_alike st i) ∙ calls_alike (call_job s st i).state l

  -- putting back
  pub put_back_alike : (t p b : List ℕ) → put_back_job (moved_bytes s) t p b ≡ put_back_job s t p b
  unfolding put_back_job
  put_back_alike t p b = sheet_alike _ _

  -- picking
  pub pick_alike : (b p : List ℕ) → pick_job (moved_bytes s) b p ≡ pick_job s b p
  unfolding pick_job
  pick_alike b p = sheet_alike _ _

  -- what reduce_sheet and plan_sheet print
  pub printed_alike : printed (moved_bytes s) ≡ printed s
  unfolding sheet_lines
  printed_alike = printed_sheet (moved_bytes s) (move_keeps s K) ∙ sheet_alike _ _ ∙ sym (printed_sheet s K)

  pub planned_alike : planned (moved_bytes s) ≡ planned s
  unfolding planned_lines
  planned_alike = planned_sheet (moved_bytes s) (move_keeps s K) ∙ sheet_alike _ _ ∙ sym (planned_sheet s K)
