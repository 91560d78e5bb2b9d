-- Putting back, by what reading its sheet finds and by the lengths of what it is lent. Assumes nothing.
use mathlib.Core.Path.{◌≡◌}
use mathlib.Core.List.{List}
use mathlib.Core.Logic.{◌≢◌}
use Prim.Native.Nat.{ℕ}
use lib.ListN.{length}
use borrow.Author.Tests.{eq-eqb, ne_eqb}
use Rattle.problem.specs.Problem.{Problem}
use Rattle.sheet.specs.Sheet.{layout, read_sheet, Keeps}
use Rattle.sheet.specs.Relation.{problem_of}
use Rattle.sheet.specs.declared.SheetRefusal.{SheetRefusal}
use Rattle.std.specs.Prelude.{Err}
use Rattle.jobs.proofs.Opened.{sheet_refused, sheet_kept}
use Rattle.put_back.specs.PutBack.{put_back_refused, check_trace, after_check, put_back_over, put_back_job}
use Rattle.put_back.specs.declared.PutBackRefusal.TheVariants as back

module _ (P : Problem) (t p b : List ℕ) where
  -- 18
  pub put_back_plan_length_over : length p ≢ P.n → put_back_over P t p b ≡ put_back_refused back.PlanLength b
  unfolding put_back_over
  put_back_plan_length_over d = rw (ne_eqb (length p) P.n d, put_back_over)

  -- 20
  pub put_back_result_length_over : length p ≡ P.n → length b ≢ P.n → put_back_over P t p b ≡ put_back_refused back.ResultLength b
  unfolding put_back_over
  put_back_result_length_over e d = rw (eq-eqb (length p) P.n e, ne_eqb (length b) P.n d, put_back_over)

  -- then 15, 16 and 17 by the trace, and 19
  pub put_back_checked_over : length p ≡ P.n → length b ≡ P.n → put_back_over P t p b ≡ after_check P p b (check_trace P t)
  unfolding put_back_over
  put_back_checked_over e f = rw (eq-eqb (length p) P.n e, eq-eqb (length b) P.n f, put_back_over)

module _ (s t p b : List ℕ) where
  pub put_back_sheet_refused : (r : SheetRefusal) → read_sheet layout s ≡ Err r → put_back_job s t p b ≡ put_back_refused (back.Sheet r) b
  unfolding put_back_job
  put_back_sheet_refused r e = sheet_refused s _ _ r e

  pub put_back_kept : Keeps layout s → put_back_job s t p b ≡ put_back_over (problem_of layout s) t p b
  unfolding put_back_job
  put_back_kept K = sheet_kept s _ _ K
