-- The run, by what reading its sheet finds and by the length of its buffer. Assumes nothing.
use mathlib.Core.Path.{◌≡◌, ◌∙◌}
use mathlib.Core.List.{List}
use Prim.Native.Nat.{ℕ, ◌+◌, ◌*◌, ◌≤◌, ◌<◌}
use lib.ListN.{length}
use borrow.Author.Tests.{lt-ltb, le-ltb}
use Rattle.problem.specs.Problem.{Problem, size_sum}
use Rattle.sheet.specs.Sheet.{layout, read_sheet, Keeps}
use Rattle.sheet.specs.Relation.{problem_of}
use Rattle.sheet.specs.declared.SheetRefusal.{SheetRefusal}
use Rattle.std.specs.Prelude.{Err}
use Rattle.jobs.proofs.Opened.{sheet_refused, sheet_kept}
use Rattle.run.specs.Run.{run_refused, run_done, run_over, run_job}
use Rattle.run.specs.declared.RunRefusal.TheVariants as run

module _ (P : Problem) (b : List ℕ) where
  -- 10: the buffer is shorter than 1 + 5 × the sum of the sizes
  pub run_buffer_refused_over : length b < 1 + 5 * size_sum P → run_over P b ≡ run_refused run.Buffer b
  unfolding run_over
  run_buffer_refused_over l = rw (lt-ltb (length b) (1 + 5 * size_sum P) l, run_over)

  -- otherwise the problem is worked
  pub run_accepted_over : 1 + 5 * size_sum P ≤ length b → run_over P b ≡ run_done P b
  unfolding run_over
  run_accepted_over l = rw (le-ltb (length b) (1 + 5 * size_sum P) l, run_over)

module _ (s b : List ℕ) where
  pub run_sheet_refused : (r : SheetRefusal) → read_sheet layout s ≡ Err r → run_job s b ≡ run_refused (run.Sheet r) b
  unfolding run_job
  run_sheet_refused r e = sheet_refused s _ _ r e

  module _ (K : Keeps layout s) where
    pub run_kept : run_job s b ≡ run_over (problem_of layout s) b
    unfolding run_job
    run_kept = sheet_kept s _ _ K

    pub run_accepted : 1 + 5 * size_sum (problem_of layout s) ≤ length b → run_job s b ≡ run_done (problem_of layout s) b
    run_accepted l = run_kept ∙ run_accepted_over (problem_of layout s) b l
