-- The job's parts make the job. Assumes nothing.
use Rattle.std.specs.Prelude.{Result, Ok, Err, IsErrAnd}
use mathlib.Core.Path.{◌≡◌, sym, ap, ◌∙◌}
use mathlib.Core.Bool.{true}
use mathlib.Core.List.{List}
use mathlib.Core.Logic.{⊎_elim}
use Prim.Native.Nat.{ℕ, ◌≤◌, ◌<◌}
use lib.ListN.{length}
use borrow.Author.Tests.{lt-ltb, le-ltb}
use Rattle.bounded.proofs.Truth.{lt_dec}
use Rattle.problem.specs.Problem.{Problem}
use Rattle.sheet.specs.Sheet.{layout, version_of, read_sheet, Keeps}
use Rattle.sheet.specs.Relation.{problem_of}
use Rattle.sheet.specs.declared.SheetRefusal.{SheetRefusal}
use Rattle.std.specs.Prelude.{Err}
use Rattle.sheet.proofs.Versions.{both_versions}
use Rattle.sheet.specs.Causes.{KnownVersion}
use Rattle.jobs.proofs.Opened.{sheet_refused, sheet_kept}
use Rattle.compose.specs.Compose.{sheet_bytes, SheetResult, sheet_over}
use Rattle.compose.specs.declared.TooShort.{TooShort}
use Rattle.compose.proofs.Over.{sheet_over_short, sheet_over_done}
use Rattle.moved.specs.Move.{Moved, other_version, MoveResult, move_refused, move_done, move_over, move_job}
use Rattle.moved.specs.declared.MoveRefusal.{MoveRefusal}
use Rattle.moved.specs.declared.MoveRefusal.TheVariants.{Sheet, Target}

-- the other version is taken
pub other_taken : (v : ℕ) → KnownVersion v → layout.takes (other_version v) ≡ true
other_taken v t = ⊎_elim (λ (e : v ≡ 1). rw e) (λ (e : v ≡ 2). rw e) t

-- and the other of the other is the version itself
pub other_twice : (v : ℕ) → KnownVersion v → other_version (other_version v) ≡ v
other_twice v t = ⊎_elim (λ (e : v ≡ 1). rw e) (λ (e : v ≡ 2). rw e) t

-- ---- refusals

-- a refusal that is made from an error
pub err_is : (r : Moved) (x : MoveRefusal) → IsErrAnd r (λ y. y ≡ x) → r ≡ Err x
err_is (Ok w) x e = absurd e
err_is (Err y) x e = ap Err e

-- ---- over a problem

-- what the writer answers and leaves, as the job does
abbrev pub moved_of : Result ℕ TooShort → Moved
moved_of (Ok w) = Ok w
moved_of (Err e) = Err Target

abbrev moved_by : SheetResult → MoveResult
moved_by r = record { answer = moved_of r.answer; target = r.buffer }

module _ (v : ℕ) (P : Problem) (b : List ℕ) where
  -- 26
  pub move_short_over : length b < length (sheet_bytes layout v P) → move_over v P b ≡ move_refused Target b
  unfolding move_over
  move_short_over h = rw (lt-ltb (length b) (length (sheet_bytes layout v P)) h)

  -- otherwise it is written
  pub move_done_over : length (sheet_bytes layout v P) ≤ length b → move_over v P b ≡ move_done (sheet_bytes layout v P) b
  unfolding move_over
  move_done_over h = rw (le-ltb (length b) (length (sheet_bytes layout v P)) h)

  composed_moved : moved_by (sheet_over layout v P b) ≡ move_over v P b
  composed_moved = ⊎_elim
      (λ (h : length b < length (sheet_bytes layout v P)). ap moved_by (sheet_over_short layout v P b h) ∙ sym (move_short_over h))
      (λ (h : length (sheet_bytes layout v P) ≤ length b). ap moved_by (sheet_over_done layout v P b h) ∙ sym (move_done_over h))
      (lt_dec (length b) (length (sheet_bytes layout v P)))

  pub move_answers : moved_of (sheet_over layout v P b).answer ≡ (move_over v P b).answer
  move_answers = ap (λ (y : MoveResult). y.answer) composed_moved

  pub move_leaves : (sheet_over layout v P b).buffer ≡ (move_over v P b).target
  move_leaves = ap (λ (y : MoveResult). y.target) composed_moved

-- ---- over a sheet

module _ (s b : List ℕ) where
  pub move_sheet_refused : (r : SheetRefusal) → read_sheet layout s ≡ Err r → move_job s b ≡ move_refused (Sheet r) b
  unfolding move_job
  move_sheet_refused r e = sheet_refused s _ _ r e

  pub move_kept : Keeps layout s → move_job s b ≡ move_over (other_version (version_of s)) (problem_of layout s) b
  unfolding move_job
  move_kept K = sheet_kept s _ _ K

-- the version that a sheet is moved to is taken
pub moved_taken : (s : List ℕ) → Keeps layout s → layout.takes (other_version (version_of s)) ≡ true
moved_taken s K = other_taken (version_of s) (both_versions s K)
