-- docs/FORMAT.md, "Moving a sheet to the other version", as a job: lent a sheet and a target buffer.
use Rattle.std.specs.Prelude.{cond, List, ℕ, eqb, ltb, length, Result, Ok, Err}
use Rattle.problem.specs.Problem.{Problem}
use Rattle.sheet.specs.Sheet.{layout, version_of, sheet_number}
use Rattle.sheet.specs.Relation.{problem_of}
use Rattle.buffers.specs.Written.{fronted}
use Rattle.jobs.specs.WithSheet.{with_sheet}
use Rattle.compose.specs.Compose.{sheet_bytes}
use Rattle.moved.specs.declared.MoveRefusal.{MoveRefusal}
use Rattle.moved.specs.declared.MoveRefusal.TheVariants.{Sheet, Target}

-- the job's answer: the bytes written, or the refusal
abbrev pub Moved : Type 0
Moved = Result ℕ MoveRefusal

-- ---- the format's number for each refusal, in the order of its table; and of an answer, 0 where there is no refusal

abbrev pub move_number : MoveRefusal → ℕ
move_number (Sheet r) = sheet_number r
move_number Target = 26

abbrev pub moved_number : Moved → ℕ
moved_number (Ok w) = 0
moved_number (Err r) = move_number r

-- ---- the moved sheet

-- "version 2 of a sheet of version 1, and version 1 of a sheet of version 2"
abbrev pub other_version : ℕ → ℕ
other_version v = cond (eqb v 1) 2 1

-- the problem that the sheet s is, written in the other version
unfoldable pub moved_bytes : List ℕ → List ℕ
moved_bytes s = sheet_bytes layout (other_version (version_of s)) (problem_of layout s)

-- ---- the job

-- what the job answers and leaves in the target
pub record MoveResult : Type 0 where
  pub answer : Moved
  pub target : List ℕ

-- "A refused move answers the number only; its target is as it was."
abbrev pub move_refused : MoveRefusal → List ℕ → MoveResult
move_refused r b = record { answer = Err r; target = b }

-- "A move writes the other version at the target's front, old bytes after"; "The job answers the bytes written."
abbrev pub move_done : (w b : List ℕ) → MoveResult
move_done w b = record { answer = Ok (length w); target = fronted w b }

-- the problem P, written in version v into the target b: 26, "the target buffer is shorter than the moved sheet"
unfoldable pub move_over : (v : ℕ) → Problem → List ℕ → MoveResult
move_over v P b = cond (ltb (length b) (length (sheet_bytes layout v P))) (move_refused Target b) (move_done (sheet_bytes layout v P) b)

-- the sheet s and the target b
unfoldable pub move_job : (s b : List ℕ) → MoveResult
move_job s b = with_sheet s (λ r. move_refused (Sheet r) b) (λ P. move_over (other_version (version_of s)) P b)
