-- Why a job over a sheet answers as it does: the sheet's own faults come first.
use Rattle.std.specs.Prelude.{◌≡◌, List, ℕ, Err}
use Rattle.problem.specs.Problem.{Problem}
use Rattle.sheet.specs.Sheet.{layout, read_sheet, Keeps}
use Rattle.sheet.specs.Relation.{problem_of}
use Rattle.sheet.specs.declared.SheetRefusal.{SheetRefusal}

-- whose an answer is: a refusal of the sheet, or the job's own
pub data Whose : Type 0 where
  Sheets : SheetRefusal → Whose
  Own : Whose

-- The cause of an answer over the sheet s: of a sheet's refusal, that reading answers it; of another, that the sheet keeps the layout, and
-- the cause over its problem.
abbrev pub SheetCause : List ℕ → Whose → (Problem → Type 0) → Type 0
SheetCause s (Sheets r) Over = read_sheet layout s ≡ Err r
SheetCause s Own Over = Keeps layout s × Over (problem_of layout s)
