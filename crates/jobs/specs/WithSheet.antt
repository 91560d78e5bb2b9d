-- A job is a sheet and what is done over its problem.
use Rattle.std.specs.Prelude.{List, ℕ, Err, Ok}
use Rattle.problem.specs.Problem.{Problem}
use Rattle.sheet.specs.Sheet.{layout, read_sheet}
use Rattle.sheet.specs.Relation.{problem_of}
use Rattle.sheet.specs.declared.SheetRefusal.{SheetRefusal}

-- "Every job reads its sheet first": where the sheet s is refused, `refused` of its refusal; otherwise `over` its problem
unfoldable pub with_sheet : {A : Type 0} → List ℕ → (SheetRefusal → A) → (Problem → A) → A
with_sheet s refused over = elim (read_sheet layout s) [ Err r ↦ refused r | Ok _ ↦ over (problem_of layout s) ]
