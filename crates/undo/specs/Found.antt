-- Undoing where a reader stands, by what it finds there.
use Rattle.std.specs.Prelude.{Bool, true, false, List, ℕ, T}
use Rattle.bounded.specs.Table.{tab}
use Rattle.problem.specs.Problem.{Problem, State}
use Rattle.problem.specs.Run.{lawful, after}
use Rattle.problem.specs.PutBack.{undo, plan_of}
use Rattle.problem.specs.Held.{held}
use Rattle.problem.specs.Masks.{state_of, masks_of}
use Rattle.problem.specs.declared.Masks.{Masks}
use Rattle.trace.specs.declared.RecordRead.{RecordRead}
use Rattle.trace.specs.declared.RecordRead.TheVariants as record·
use Rattle.undo.specs.Undone.{Undoable}

abbrev pub is_record : RecordRead → Bool
is_record (record·.Read r q) = true
is_record record·.End = false
is_record record·.Malformed = false

-- a record that was found is lawful in the state of m
abbrev pub LawfulFound : List ℕ → Masks → RecordRead → Type 0
LawfulFound t m (record·.Read r q) = T (lawful (held t) (state_of m) r)
LawfulFound t m record·.End = T true
LawfulFound t m record·.Malformed = T true

-- the state after it
abbrev pub after_found : Problem → Masks → RecordRead → Masks
after_found P m (record·.Read r q) = masks_of (after P (state_of m) r)
after_found P m record·.End = m
after_found P m record·.Malformed = m

-- it can be undone in the plan, and the plan with it undone
abbrev pub UndoableFound : List ℕ → Masks → RecordRead → List ℕ → Type 0
UndoableFound t m (record·.Read r q) plan = Undoable t m r plan
UndoableFound t m record·.End plan = T true
UndoableFound t m record·.Malformed plan = T true

abbrev pub undone_found : Problem → State → RecordRead → List ℕ → List ℕ
undone_found P s (record·.Read r q) plan = tab P.n (undo P s r (plan_of plan))
undone_found P s record·.End plan = plan
undone_found P s record·.Malformed plan = plan
