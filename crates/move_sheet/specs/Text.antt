-- What the program move_sheet writes.
use Rattle.std.specs.Prelude.{List, ℕ, take, Ok, Err}
use Rattle.fields.specs.Print.{refused_line}
use Rattle.moved.specs.Move.{Moved, MoveResult, move_number}

-- by the job's answer: the bytes that it wrote at the target's front, or the line with the refusal's number
abbrev pub answer_text : Moved → List ℕ → List ℕ
answer_text (Ok w) b = take w b
answer_text (Err r) b = refused_line (move_number r)

-- what is written of what the job answers and leaves
abbrev pub moved_text : MoveResult → List ℕ
moved_text m = answer_text m.answer m.target
