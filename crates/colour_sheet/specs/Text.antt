-- What the program colour_sheet writes.
use Rattle.std.specs.Prelude.{List, ℕ, take, Ok, Err}
use Rattle.fields.specs.Print.{refused_line}
use Rattle.colour.specs.Colour.{Coloured, ColourResult, colour_number}

-- by the job's answer: the bytes that it wrote at the buffer's front, or the line with the refusal's number
abbrev pub answer_text : Coloured → List ℕ → List ℕ
answer_text (Ok w) b = take w b
answer_text (Err r) b = refused_line (colour_number r)

-- what is written of what the job answers and leaves
abbrev pub coloured_text : ColourResult → List ℕ
coloured_text c = answer_text c.answer c.buffer
