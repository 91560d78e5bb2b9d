-- What the exported call that writes the sheet of a colouring graph answers, as one number, and what it leaves in the buffer lent for the sheet.
-- A refusal is a number from 1 to 255, and every other answer is a multiple of 256.
use Rattle.std.specs.Prelude.{List, ℕ, Ok, Err}
use Rattle.colour.specs.Colour.{Coloured, colour_number, colour_job}
use Rattle.boundary.specs.Numbers.{written_number}

-- the answer and the sheet's buffer
pub record ColourCall : Type 0 where
  pub answer : ℕ
  pub sheet : List ℕ

-- from what the job answers and the buffer b as it leaves it
abbrev pub colour_crossed : Coloured → List ℕ → ColourCall
colour_crossed (Ok w) b = record { answer = written_number w; sheet = b }
colour_crossed (Err r) b = record { answer = colour_number r; sheet = b }

-- the file f, k channels and the sheet's buffer b
unfoldable pub colour_call : (f : List ℕ) (k : ℕ) (b : List ℕ) → ColourCall
colour_call f k b = colour_crossed (colour_job f k b).answer (colour_job f k b).buffer
