-- What the exported read check answers, as one number.
-- The low byte of the answer is the number of the refusal, from 1 to 255, or 0 where there is none. Above it stand the parts of what was done.
use Rattle.std.specs.Prelude.{List, ℕ, ◌+◌, ◌*◌, Err, Ok}
use Rattle.sheet.specs.Sheet.{layout, read_sheet, sheet_number, SheetRead}

-- bits 0-7 the refusal, bits 8-15 the variables, bits 16-31 the blocks
abbrev pub read_number : SheetRead → ℕ
read_number (Err r) = sheet_number r
read_number (Ok a) = 256 * (a.variables + 256 * a.blocks)

abbrev pub read_call : List ℕ → ℕ
read_call s = read_number (read_sheet layout s)
