-- One sheet, and more, for each number of the table's rows for sheets, and sheets that keep the layout: one statement, proofs/Refusals.antt.
-- Exchanging two numbers breaks it.
use Rattle.std.specs.Prelude.{◌≡◌, List, [], ◌∷◌, ℕ, Err, Ok}
use Rattle.sheet.specs.Sheet.{layout, read_sheet, sheet_number, SheetRead}

-- the number of what reading finds: the refusal's, 0 where the sheet keeps the layout
abbrev pub reading_number : SheetRead → ℕ
reading_number (Err r) = sheet_number r
reading_number (Ok _) = 0

pub record Numbered : Type 0 where
  pub number : ℕ
  pub sheet : List ℕ

abbrev pub AllNumbered : List Numbered → Type 0
AllNumbered [] = Unit {0}
AllNumbered (r ∷ l) = (reading_number (read_sheet layout r.sheet) ≡ r.number) × AllNumbered l

abbrev pub rows : List Numbered
rows =
    -- fewer than 8 bytes: none, and seven
    record { number = 1; sheet = [] }
    ∷ record { number = 1; sheet = 1 ∷ 0 ∷ 0 ∷ 0 ∷ 7 ∷ 1 ∷ 0 ∷ [] }
    -- byte 0 is neither 1 nor 2
    ∷ record { number = 2; sheet = 0 ∷ 0 ∷ 0 ∷ 0 ∷ 9 ∷ 1 ∷ 0 ∷ 0 ∷ 2 ∷ [] }
    ∷ record { number = 2; sheet = 3 ∷ 0 ∷ 0 ∷ 0 ∷ 9 ∷ 1 ∷ 0 ∷ 0 ∷ 2 ∷ [] }
    -- the stated length is one more than the length lent
    ∷ record { number = 3; sheet = 1 ∷ 0 ∷ 0 ∷ 0 ∷ 10 ∷ 1 ∷ 0 ∷ 0 ∷ 2 ∷ [] }
    -- no item, and 33 items
    ∷ record { number = 4; sheet = 1 ∷ 0 ∷ 0 ∷ 0 ∷ 9 ∷ 0 ∷ 0 ∷ 0 ∷ 2 ∷ [] }
    ∷ record { number = 4; sheet = 1 ∷ 0 ∷ 0 ∷ 0 ∷ 9 ∷ 33 ∷ 0 ∷ 0 ∷ 2 ∷ [] }
    -- a size is missing, 0, and 17
    ∷ record { number = 5; sheet = 1 ∷ 0 ∷ 0 ∷ 0 ∷ 9 ∷ 2 ∷ 0 ∷ 0 ∷ 2 ∷ [] }
    ∷ record { number = 5; sheet = 1 ∷ 0 ∷ 0 ∷ 0 ∷ 9 ∷ 1 ∷ 0 ∷ 0 ∷ 0 ∷ [] }
    ∷ record { number = 5; sheet = 1 ∷ 0 ∷ 0 ∷ 0 ∷ 9 ∷ 1 ∷ 0 ∷ 0 ∷ 17 ∷ [] }
    -- the item bytes are missing, the rows cut short, a byte left over
    ∷ record { number = 6; sheet = 1 ∷ 0 ∷ 0 ∷ 0 ∷ 11 ∷ 2 ∷ 0 ∷ 1 ∷ 2 ∷ 2 ∷ 0 ∷ [] }
    ∷ record { number = 6; sheet = 1 ∷ 0 ∷ 0 ∷ 0 ∷ 15 ∷ 2 ∷ 0 ∷ 1 ∷ 2 ∷ 2 ∷ 0 ∷ 1 ∷ 0 ∷ 2 ∷ 0 ∷ [] }
    ∷ record { number = 6; sheet = 1 ∷ 0 ∷ 0 ∷ 0 ∷ 10 ∷ 1 ∷ 0 ∷ 0 ∷ 2 ∷ 0 ∷ [] }
    -- items turned, and an item that is not below n
    ∷ record { number = 7; sheet = 1 ∷ 0 ∷ 0 ∷ 0 ∷ 16 ∷ 2 ∷ 0 ∷ 1 ∷ 2 ∷ 2 ∷ 1 ∷ 0 ∷ 0 ∷ 2 ∷ 0 ∷ 1 ∷ [] }
    ∷ record { number = 7; sheet = 1 ∷ 0 ∷ 0 ∷ 0 ∷ 16 ∷ 2 ∷ 0 ∷ 1 ∷ 2 ∷ 2 ∷ 0 ∷ 2 ∷ 0 ∷ 2 ∷ 0 ∷ 1 ∷ [] }
    -- a block twice
    ∷ record { number = 7; sheet = 1 ∷ 0 ∷ 0 ∷ 0 ∷ 22 ∷ 2 ∷ 0 ∷ 2 ∷ 2 ∷ 2 ∷ 0 ∷ 1 ∷ 0 ∷ 2 ∷ 0 ∷ 1 ∷ 0 ∷ 1 ∷ 0 ∷ 2 ∷ 0 ∷ 1 ∷ [] }
    -- a bit for a setting that j lacks
    ∷ record { number = 8; sheet = 1 ∷ 0 ∷ 0 ∷ 0 ∷ 16 ∷ 2 ∷ 0 ∷ 1 ∷ 2 ∷ 2 ∷ 0 ∷ 1 ∷ 0 ∷ 4 ∷ 0 ∷ 1 ∷ [] }
    -- a block that bars nothing
    ∷ record { number = 9; sheet = 1 ∷ 0 ∷ 0 ∷ 0 ∷ 16 ∷ 2 ∷ 0 ∷ 1 ∷ 2 ∷ 2 ∷ 0 ∷ 1 ∷ 0 ∷ 3 ∷ 0 ∷ 3 ∷ [] }
    -- "A block that bars everything is accepted"
    ∷ record { number = 0; sheet = 1 ∷ 0 ∷ 0 ∷ 0 ∷ 16 ∷ 2 ∷ 0 ∷ 1 ∷ 2 ∷ 2 ∷ 0 ∷ 1 ∷ 0 ∷ 0 ∷ 0 ∷ 0 ∷ [] }
    ∷ record { number = 0; sheet = 1 ∷ 0 ∷ 0 ∷ 0 ∷ 16 ∷ 2 ∷ 0 ∷ 1 ∷ 2 ∷ 2 ∷ 0 ∷ 1 ∷ 0 ∷ 2 ∷ 0 ∷ 1 ∷ [] }
    -- version 2: "a row has one byte when item j has 8 settings or fewer", so that the rows above are two bytes too long; cut short; a bit for
    -- a setting that j lacks; a block that bars nothing; and one that is accepted
    ∷ record { number = 6; sheet = 2 ∷ 0 ∷ 0 ∷ 0 ∷ 16 ∷ 2 ∷ 0 ∷ 1 ∷ 2 ∷ 2 ∷ 0 ∷ 1 ∷ 2 ∷ 1 ∷ 0 ∷ 1 ∷ [] }
    ∷ record { number = 6; sheet = 2 ∷ 0 ∷ 0 ∷ 0 ∷ 13 ∷ 2 ∷ 0 ∷ 1 ∷ 2 ∷ 2 ∷ 0 ∷ 1 ∷ 2 ∷ [] }
    ∷ record { number = 8; sheet = 2 ∷ 0 ∷ 0 ∷ 0 ∷ 14 ∷ 2 ∷ 0 ∷ 1 ∷ 2 ∷ 2 ∷ 0 ∷ 1 ∷ 2 ∷ 4 ∷ [] }
    ∷ record { number = 9; sheet = 2 ∷ 0 ∷ 0 ∷ 0 ∷ 14 ∷ 2 ∷ 0 ∷ 1 ∷ 2 ∷ 2 ∷ 0 ∷ 1 ∷ 3 ∷ 3 ∷ [] }
    ∷ record { number = 0; sheet = 2 ∷ 0 ∷ 0 ∷ 0 ∷ 14 ∷ 2 ∷ 0 ∷ 1 ∷ 2 ∷ 2 ∷ 0 ∷ 1 ∷ 2 ∷ 1 ∷ [] }
    -- version 2, 8 settings of j: one byte a row, and no bit is beyond; 9: two bytes, of which one is missing, and both
    ∷ record { number = 0; sheet = 2 ∷ 0 ∷ 0 ∷ 0 ∷ 13 ∷ 2 ∷ 0 ∷ 1 ∷ 1 ∷ 8 ∷ 0 ∷ 1 ∷ 254 ∷ [] }
    ∷ record { number = 6; sheet = 2 ∷ 0 ∷ 0 ∷ 0 ∷ 13 ∷ 2 ∷ 0 ∷ 1 ∷ 1 ∷ 9 ∷ 0 ∷ 1 ∷ 254 ∷ [] }
    ∷ record { number = 0; sheet = 2 ∷ 0 ∷ 0 ∷ 0 ∷ 14 ∷ 2 ∷ 0 ∷ 1 ∷ 1 ∷ 9 ∷ 0 ∷ 1 ∷ 1 ∷ 254 ∷ [] }
    ∷ []
