-- The starred sheets moved, both ways, and some moves as a caller makes them: a statement for each table, proofs/Samples.antt.
use Rattle.std.specs.Prelude.{◌≡◌, List, [], ◌∷◌, ◌++◌, ℕ, ◌-◌, length}
use Rattle.jobs.specs.Sheets.{lent, sheet_a, short_a, sheet_b, short_b}
use Rattle.starred.specs.Starred.{Row}
use Rattle.moved.specs.Move.{moved_number, moved_bytes, move_job}

-- each sheet of a table and its version 2 are each the other, moved
abbrev pub AllMoved : List Row → Type 0
AllMoved [] = Unit {0}
AllMoved (r ∷ l) = (moved_bytes r.sheet ≡ r.shorter) × ((moved_bytes r.shorter ≡ r.sheet) × AllMoved l)

-- a move of a sheet into a target of so many bytes: the number, 0 where there is no refusal, and the bytes written, with the target's old
-- bytes after them
pub record MoveSample : Type 0 where
  pub number : ℕ
  pub sheet : List ℕ
  pub room : ℕ
  pub written : List ℕ

abbrev pub AllSampled : List MoveSample → Type 0
AllSampled [] = Unit {0}
AllSampled (r ∷ l) =
    (moved_number (move_job r.sheet (lent r.room)).answer ≡ r.number)
    × (((move_job r.sheet (lent r.room)).target ≡ r.written ++ lent (r.room - length r.written)) × AllSampled l)

-- "Both widths in one sheet": items of 8, 9 and 8 settings, in version 2 and in version 1
abbrev pub mixed : List ℕ
mixed =
    2 ∷ 0 ∷ 0 ∷ 0 ∷ 40 ∷ 3 ∷ 0 ∷ 2 ∷ 8 ∷ 9 ∷ 8
    ∷ 0 ∷ 1
    ∷ 0 ∷ 3 ∷ 0 ∷ 6 ∷ 0 ∷ 12 ∷ 0 ∷ 24 ∷ 0 ∷ 48 ∷ 0 ∷ 96 ∷ 0 ∷ 192 ∷ 1 ∷ 128
    ∷ 1 ∷ 2
    ∷ 1 ∷ 2 ∷ 4 ∷ 8 ∷ 16 ∷ 32 ∷ 64 ∷ 128 ∷ 1
    ∷ []

abbrev pub mixed_wide : List ℕ
mixed_wide =
    1 ∷ 0 ∷ 0 ∷ 0 ∷ 49 ∷ 3 ∷ 0 ∷ 2 ∷ 8 ∷ 9 ∷ 8
    ∷ 0 ∷ 1
    ∷ 0 ∷ 3 ∷ 0 ∷ 6 ∷ 0 ∷ 12 ∷ 0 ∷ 24 ∷ 0 ∷ 48 ∷ 0 ∷ 96 ∷ 0 ∷ 192 ∷ 1 ∷ 128
    ∷ 1 ∷ 2
    ∷ 0 ∷ 1 ∷ 0 ∷ 2 ∷ 0 ∷ 4 ∷ 0 ∷ 8 ∷ 0 ∷ 16 ∷ 0 ∷ 32 ∷ 0 ∷ 64 ∷ 0 ∷ 128 ∷ 0 ∷ 1
    ∷ []

-- items of 9 and 10 settings, setting a of one allowed with a + 1 of the other: only byte 0 differs
abbrev pub wide : ℕ → List ℕ
wide v =
    v ∷ 0 ∷ 0 ∷ 0 ∷ 30 ∷ 2 ∷ 0 ∷ 1 ∷ 9 ∷ 10
    ∷ 0 ∷ 1
    ∷ 0 ∷ 2 ∷ 0 ∷ 4 ∷ 0 ∷ 8 ∷ 0 ∷ 16 ∷ 0 ∷ 32 ∷ 0 ∷ 64 ∷ 0 ∷ 128 ∷ 1 ∷ 0 ∷ 2 ∷ 0
    ∷ []

abbrev pub samples : List MoveSample
samples =
    record { number = 0; sheet = mixed; room = 49; written = mixed_wide }
    ∷ record { number = 0; sheet = mixed_wide; room = 42; written = mixed }
    ∷ record { number = 0; sheet = wide 1; room = 30; written = wide 2 }
    ∷ record { number = 0; sheet = wide 2; room = 30; written = wide 1 }
    -- a sheet without a block
    ∷ record { number = 0; sheet = sheet_a; room = 11; written = short_a }
    -- the target is one byte short, and just long enough; so also back
    ∷ record { number = 26; sheet = sheet_b; room = 13; written = [] }
    ∷ record { number = 0; sheet = sheet_b; room = 14; written = short_b }
    ∷ record { number = 26; sheet = short_b; room = 15; written = [] }
    ∷ record { number = 0; sheet = short_b; room = 16; written = sheet_b }
    -- the sheet's own come before 26: byte 0 is 3; a version 2 sheet cut by one; a row byte with a bit beyond
    ∷ record { number = 2; sheet = 3 ∷ 0 ∷ 0 ∷ 0 ∷ 9 ∷ 1 ∷ 0 ∷ 0 ∷ 2 ∷ []; room = 0; written = [] }
    ∷ record { number = 6; sheet = 2 ∷ 0 ∷ 0 ∷ 0 ∷ 13 ∷ 2 ∷ 0 ∷ 1 ∷ 2 ∷ 2 ∷ 0 ∷ 1 ∷ 2 ∷ []; room = 0; written = [] }
    ∷ record { number = 8; sheet = 2 ∷ 0 ∷ 0 ∷ 0 ∷ 14 ∷ 2 ∷ 0 ∷ 1 ∷ 2 ∷ 2 ∷ 0 ∷ 1 ∷ 2 ∷ 4 ∷ []; room = 20; written = [] }
    ∷ []
