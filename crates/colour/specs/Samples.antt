-- Small colouring files, for each number of the table, and files that are taken: one statement, proofs/Samples.antt. Exchanging two numbers
-- breaks it.
use Rattle.std.specs.Prelude.{◌≡◌, List, [], ◌∷◌, ℕ, replicate}
use Rattle.colour.specs.Colour.{coloured_number, colour_job}

-- a file, a channel count, the length of the buffer that is lent, and the number that is answered
pub record Sample : Type 0 where
  pub number : ℕ
  pub channels : ℕ
  pub room : ℕ
  pub file : List ℕ

abbrev pub AllSampled : List Sample → Type 0
AllSampled [] = Unit {0}
AllSampled (r ∷ l) = (coloured_number (colour_job r.file r.channels (replicate r.room 0)).answer ≡ r.number) × AllSampled l

abbrev pub samples : List Sample
samples =
    -- the three loggers of the format, without their comment, and with an edge given again, the other way round
    record { number = 0; channels = 2; room = 23; file = 112 ∷ 32 ∷ 101 ∷ 100 ∷ 103 ∷ 101 ∷ 32 ∷ 51 ∷ 32 ∷ 51 ∷ 10 ∷ 101 ∷ 32 ∷ 49 ∷ 32 ∷ 50 ∷ 10 ∷ 101 ∷ 32 ∷ 51 ∷ 32 ∷ 50 ∷ 10 ∷ 101 ∷ 32 ∷ 50 ∷ 32 ∷ 49 ∷ [] }
    -- comments: `c` alone, another word, any bytes; after the last edge too; one vertex, no edge
    ∷ record { number = 0; channels = 16; room = 9; file = 99 ∷ 10 ∷ 99 ∷ 97 ∷ 116 ∷ 13 ∷ 0 ∷ 255 ∷ 10 ∷ 112 ∷ 32 ∷ 101 ∷ 100 ∷ 103 ∷ 101 ∷ 32 ∷ 49 ∷ 32 ∷ 48 ∷ 10 ∷ 99 ∷ [] }
    -- leading zeros within nine digits, and no newline at the end
    ∷ record { number = 0; channels = 1; room = 14; file = 112 ∷ 32 ∷ 101 ∷ 100 ∷ 103 ∷ 101 ∷ 32 ∷ 48 ∷ 48 ∷ 48 ∷ 48 ∷ 48 ∷ 48 ∷ 48 ∷ 48 ∷ 50 ∷ 32 ∷ 49 ∷ 10 ∷ 101 ∷ 32 ∷ 50 ∷ 32 ∷ 48 ∷ 49 ∷ [] }
    -- the empty file, only a comment, a blank line, two newlines at the end
    ∷ record { number = 21; channels = 1; room = 0; file = [] }
    ∷ record { number = 21; channels = 1; room = 0; file = 99 ∷ 32 ∷ 120 ∷ 10 ∷ [] }
    ∷ record { number = 21; channels = 1; room = 0; file = 10 ∷ 112 ∷ 32 ∷ 101 ∷ 100 ∷ 103 ∷ 101 ∷ 32 ∷ 49 ∷ 32 ∷ 48 ∷ 10 ∷ [] }
    ∷ record { number = 21; channels = 1; room = 0; file = 112 ∷ 32 ∷ 101 ∷ 100 ∷ 103 ∷ 101 ∷ 32 ∷ 49 ∷ 32 ∷ 48 ∷ 10 ∷ 10 ∷ [] }
    -- another word, two spaces, a space at the end, a tab, a carriage return, a sign, ten digits, one number
    ∷ record { number = 21; channels = 1; room = 0; file = 112 ∷ 32 ∷ 99 ∷ 111 ∷ 108 ∷ 32 ∷ 49 ∷ 32 ∷ 48 ∷ 10 ∷ [] }
    ∷ record { number = 21; channels = 1; room = 0; file = 112 ∷ 32 ∷ 101 ∷ 100 ∷ 103 ∷ 101 ∷ 32 ∷ 32 ∷ 49 ∷ 32 ∷ 48 ∷ 10 ∷ [] }
    ∷ record { number = 21; channels = 1; room = 0; file = 112 ∷ 32 ∷ 101 ∷ 100 ∷ 103 ∷ 101 ∷ 32 ∷ 49 ∷ 32 ∷ 48 ∷ 32 ∷ 10 ∷ [] }
    ∷ record { number = 21; channels = 1; room = 0; file = 112 ∷ 32 ∷ 101 ∷ 100 ∷ 103 ∷ 101 ∷ 9 ∷ 49 ∷ 32 ∷ 48 ∷ 10 ∷ [] }
    ∷ record { number = 21; channels = 1; room = 0; file = 112 ∷ 32 ∷ 101 ∷ 100 ∷ 103 ∷ 101 ∷ 32 ∷ 49 ∷ 32 ∷ 48 ∷ 13 ∷ 10 ∷ [] }
    ∷ record { number = 21; channels = 1; room = 0; file = 112 ∷ 32 ∷ 101 ∷ 100 ∷ 103 ∷ 101 ∷ 32 ∷ 43 ∷ 49 ∷ 32 ∷ 48 ∷ 10 ∷ [] }
    ∷ record { number = 21; channels = 1; room = 0; file = 112 ∷ 32 ∷ 101 ∷ 100 ∷ 103 ∷ 101 ∷ 32 ∷ 48 ∷ 48 ∷ 48 ∷ 48 ∷ 48 ∷ 48 ∷ 48 ∷ 48 ∷ 48 ∷ 49 ∷ 32 ∷ 48 ∷ 10 ∷ [] }
    ∷ record { number = 21; channels = 1; room = 0; file = 112 ∷ 32 ∷ 101 ∷ 100 ∷ 103 ∷ 101 ∷ 32 ∷ 49 ∷ 10 ∷ [] }
    -- a second `p` line, and one after an `e` line
    ∷ record { number = 21; channels = 1; room = 0; file = 112 ∷ 32 ∷ 101 ∷ 100 ∷ 103 ∷ 101 ∷ 32 ∷ 49 ∷ 32 ∷ 48 ∷ 10 ∷ 112 ∷ 32 ∷ 101 ∷ 100 ∷ 103 ∷ 101 ∷ 32 ∷ 49 ∷ 32 ∷ 48 ∷ 10 ∷ [] }
    ∷ record { number = 21; channels = 1; room = 0; file = 101 ∷ 32 ∷ 49 ∷ 32 ∷ 50 ∷ 10 ∷ 112 ∷ 32 ∷ 101 ∷ 100 ∷ 103 ∷ 101 ∷ 32 ∷ 50 ∷ 32 ∷ 49 ∷ 10 ∷ [] }
    -- vertex 0, a vertex above the stated number, and one in the last line after a loop
    ∷ record { number = 21; channels = 1; room = 0; file = 112 ∷ 32 ∷ 101 ∷ 100 ∷ 103 ∷ 101 ∷ 32 ∷ 50 ∷ 32 ∷ 49 ∷ 10 ∷ 101 ∷ 32 ∷ 48 ∷ 32 ∷ 49 ∷ 10 ∷ [] }
    ∷ record { number = 21; channels = 1; room = 0; file = 112 ∷ 32 ∷ 101 ∷ 100 ∷ 103 ∷ 101 ∷ 32 ∷ 50 ∷ 32 ∷ 49 ∷ 10 ∷ 101 ∷ 32 ∷ 49 ∷ 32 ∷ 51 ∷ 10 ∷ [] }
    ∷ record { number = 21; channels = 1; room = 0; file = 112 ∷ 32 ∷ 101 ∷ 100 ∷ 103 ∷ 101 ∷ 32 ∷ 50 ∷ 32 ∷ 50 ∷ 10 ∷ 101 ∷ 32 ∷ 49 ∷ 32 ∷ 49 ∷ 10 ∷ 101 ∷ 32 ∷ 49 ∷ 32 ∷ 51 ∷ 10 ∷ [] }
    -- a loop, its number written in two ways, with too few lines beside it
    ∷ record { number = 22; channels = 1; room = 0; file = 112 ∷ 32 ∷ 101 ∷ 100 ∷ 103 ∷ 101 ∷ 32 ∷ 55 ∷ 32 ∷ 57 ∷ 10 ∷ 101 ∷ 32 ∷ 55 ∷ 32 ∷ 48 ∷ 48 ∷ 55 ∷ 10 ∷ [] }
    -- one line too few, and one too many though the edge is the same, with no channel beside it
    ∷ record { number = 23; channels = 0; room = 0; file = 112 ∷ 32 ∷ 101 ∷ 100 ∷ 103 ∷ 101 ∷ 32 ∷ 50 ∷ 32 ∷ 50 ∷ 10 ∷ 101 ∷ 32 ∷ 49 ∷ 32 ∷ 50 ∷ 10 ∷ [] }
    ∷ record { number = 23; channels = 0; room = 0; file = 112 ∷ 32 ∷ 101 ∷ 100 ∷ 103 ∷ 101 ∷ 32 ∷ 50 ∷ 32 ∷ 49 ∷ 10 ∷ 101 ∷ 32 ∷ 49 ∷ 32 ∷ 50 ∷ 10 ∷ 101 ∷ 32 ∷ 50 ∷ 32 ∷ 49 ∷ 10 ∷ [] }
    -- vertices beyond 32 and none; channels 17 and 0
    ∷ record { number = 24; channels = 1; room = 0; file = 112 ∷ 32 ∷ 101 ∷ 100 ∷ 103 ∷ 101 ∷ 32 ∷ 49 ∷ 48 ∷ 48 ∷ 32 ∷ 49 ∷ 10 ∷ 101 ∷ 32 ∷ 57 ∷ 57 ∷ 32 ∷ 49 ∷ 48 ∷ 48 ∷ 10 ∷ [] }
    ∷ record { number = 24; channels = 1; room = 0; file = 112 ∷ 32 ∷ 101 ∷ 100 ∷ 103 ∷ 101 ∷ 32 ∷ 48 ∷ 32 ∷ 48 ∷ 10 ∷ [] }
    ∷ record { number = 24; channels = 17; room = 0; file = 112 ∷ 32 ∷ 101 ∷ 100 ∷ 103 ∷ 101 ∷ 32 ∷ 49 ∷ 32 ∷ 48 ∷ 10 ∷ [] }
    ∷ record { number = 24; channels = 0; room = 0; file = 112 ∷ 32 ∷ 101 ∷ 100 ∷ 103 ∷ 101 ∷ 32 ∷ 49 ∷ 32 ∷ 48 ∷ 10 ∷ [] }
    -- a buffer that is one byte short
    ∷ record { number = 25; channels = 1; room = 8; file = 112 ∷ 32 ∷ 101 ∷ 100 ∷ 103 ∷ 101 ∷ 32 ∷ 49 ∷ 32 ∷ 48 ∷ 10 ∷ [] }
    ∷ []

-- the three loggers of the format with two channels: the file, and the sheet
abbrev pub loggers_file : List ℕ
loggers_file = 99 ∷ 32 ∷ 116 ∷ 104 ∷ 114 ∷ 101 ∷ 101 ∷ 32 ∷ 108 ∷ 111 ∷ 103 ∷ 103 ∷ 101 ∷ 114 ∷ 115 ∷ 32 ∷ 105 ∷ 110 ∷ 32 ∷ 97 ∷ 32 ∷ 114 ∷ 111 ∷ 119 ∷ 59 ∷ 32 ∷ 116 ∷ 104 ∷ 101 ∷ 32 ∷ 109 ∷ 105 ∷ 100 ∷ 100 ∷ 108 ∷ 101 ∷ 32 ∷ 111 ∷ 110 ∷ 101 ∷ 32 ∷ 104 ∷ 101 ∷ 97 ∷ 114 ∷ 115 ∷ 32 ∷ 98 ∷ 111 ∷ 116 ∷ 104 ∷ 32 ∷ 111 ∷ 116 ∷ 104 ∷ 101 ∷ 114 ∷ 115 ∷ 10 ∷ 112 ∷ 32 ∷ 101 ∷ 100 ∷ 103 ∷ 101 ∷ 32 ∷ 51 ∷ 32 ∷ 50 ∷ 10 ∷ 101 ∷ 32 ∷ 49 ∷ 32 ∷ 50 ∷ 10 ∷ 101 ∷ 32 ∷ 51 ∷ 32 ∷ 50 ∷ 10 ∷ []

abbrev pub loggers_sheet : List ℕ
loggers_sheet = 1 ∷ 0 ∷ 0 ∷ 0 ∷ 23 ∷ 3 ∷ 0 ∷ 2 ∷ 2 ∷ 2 ∷ 2 ∷ 0 ∷ 1 ∷ 0 ∷ 2 ∷ 0 ∷ 1 ∷ 1 ∷ 2 ∷ 0 ∷ 2 ∷ 0 ∷ 1 ∷ []
