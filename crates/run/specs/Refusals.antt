-- One call, and more, for each number of the run, and one that is done: one table, whose one statement is proofs/Refusals.antt. Exchanging two
-- numbers breaks it. The numbers of sheets are in crates/sheet/specs/Refusals.antt.
use Rattle.std.specs.Prelude.{◌≡◌, List, [], ◌∷◌, ℕ}
use Rattle.run.specs.Numbers.{run_number}
use Rattle.run.specs.Run.{run_job}
use Rattle.jobs.specs.Sheets.{lent, sheet_b}

-- a run with a buffer of so many bytes
pub data Lent : Type 0 where
  Run : (sheet : List ℕ) (buffer : ℕ) → Lent

-- the number that the call answers, 0 where it is done
abbrev pub numbers_of : Lent → List ℕ
numbers_of (Run s b) = run_number (run_job s (lent b)).answer.outcome ∷ []

pub record Numbered : Type 0 where
  pub numbers : List ℕ
  pub call : Lent

abbrev pub AllNumbered : List Numbered → Type 0
AllNumbered [] = Unit {0}
AllNumbered (r ∷ l) = (numbers_of r.call ≡ r.numbers) × AllNumbered l

-- Most rows have a later fault too, so that the order is pinned with the numbers.
abbrev pub rows : List Numbered
rows =
    -- the buffer: 21 bytes are needed
    record { numbers = 10 ∷ []; call = Run sheet_b 20 }
    ∷ record { numbers = 0 ∷ []; call = Run sheet_b 21 }
    ∷ []
