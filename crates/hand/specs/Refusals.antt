-- One call, and more, for each number of taking out by hand, and one that is done: one table, whose one statement is proofs/Refusals.antt. Exchanging two
-- numbers breaks it. The numbers of sheets are in crates/sheet/specs/Refusals.antt.
use Rattle.std.specs.Prelude.{◌≡◌, List, [], ◌∷◌, ℕ}
use Rattle.hand.specs.Numbers.{start_number, call_number}
use Rattle.hand.specs.Hand.{start_job, call_job}
use Rattle.jobs.specs.Sheets.{masks, sheet_b, sheet_c}

-- a call with what is lent to it
pub data Lent : Type 0 where
  Start : (sheet : List ℕ) → Lent
  -- a hand call in the state with these items in and these settings on
  Hand : (sheet : List ℕ) (active : ℕ) (domains : List ℕ) (item : ℕ) → Lent

-- the number that the call answers, 0 where it is done
abbrev pub numbers_of : Lent → List ℕ
numbers_of (Start s) = start_number (start_job s).outcome ∷ []
numbers_of (Hand s a d i) = call_number (call_job s (record { masks = masks a d }) i).outcome ∷ []

pub record Numbered : Type 0 where
  pub numbers : List ℕ
  pub call : Lent

abbrev pub AllNumbered : List Numbered → Type 0
AllNumbered [] = Unit {0}
AllNumbered (r ∷ l) = (numbers_of r.call ≡ r.numbers) × AllNumbered l

-- Most rows have a later fault too, so that the order is pinned with the numbers.
abbrev pub rows : List Numbered
rows =
    record { numbers = 0 ∷ []; call = Start sheet_b }
    -- item 2 is in and not below 2; item 1 is out and has a setting on; setting 2 is on and not below 2
    ∷ record { numbers = 11 ∷ []; call = Hand sheet_b 7 (3 ∷ 3 ∷ 0 ∷ []) 9 }
    ∷ record { numbers = 11 ∷ []; call = Hand sheet_b 1 (0 ∷ 3 ∷ []) 0 }
    ∷ record { numbers = 11 ∷ []; call = Hand sheet_b 3 (7 ∷ 0 ∷ []) 0 }
    -- item 2 is not below 2; item 0 is out
    ∷ record { numbers = 12 ∷ []; call = Hand sheet_b 3 (3 ∷ 0 ∷ []) 2 }
    ∷ record { numbers = 12 ∷ []; call = Hand sheet_b 2 (0 ∷ 0 ∷ []) 0 }
    -- item 2, which is not the one named, has no setting on
    ∷ record { numbers = 13 ∷ []; call = Hand sheet_c 7 (3 ∷ 3 ∷ 0 ∷ []) 0 }
    ∷ record { numbers = 14 ∷ []; call = Hand sheet_c 7 (3 ∷ 3 ∷ 3 ∷ []) 0 }
    ∷ record { numbers = 0 ∷ []; call = Hand sheet_b 3 (3 ∷ 3 ∷ []) 0 }
    ∷ []
