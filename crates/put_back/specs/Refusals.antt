-- One call, and more, for each number of putting back, and one that is done: one table, whose one statement is proofs/Refusals.antt. Exchanging two
-- numbers breaks it. The numbers of sheets are in crates/sheet/specs/Refusals.antt.
use Rattle.std.specs.Prelude.{◌≡◌, List, [], ◌∷◌, ℕ, Err, Ok}
use Rattle.put_back.specs.Numbers.{put_back_number, PutBackOutcome}
use Rattle.put_back.specs.PutBack.{put_back_job}
use Rattle.jobs.specs.Sheets.{lent, sheet_a, sheet_b, sheet_c, sheet_d}
use Rattle.put_back.specs.declared.PutBackRefusal.TheVariants as refusal

-- item 0 has one setting, which is barred with both of item 1; items 1 and 2 have two settings each and are unequal
abbrev pub sheet_cut : List ℕ
sheet_cut = 1 ∷ 0 ∷ 0 ∷ 0 ∷ 21 ∷ 3 ∷ 0 ∷ 2 ∷ 1 ∷ 2 ∷ 2 ∷ 0 ∷ 1 ∷ 0 ∷ 0 ∷ 1 ∷ 2 ∷ 0 ∷ 2 ∷ 0 ∷ 1 ∷ []

-- putting back into a buffer of so many bytes
pub data Lent : Type 0 where
  Back : (sheet trace plan : List ℕ) (result : ℕ) → Lent

-- what 17 carries beside its number: the record's number, the item and the setting
abbrev pub carried : PutBackOutcome → List ℕ
carried (Err (refusal.Unlawful k l c)) = k ∷ l ∷ c ∷ []
carried (Err (refusal.Sheet r)) = []
carried (Err refusal.PlanLength) = []
carried (Err refusal.ResultLength) = []
carried (Err refusal.TraceFront) = []
carried (Err refusal.Malformed) = []
carried (Err refusal.Plan) = []
carried (Ok _) = []

-- the number that the call answers, 0 where it is done, and what it carries
abbrev pub numbers_of : Lent → List ℕ
numbers_of (Back s t p b) = put_back_number (put_back_job s t p (lent b)).answer ∷ carried (put_back_job s t p (lent b)).answer

pub record Numbered : Type 0 where
  pub numbers : List ℕ
  pub call : Lent

abbrev pub AllNumbered : List Numbered → Type 0
AllNumbered [] = Unit {0}
AllNumbered (r ∷ l) = (numbers_of r.call ≡ r.numbers) × AllNumbered l

-- Most rows have a later fault too, so that the order is pinned with the numbers.
abbrev pub rows : List Numbered
rows =
    -- two bytes of plan, or of result, for one item
    record { numbers = 18 ∷ []; call = Back sheet_a [] (9 ∷ 9 ∷ []) 2 }
    ∷ record { numbers = 20 ∷ []; call = Back sheet_a [] (9 ∷ []) 2 }
    -- no byte; byte 0 is not 1
    ∷ record { numbers = 15 ∷ []; call = Back sheet_a [] (9 ∷ []) 1 }
    ∷ record { numbers = 15 ∷ []; call = Back sheet_a (2 ∷ 0 ∷ []) (9 ∷ []) 1 }
    -- cut short; an unknown kind; the length byte of another kind
    ∷ record { numbers = 16 ∷ []; call = Back sheet_a (1 ∷ 3 ∷ 2 ∷ 0 ∷ []) (9 ∷ []) 1 }
    ∷ record { numbers = 16 ∷ []; call = Back sheet_a (1 ∷ 3 ∷ 6 ∷ 0 ∷ 0 ∷ []) (9 ∷ []) 1 }
    ∷ record { numbers = 16 ∷ []; call = Back sheet_a (1 ∷ 4 ∷ 2 ∷ 0 ∷ 0 ∷ 0 ∷ []) (9 ∷ []) 1 }
    -- setting 2 of item 0, which has two; a record once item 0 has no setting on; an unlawful record before a malformed one
    ∷ record { numbers = 17 ∷ 0 ∷ 255 ∷ 255 ∷ []; call = Back sheet_a (1 ∷ 3 ∷ 2 ∷ 0 ∷ 2 ∷ []) (9 ∷ []) 1 }
    ∷ record { numbers = 17 ∷ 1 ∷ 255 ∷ 255 ∷ []; call = Back sheet_d (1 ∷ 4 ∷ 1 ∷ 0 ∷ 0 ∷ 1 ∷ 4 ∷ 1 ∷ 1 ∷ 0 ∷ 0 ∷ []) (0 ∷ 0 ∷ []) 2 }
    ∷ record { numbers = 17 ∷ 0 ∷ 255 ∷ 255 ∷ []; call = Back sheet_a (1 ∷ 3 ∷ 2 ∷ 0 ∷ 2 ∷ 3 ∷ []) (9 ∷ []) 1 }
    -- the cover of setting 0 of item 1 by setting 1 breaks at item 2, where setting 1 spoils it; record 1, whose cover breaks at item 1
    ∷ record { numbers = 17 ∷ 0 ∷ 2 ∷ 1 ∷ []; call = Back sheet_cut (1 ∷ 4 ∷ 4 ∷ 1 ∷ 0 ∷ 1 ∷ []) (9 ∷ 9 ∷ 9 ∷ []) 3 }
    ∷ record { numbers = 17 ∷ 1 ∷ 1 ∷ 1 ∷ []; call = Back sheet_cut (1 ∷ 4 ∷ 1 ∷ 1 ∷ 0 ∷ 0 ∷ 4 ∷ 4 ∷ 2 ∷ 0 ∷ 1 ∷ []) (9 ∷ 9 ∷ 9 ∷ []) 3 }
    -- the first of these with a = b, with b off, and with item 0 emptied; and a slide that does not hold
    ∷ record { numbers = 17 ∷ 0 ∷ 255 ∷ 255 ∷ []; call = Back sheet_cut (1 ∷ 4 ∷ 4 ∷ 1 ∷ 0 ∷ 0 ∷ []) (9 ∷ 9 ∷ 9 ∷ []) 3 }
    ∷ record { numbers = 17 ∷ 1 ∷ 255 ∷ 255 ∷ []; call = Back sheet_cut (1 ∷ 4 ∷ 1 ∷ 1 ∷ 0 ∷ 0 ∷ 4 ∷ 4 ∷ 1 ∷ 0 ∷ 1 ∷ []) (9 ∷ 9 ∷ 9 ∷ []) 3 }
    ∷ record { numbers = 17 ∷ 1 ∷ 255 ∷ 255 ∷ []; call = Back sheet_cut (1 ∷ 4 ∷ 1 ∷ 0 ∷ 0 ∷ 1 ∷ 4 ∷ 4 ∷ 1 ∷ 0 ∷ 1 ∷ []) (9 ∷ 9 ∷ 9 ∷ []) 3 }
    ∷ record { numbers = 17 ∷ 0 ∷ 255 ∷ 255 ∷ []; call = Back sheet_c (1 ∷ 4 ∷ 5 ∷ 1 ∷ 0 ∷ 1 ∷ []) (9 ∷ 9 ∷ 9 ∷ []) 3 }
    -- item 0 is out and not 255; setting 2 is not on; the pair is barred
    ∷ record { numbers = 19 ∷ []; call = Back sheet_a (1 ∷ 3 ∷ 2 ∷ 0 ∷ 0 ∷ []) (0 ∷ []) 1 }
    ∷ record { numbers = 19 ∷ []; call = Back sheet_a (1 ∷ []) (2 ∷ []) 1 }
    ∷ record { numbers = 19 ∷ []; call = Back sheet_b (1 ∷ []) (0 ∷ 0 ∷ []) 2 }
    ∷ record { numbers = 0 ∷ []; call = Back sheet_b (1 ∷ []) (0 ∷ 1 ∷ []) 2 }
    ∷ []
