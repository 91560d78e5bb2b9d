-- Small sheets picked, each with a plan or none, and refused calls, as bytes: one table, whose one statement is proofs/Samples.antt.
use Rattle.std.specs.Prelude.{◌≡◌, List, [], ◌∷◌, ◌++◌, ℕ, ◌-◌, length, Err, true, false}
use Rattle.problem.specs.declared.End.TheVariants.{Impossible, Solved, Rest}
use Rattle.jobs.specs.Sheets.{lent, sheet_b, sheet_c, sheet_d, sheet_l}
use Rattle.pick.specs.Pick.{pick_job, PickOutcome, outcome_of}
use Rattle.pick.specs.declared.PickRefusal.TheVariants as refusal

-- a call, with a trace's buffer of so many bytes and the lent plan `before`: its outcome, the trace at the buffer's front, and the plan after
pub record Sample : Type 0 where
  pub sheet : List ℕ
  pub buffer : ℕ
  pub before : List ℕ
  pub outcome : PickOutcome
  pub trace : List ℕ
  pub after : List ℕ

abbrev pub Meets : Sample → Type 0
Meets r =
    let x = pick_job r.sheet (lent r.buffer) r.before in
    (x.answer.outcome ≡ r.outcome) × ((x.trace ≡ r.trace ++ lent (r.buffer - length r.trace)) × (x.plan ≡ r.after))

abbrev pub AllMeet : List Sample → Type 0
AllMeet [] = Unit {0}
AllMeet (r ∷ l) = Meets r × AllMeet l

-- items 0 and 1 equal; setting 0 of item 1 allowed with setting 0 of item 2 only. The first plan of the full sheet is 0 0 0.
abbrev pub sheet_fold : List ℕ
sheet_fold = 1 ∷ 0 ∷ 0 ∷ 0 ∷ 23 ∷ 3 ∷ 0 ∷ 2 ∷ 2 ∷ 2 ∷ 2 ∷ 0 ∷ 1 ∷ 0 ∷ 1 ∷ 0 ∷ 2 ∷ 1 ∷ 2 ∷ 0 ∷ 1 ∷ 0 ∷ 3 ∷ []

abbrev pub samples : List Sample
samples =
    record { sheet = sheet_b; buffer = 21; before = 9 ∷ 9 ∷ []; outcome = outcome_of true Solved 2 9; trace = 1 ∷ 3 ∷ 2 ∷ 0 ∷ 0 ∷ 3 ∷ 2 ∷ 1 ∷ 0 ∷ []; after = 0 ∷ 1 ∷ [] }
    -- not the first plan of the full sheet
    ∷ record {
      sheet = sheet_fold;
      buffer = 40;
      before = 9 ∷ 9 ∷ 9 ∷ [];
      outcome = outcome_of true Solved 3 13;
      trace = 1 ∷ 3 ∷ 2 ∷ 0 ∷ 1 ∷ 3 ∷ 2 ∷ 1 ∷ 0 ∷ 3 ∷ 2 ∷ 2 ∷ 0 ∷ [];
      after = 1 ∷ 1 ∷ 0 ∷ [];
    }
    -- items are left: the first plan among them
    ∷ record { sheet = sheet_l; buffer = 50; before = 9 ∷ 9 ∷ 9 ∷ []; outcome = outcome_of true Rest 2 11; trace = 1 ∷ 4 ∷ 5 ∷ 0 ∷ 1 ∷ 0 ∷ 4 ∷ 1 ∷ 1 ∷ 0 ∷ 0 ∷ []; after = 0 ∷ 1 ∷ 0 ∷ [] }
    -- none, at rest and where an item has no setting: the lent plan is as it was, and the trace is written
    ∷ record { sheet = sheet_c; buffer = 31; before = 9 ∷ 9 ∷ 9 ∷ []; outcome = outcome_of false Rest 0 1; trace = 1 ∷ []; after = 9 ∷ 9 ∷ 9 ∷ [] }
    ∷ record { sheet = sheet_d; buffer = 11; before = 9 ∷ 9 ∷ []; outcome = outcome_of false Impossible 1 6; trace = 1 ∷ 4 ∷ 1 ∷ 0 ∷ 0 ∷ 1 ∷ []; after = 9 ∷ 9 ∷ [] }
    -- 10 before 20, and 20 leaves the trace unwritten
    ∷ record { sheet = sheet_b; buffer = 20; before = 9 ∷ []; outcome = Err refusal.Buffer; trace = []; after = 9 ∷ [] }
    ∷ record { sheet = sheet_b; buffer = 21; before = 9 ∷ []; outcome = Err refusal.ResultLength; trace = []; after = 9 ∷ [] }
    ∷ record { sheet = sheet_b; buffer = 21; before = 9 ∷ 9 ∷ 9 ∷ []; outcome = Err refusal.ResultLength; trace = []; after = 9 ∷ 9 ∷ 9 ∷ [] }
    ∷ []
