-- The format's number for each refusal of putting back, in the order of its table, and of its answer: 0 where there is no refusal.
use Rattle.std.specs.Prelude.{ℕ, Result, Ok, Err}
use Rattle.sheet.specs.Sheet.{sheet_number}
use Rattle.put_back.specs.declared.PutBackRefusal.{PutBackRefusal}
use Rattle.put_back.specs.declared.PutBackRefusal.TheVariants as refusal

-- what putting back answers: nothing, or why it is refused
abbrev pub PutBackOutcome : Type 0
PutBackOutcome = Result (Unit {0}) PutBackRefusal

abbrev pub put_back_refusal_number : PutBackRefusal → ℕ
put_back_refusal_number (refusal.Sheet r) = sheet_number r
put_back_refusal_number refusal.PlanLength = 18
put_back_refusal_number refusal.ResultLength = 20
put_back_refusal_number refusal.TraceFront = 15
put_back_refusal_number refusal.Malformed = 16
put_back_refusal_number (refusal.Unlawful k l c) = 17
put_back_refusal_number refusal.Plan = 19

abbrev pub put_back_number : PutBackOutcome → ℕ
put_back_number (Ok _) = 0
put_back_number (Err r) = put_back_refusal_number r
