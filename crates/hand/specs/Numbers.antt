-- The format's number for each refusal of the hand call, and of what starting and a hand call answer: 0 where there is no refusal.
use Rattle.std.specs.Prelude.{ℕ, Result, Ok, Err}
use Rattle.sheet.specs.Sheet.{sheet_number}
use Rattle.hand.specs.declared.HandRefusal.{HandRefusal}
use Rattle.hand.specs.declared.HandRefusal.TheVariants as refusal
use Rattle.sheet.specs.declared.SheetRefusal.{SheetRefusal}

-- what starting answers beside its state: nothing, or why the sheet is refused
abbrev pub StartOutcome : Type 0
StartOutcome = Result (Unit {0}) SheetRefusal

-- what a hand call answers beside its state: the value, or why it is refused
abbrev pub CallOutcome : Type 0
CallOutcome = Result ℕ HandRefusal

abbrev pub hand_refusal_number : HandRefusal → ℕ
hand_refusal_number (refusal.Sheet r) = sheet_number r
hand_refusal_number refusal.State = 11
hand_refusal_number refusal.Item = 12
hand_refusal_number refusal.Emptied = 13
hand_refusal_number refusal.Rule = 14

abbrev pub start_number : StartOutcome → ℕ
start_number (Ok _) = 0
start_number (Err r) = sheet_number r

abbrev pub call_number : CallOutcome → ℕ
call_number (Ok v) = 0
call_number (Err r) = hand_refusal_number r
