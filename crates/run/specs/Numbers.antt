-- The format's number for each refusal of the run, 0 where there is none, and a number for each end.
use Rattle.std.specs.Prelude.{ℕ, Result, Ok, Err}
use Rattle.problem.specs.declared.End.{End}
use Rattle.problem.specs.declared.End.TheVariants.{Impossible, Solved, Rest}
use Rattle.sheet.specs.Sheet.{sheet_number}
use Rattle.run.specs.declared.RunRefusal.{RunRefusal}
use Rattle.run.specs.declared.RunRefusal.TheVariants as refusal
use Rattle.run.specs.declared.Finished.{Finished}

-- what the run answers beside its last state: the end, the number of steps and the bytes written, or why it is refused
abbrev pub RunOutcome : Type 0
RunOutcome = Result Finished RunRefusal

abbrev pub ran : End → (steps written : ℕ) → RunOutcome
ran e k w = Ok (record { end = e; steps = k; written = w })

abbrev pub run_refusal_number : RunRefusal → ℕ
run_refusal_number (refusal.Sheet r) = sheet_number r
run_refusal_number refusal.Buffer = 10

-- of the run's answer
abbrev pub run_number : RunOutcome → ℕ
run_number (Ok _) = 0
run_number (Err r) = run_refusal_number r

abbrev pub end_number : End → ℕ
end_number Impossible = 0
end_number Solved = 1
end_number Rest = 2
