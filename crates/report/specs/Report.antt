-- What the report writes, and what it knows of a run that was not refused.
use Rattle.std.specs.Prelude.{◌≡◌, true, false, List, [], ℕ, ◌≤◌, ltb, length}
use Rattle.problem.specs.Problem.{Problem, full}
use Rattle.problem.specs.Run.{run, after_trace, end_of}
use Rattle.problem.specs.Masks.{masks_of}
use Rattle.problem.specs.declared.End.{End}
use Rattle.problem.specs.declared.Masks.{Masks}
use Rattle.fields.specs.Print.{sheet_lines}
use Rattle.report.specs.Records.{records_in}

-- a buffer of this length has room for every text
abbrev pub report_room : ℕ
report_room = 32768

-- a text in a buffer of a length: all of it, or nothing where the buffer is shorter than what is needed
unfoldable pub text_in : (need : ℕ) → List ℕ → (room : ℕ) → List ℕ
text_in need w room = elim (ltb room need) [ true ↦ [] | false ↦ w ]

-- the text for the bytes s in a buffer of a length: all that is printed
abbrev pub report_text : List ℕ → ℕ → List ℕ
report_text s room = text_in report_room (sheet_lines s) room

-- the run of P ended so: its end, its number of steps and its last state, and its records in the trace w
pub record Ran (P : Problem) (w : List ℕ) (e : End) (steps : ℕ) (m : Masks) : Type 0 where
  pub end : e ≡ end_of P (after_trace P (full P) (run P (full P)))
  pub count : steps ≡ length (run P (full P))
  pub few : steps ≤ 512
  pub last : m ≡ masks_of (after_trace P (full P) (run P (full P)))
  pub told : records_in steps w 1 ≡ run P (full P)
