-- docs/FORMAT.md, "A plan too.": what plan_sheet prints, as bytes; and what its code knows of a pick that was not refused.
use Rattle.std.specs.Prelude.{◌≡◌, Bool, cond, List, [], ◌∷◌, ◌++◌, ℕ, ◌≤◌, length, take, replicate}
use Rattle.problem.specs.Problem.{Problem}
use Rattle.problem.specs.declared.End.{End}
use Rattle.problem.specs.declared.Masks.{Masks}
use Rattle.sheet.specs.Sheet.{sheet_number}
use Rattle.jobs.specs.WithSheet.{with_sheet}
use Rattle.fields.specs.Print.{fields_text, refused_line, run_lines, input_limit}
use Rattle.pick.specs.Pick.{first_left, plan_left}
use Rattle.report.specs.Report.{text_in, Ran}

-- "plan", "no plan"
abbrev pub plan_word : List ℕ
plan_word = 112 ∷ 108 ∷ 97 ∷ 110 ∷ []

abbrev pub no_plan_line : List ℕ
no_plan_line = 110 ∷ 111 ∷ 32 ∷ (plan_word ++ (10 ∷ []))

-- "`plan` and the setting of each item, item 0 first"
abbrev pub plan_line : List ℕ → List ℕ
plan_line w = plan_word ++ (fields_text w ++ (10 ∷ []))

-- that, or "no plan"
abbrev pub found_line : Bool → List ℕ → List ℕ
found_line found w = cond found (plan_line w) no_plan_line

-- the plan that is picked, in a buffer that had 255 for each item
abbrev pub picked_plan : Problem → List ℕ
picked_plan P = plan_left P (replicate P.n 255)

-- "picks a plan, and prints what reduce_sheet prints and then one line more"
unfoldable pub pick_lines : Problem → List ℕ
pick_lines P = run_lines P ++ found_line (first_left P).ok (picked_plan P)

-- "A refused sheet prints its one line, as `refused 8`, and nothing else."
unfoldable pub planned_lines : List ℕ → List ℕ
planned_lines s = with_sheet s (λ r. refused_line (sheet_number r)) pick_lines

-- "`plan_sheet` reads a sheet in the same way": the first 16,905 bytes of standard input
unfoldable pub planned : List ℕ → List ℕ
planned input = planned_lines (take input_limit input)

-- a buffer of this length has room for every text: that of the run and 256 bytes
abbrev pub planned_room : ℕ
planned_room = 33024

-- the text for the bytes s in a buffer of a length: all that is printed
abbrev pub planned_text : List ℕ → ℕ → List ℕ
planned_text s room = text_in planned_room (planned_lines s) room

-- picking over P ended so: a plan or none, the plan, and what the run says
pub record Picks (P : Problem) (w plan : List ℕ) (found : Bool) (e : End) (steps : ℕ) (m : Masks) : Type 0 where
  pub ran : Ran P w e steps m
  pub some : found ≡ (first_left P).ok
  pub is : plan ≡ picked_plan P
  pub few : length plan ≤ 32
