-- The program's limit: no sheet is cut, and what is cut is no sheet. Assumes nothing.
use mathlib.Core.Path.{◌≡◌, ap}
use mathlib.Core.List.{List}
use Prim.Native.Nat.{ℕ, ◌≤◌}
use native.Mathlib.Omega.{arith}
use lib.ListN.{length, take}
use lib.Seq.{take_all, length-take-le}
use Rattle.sheet.specs.Sheet.{layout, Keeps}
use Rattle.sheet.proofs.Accepted.{longest_sheet}
use Rattle.fields.specs.Print.{input_limit, sheet_lines, printed}

-- of a sheet that keeps the layout every byte is handed to the run
pub printed_sheet : (s : List ℕ) → Keeps layout s → printed s ≡ sheet_lines s
unfolding printed
printed_sheet s K = let l = longest_sheet s K in ap sheet_lines (take_all input_limit s (omega arith))

-- what is left of a longer input keeps the layout in no case
pub printed_cut : (input : List ℕ) → input_limit ≤ length input → Keeps layout (take input_limit input) → ⊥
printed_cut input h K = let l = longest_sheet (take input_limit input) K in let e = length-take-le input_limit input h in omega arith
