-- `read::read_call`: what reading the sheet finds; its numbers fit. Assumes nothing.
use mathlib.Core.Path.{sym, ap, ◌∙◌}
use Prim.Native.Nat.{◌≤◌}
use native.Mathlib.Omega.{arith}
use Rattle.read.specs.Read.{read_number}
use Rattle.read.proofs.Read.{read_small}
use Rattle.read.proofs.read_call.Goals as goal
use Rattle.read.proofs.read_call.Goals.{In-Ok}

-- the variables and the blocks
few : (c : In-Ok) → (c.in-Ok.a.variables ≤ 32) × (c.in-Ok.a.blocks ≤ 1024)
few c = read_small _ _ _ (sym c.read_sheet.ensures ∙ c.in-Ok.is)

pub overflow_mul-result : goal.overflow_mul-result
overflow_mul-result c = let l = few (goal.at.overflow_mul-result c).In-Ok in omega arith

pub overflow_add-result : goal.overflow_add-result
overflow_add-result c = let l = few (goal.at.overflow_add-result c).In-Ok in omega arith

pub overflow_mul-result-in-Ok : goal.overflow_mul-result-in-Ok
overflow_mul-result-in-Ok c = let l = few (goal.at.overflow_mul-result-in-Ok c).In-Ok in omega arith

pub returns-in-Err : goal.returns-in-Err
returns-in-Err c = c.from.ensures ∙ ap read_number (sym c.in-Err.is ∙ c.read_sheet.ensures)

pub returns-in-Ok : goal.returns-in-Ok
returns-in-Ok c = ap read_number (sym c.in-Ok.is ∙ c.read_sheet.ensures)
