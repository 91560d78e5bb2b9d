-- The numbers of the refused sheets: one statement over the table of specs/Refusals.antt, shown by computation. Assumes nothing.
use mathlib.Core.Path.{refl}
use Prim.Native.Nat.{◌≤◌}
use native.Mathlib.Omega.{arith}
use Rattle.sheet.specs.Sheet.{sheet_number, beyond, allows_all, block_of, block_at, blocks_from, bad_sizes, read_sheet}
use Rattle.sheet.specs.declared.SheetRefusal.{SheetRefusal}
use Rattle.sheet.specs.declared.SheetRefusal.TheVariants.{TooShort, Version, Length, Variables, Sizes, PairMissing, PairOrder, RowsCut, RowBeyond, BarsNothing, LeftOver}
use Rattle.sheet.specs.Refusals.{AllNumbered, rows}

pub numbered : AllNumbered rows
unfolding beyond allows_all block_of block_at blocks_from bad_sizes read_sheet
numbered = (refl, (refl, (refl, (refl, (refl, (refl, (refl, (refl, (refl, (refl, (refl, (refl, (refl, (refl, (refl, (refl, (refl, (refl, (refl, (refl, (refl, (refl, (refl, (refl, (refl, (refl, (refl, (refl, tt))))))))))))))))))))))))))))

-- a sheet's number is one of 1 to 9
pub sheet_number_lem : (r : SheetRefusal) → (1 ≤ sheet_number r) × (sheet_number r ≤ 9)
sheet_number_lem TooShort = (omega arith, omega arith)
sheet_number_lem Version = (omega arith, omega arith)
sheet_number_lem Length = (omega arith, omega arith)
sheet_number_lem Variables = (omega arith, omega arith)
sheet_number_lem Sizes = (omega arith, omega arith)
sheet_number_lem PairMissing = (omega arith, omega arith)
sheet_number_lem PairOrder = (omega arith, omega arith)
sheet_number_lem RowsCut = (omega arith, omega arith)
sheet_number_lem RowBeyond = (omega arith, omega arith)
sheet_number_lem BarsNothing = (omega arith, omega arith)
sheet_number_lem LeftOver = (omega arith, omega arith)
