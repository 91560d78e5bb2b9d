-- `table::column`: the bits so far are the set so far. Assumes nothing.
use mathlib.Core.Path.{◌≡◌}
use native.Mathlib.Omega.{arith}
use borrow.Author.Rules.{rules}
use Rattle.bounded.proofs.Mask.{mask_none, mask_or}
use Rattle.table.specs.Parts.{transposed_row}
use Rattle.table.proofs.column.Goals as goal

pub loop-a-init : goal.loop-a-init
unfolding transposed_row
loop-a-init c = (omega arith, mask_none _)

pub offset_bounds-rows-a : goal.offset_bounds-rows-a
unfolding transposed_row
offset_bounds-rows-a c = search rules

pub bounds-rows-a : goal.bounds-rows-a
unfolding transposed_row
bounds-rows-a c = search rules

pub lane-word-requires : goal.lane-word-requires
unfolding transposed_row
lane-word-requires c = search rules

pub loop-a-preserved : goal.loop-a-preserved
unfolding transposed_row
loop-a-preserved c = (omega arith, mask_or _ _ _ _ c.loop-a.invariant.1 c.lane-word.ensures)

pub returns : goal.returns
unfolding transposed_row
returns c = let e : c.loop-a.a ≡ 16 = omega arith in rw e at c.loop-a.invariant.1
