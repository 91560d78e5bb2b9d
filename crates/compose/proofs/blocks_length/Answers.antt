-- `compose::blocks_length`: the length so far and that of the rest. Assumes nothing.
use mathlib.Core.Path.{ap}
use Prim.Native.Nat.{◌-◌}
use native.Mathlib.Omega.{arith}
use lib.ListN.{length}
use Rattle.problem.specs.Held.{held}
use Rattle.problem.proofs.HeldTable.{held_few, held_bounded}
use Rattle.sheet.specs.Sheet.{layout}
use Rattle.compose.proofs.Lengths.{blocks_short}
use Rattle.compose.proofs.Blocks.{layout_roomy}
use Rattle.compose.proofs.Writing.{length_step, blocks_beyond}
use Rattle.compose.proofs.blocks_length.Goals as goal

pub overflow_mul-x-end : goal.overflow_mul-x-end
overflow_mul-x-end c = let e0 = c.args.d.now.items in let few = held_few c.args.d.now.t.now in omega arith

pub overflow_add-sum : goal.overflow_add-sum
overflow_add-sum c =
    let a = c.args in
    let P = held a.d.now.t.now in
    let e0 = c.args.d.now.items in let few = held_few a.d.now.t.now in
    let l = c.loop-x in
    let s = length_step layout a.d.now.v P l.x (omega arith) in
    let e = c.place_length-sum.ensures in
    let f = l.invariant.1 in
    let m = blocks_short layout a.d.now.v P layout_roomy (held_bounded c.args.d.now.marked.table) 1024 0 in
    omega arith

pub loop-x-preserved : goal.loop-x-preserved
loop-x-preserved c =
    let a = c.args in
    let P = held a.d.now.t.now in
    let e0 = c.args.d.now.items in let few = held_few a.d.now.t.now in
    let l = c.loop-x in
    let s = length_step layout a.d.now.v P l.x (omega arith) in
    let e = c.place_length-sum.ensures in
    let f = l.invariant.1 in
    (omega arith, omega arith)

pub returns : goal.returns
returns c =
    let a = c.args in
    let P = held a.d.now.t.now in
    let l = c.loop-x in
    let e0 = c.args.d.now.items in
    let s = ap length (blocks_beyond layout a.d.now.v P (1024 - l.x) l.x (omega arith)) in
    let f = l.invariant.1 in
    omega arith
