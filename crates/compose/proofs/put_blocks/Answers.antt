-- `compose::put_blocks`: the blocks of the places so far are written, and the rest is underway. Assumes nothing.
use mathlib.Core.List.{◌++◌}
use Prim.Native.Nat.{◌+◌, ◌-◌}
use native.Mathlib.Omega.{arith}
use Rattle.problem.specs.Held.{held}
use Rattle.problem.proofs.HeldTable.{held_few}
use Rattle.sheet.specs.Sheet.{layout}
use Rattle.compose.specs.Compose.{place_bytes, blocks_bytes}
use Rattle.compose.specs.Parts.{Underway}
use Rattle.compose.proofs.Writing.{writes, part_room, ends, blocks_step, blocks_beyond}
use Rattle.compose.proofs.put_blocks.Goals as goal
use Rattle.compose.proofs.put_blocks.Goals.{In-loop-x}

pub overflow_mul-x-end : goal.overflow_mul-x-end
overflow_mul-x-end c = let few = held_few c.args.d.now.t.now in let e = c.args.d.now.items in omega arith

-- the block of place x is the next part
next : (c : In-loop-x) → let a = c.args in let l = c.loop-x in let P = held a.d.now.t.now in
    Underway a.out.now (8 + a.d.now.n) (blocks_bytes layout a.d.now.v P 1024 0) l.out l.p (place_bytes layout a.d.now.v P l.x ++ blocks_bytes layout a.d.now.v P (1024 - (l.x + 1)) (l.x + 1))
next c =
    let a = c.args in
    let l = c.loop-x in
    let few = held_few a.d.now.t.now in
    let e = c.args.d.now.items in
    rw (blocks_step layout a.d.now.v (held a.d.now.t.now) l.x (omega arith)) at l.invariant.1

pub put_place-p-requires : goal.put_place-p-requires
put_place-p-requires c =
    let a = c.args in
    let e = a.d.now.items in
    (omega arith, part_room _ _ _ _ _ (place_bytes layout a.d.now.v (held a.d.now.t.now) c.loop-x.x) _ (next (goal.at.put_place-p-requires c).In-loop-x))

pub loop-x-preserved : goal.loop-x-preserved
loop-x-preserved c =
    let a = c.args in
    (omega arith, writes _ _ _ _ _ (place_bytes layout a.d.now.v (held a.d.now.t.now) c.loop-x.x) _ _ _ (next (goal.at.loop-x-preserved c).In-loop-x) c.put_place-p.ensures)

pub returns : goal.returns
returns c =
    let a = c.args in
    let P = held a.d.now.t.now in
    let e = c.args.d.now.items in
    let l = c.loop-x in
    let o = ends _ _ _ _ _ (rw (blocks_beyond layout a.d.now.v P (1024 - l.x) l.x (omega arith)) at l.invariant.1) in
    o.is
