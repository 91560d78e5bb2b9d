-- `compose::put_sheet`: the front, the sizes and the blocks in turn. Assumes nothing.
use Prim.Native.Nat.{◌≤◌}
use native.Mathlib.Omega.{arith}
use lib.ListN.{length}
use Rattle.problem.specs.Held.{held}
use Rattle.problem.proofs.HeldTable.{held_few, held_bounded}
use Rattle.sheet.specs.Sheet.{layout}
use Rattle.compose.specs.Compose.{sheet_length}
use Rattle.compose.proofs.Lengths.{count_few, blocks_short}
use Rattle.compose.proofs.Blocks.{layout_roomy}
use Rattle.compose.proofs.Writing.{version_byte, sheet_written}
use Rattle.compose.proofs.put_sheet.Goals as goal

pub put_front-requires : goal.put_front-requires
put_front-requires c =
    let a = c.args in
    let p = c.requires in
    let d = c.args.d.now in
    let P = held a.d.now.t.now in
    let few = held_few a.d.now.t.now in
    let en = d.items in
    let em = d.counted in
    let el = p.0 in
    let h = p.1 in
    let m = count_few P 1024 0 in
    let b = blocks_short layout a.d.now.v P layout_roomy (held_bounded d.marked.table) 1024 0 in
    (omega arith, (version_byte a.d.now.v d.version.taken, (omega arith, (omega arith, omega arith))))

pub returns : goal.returns
returns c =
    let a = c.args in
    let p = c.requires in
    let d = c.args.d.now in
    let P = held a.d.now.t.now in
    let el = p.0 in
    let k = p.1 in
    let h : sheet_length layout a.d.now.v P ≤ length a.out.now = omega arith in
    sheet_written layout a.d.now.v P a.out.now a.len a.d.now.n a.d.now.blocks _ _ _ h el d.items d.counted
    c.put_front.ensures c.put_sizes.ensures c.put_blocks.ensures
