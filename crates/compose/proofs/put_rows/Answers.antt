-- `compose::put_rows`: the rows so far are written, and the rest is underway. Assumes nothing.
use mathlib.Core.Path.{◌≡◌, ap, ◌∙◌}
use mathlib.Core.List.{◌++◌}
use Prim.Native.Nat.{ℕ, ◌+◌, ◌-◌, ◌^◌, ◌≤◌}
use native.Mathlib.Omega.{arith}
use lib.ListN.{length}
use Rattle.problem.specs.Held.{held}
use Rattle.problem.proofs.HeldTable.{held_few, held_narrow}
use Rattle.buffers.specs.Bytes.{number_bytes}
use Rattle.sheet.specs.Sheet.{layout}
use Rattle.compose.specs.Compose.{row_number, rows_bytes}
use Rattle.compose.specs.Parts.{Underway}
use Rattle.buffers.proofs.Stands.{length_number}
use Rattle.compose.proofs.Blocks.{layout_roomy}
use Rattle.compose.proofs.Writing.{writes, part_room, ends, wrote_number, rows_step, rows_none}
use Rattle.compose.proofs.put_rows.Goals as goal
use Rattle.compose.proofs.put_rows.Goals.{In-loop-a}

pub size-z-requires : goal.size-z-requires
size-z-requires c = let p = c.requires.0 in let few = held_few c.args.t.now in (p.table, omega arith)

pub size-requires : goal.size-requires
size-requires c = let p = c.requires.0 in let few = held_few c.args.t.now in (p.table, omega arith)

-- the bytes of a row
abbrev width_of : (c : In-loop-a) → ℕ
width_of c = let a = c.args in layout.width a.v ((held a.t.now).size a.j)

width_is : (c : In-loop-a) → c.row_width-w.result ≡ width_of c
width_is c = c.row_width-w.ensures.is ∙ ap (layout.width c.args.v) c.size.ensures

-- the row of a is the next part
next : (c : In-loop-a) → let a = c.args in let l = c.loop-a in let P = held a.t.now in
    Underway a.out.now a.at (rows_bytes layout a.v P a.i a.j (P.size a.i) 0) l.out l.p
    (number_bytes (width_of c) (row_number P a.i a.j l.a) ++ rows_bytes layout a.v P a.i a.j (P.size a.i - (l.a + 1)) (l.a + 1))
next c =
    let a = c.args in
    let l = c.loop-a in
    let e = c.size-z.ensures in
    rw (rows_step layout a.v (held a.t.now) a.i a.j ((held a.t.now).size a.i) l.a (omega arith)) at l.invariant.1

room : (c : In-loop-a) → c.loop-a.p + c.row_width-w.result ≤ length c.loop-a.out
room c =
    let a = c.args in
    let x = row_number (held a.t.now) a.i a.j c.loop-a.a in
    let l = length_number (width_of c) x in
    let w = width_is c in
    let r = part_room _ _ _ _ _ (number_bytes (width_of c) x) _ (next c) in
    omega arith

pub put_row-requires : goal.put_row-requires
put_row-requires c =
    let a = c.args in
    let P = held a.t.now in
    let w = c.row_width-w.ensures in
    let m = room (goal.at.put_row-requires c).In-loop-a in
    let r = c.row_number-x.ensures.below in
    let x = layout_roomy.room a.v (P.size a.j) c.requires.1.0.taken (held_narrow c.requires.0.table a.j) in
    let g = ap (λ (y : ℕ). 256 ^ y) (width_is (goal.at.put_row-requires c).In-loop-a) in
    (w.some, (w.few, (omega arith, omega arith)))

pub loop-a-preserved : goal.loop-a-preserved
loop-a-preserved c =
    let a = c.args in
    let e = c.size-z.ensures in
    let o = wrote_number _ _ _ c.row_width-w.result (width_of (goal.at.loop-a-preserved c).In-loop-a) c.row_number-x.result (row_number (held a.t.now) a.i a.j c.loop-a.a) (width_is (goal.at.loop-a-preserved c).In-loop-a) c.row_number-x.ensures.is c.put_row.ensures in
    (omega arith, writes _ _ _ _ _ (number_bytes (width_of (goal.at.loop-a-preserved c).In-loop-a) (row_number (held a.t.now) a.i a.j c.loop-a.a)) _ _ _ (next (goal.at.loop-a-preserved c).In-loop-a) o)

pub returns : goal.returns
returns c =
    let a = c.args in
    let P = held a.t.now in
    let l = c.loop-a in
    let e = c.size-z.ensures in
    ends _ _ _ _ _ (rw (rows_none layout a.v P a.i a.j (P.size a.i) l.a (omega arith)) at l.invariant.1)
