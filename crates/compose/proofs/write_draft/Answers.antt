-- `compose::write_draft`: the length decides. Assumes nothing.
use mathlib.Core.Path.{◌≡◌, sym, ap, ◌∙◌}
use Prim.Native.Nat.{◌+◌, ◌≤◌}
use native.Mathlib.Omega.{arith}
use lib.ListN.{length}
use Rattle.problem.specs.Held.{held}
use Rattle.problem.proofs.HeldTable.{held_few, held_bounded}
use Rattle.sheet.specs.Sheet.{layout}
use Rattle.compose.specs.Compose.{sheet_length, sheet_bytes, SheetResult}
use Rattle.std.specs.Prelude.{Ok}
use Rattle.compose.proofs.Lengths.{blocks_short}
use Rattle.compose.proofs.Written.{written_length}
use Rattle.compose.proofs.Blocks.{layout_roomy}
use Rattle.compose.proofs.Over.{sheet_over_short, sheet_over_done}
use Rattle.compose.proofs.write_draft.Goals as goal
use Rattle.compose.proofs.write_draft.Goals.{After-blocks_length}

-- the length is small
short : (c : After-blocks_length) → (c.args.d.now.n ≤ 32) × (c.blocks_length.result ≤ 34816)
short c =
    let a = c.args in
    let p = c.args.d.now in
    let few = held_few a.d.now.t.now in
    let en = p.items in
    let e = c.blocks_length.ensures in
    let b = blocks_short layout a.d.now.v (held a.d.now.t.now) layout_roomy (held_bounded p.marked.table) 1024 0 in
    (omega arith, omega arith)

pub overflow_add-len : goal.overflow_add-len
overflow_add-len c = let s = short (goal.at.overflow_add-len c).After-blocks_length in omega arith

pub overflow_add-len-2 : goal.overflow_add-len-2
overflow_add-len-2 c = let s = short (goal.at.overflow_add-len-2 c).After-blocks_length in omega arith

-- and is the sheet's
is_length : (c : After-blocks_length) → 8 + (c.args.d.now.n + c.blocks_length.result) ≡ length (sheet_bytes layout c.args.d.now.v (held c.args.d.now.t.now))
is_length c =
    let a = c.args in
    let p = c.args.d.now in
    let en = p.items in
    let e = c.blocks_length.ensures in
    let f : 8 + (a.d.now.n + c.blocks_length.result) ≡ sheet_length layout a.d.now.v (held a.d.now.t.now) = omega arith in
    f ∙ sym (written_length layout a.d.now.v (held a.d.now.t.now) layout_roomy p.version.taken (held_bounded p.marked.table))

pub returns-then-out-len : goal.returns-then-out-len
returns-then-out-len c =
    let a = c.args in
    let l = is_length (goal.at.returns-then-out-len c).After-blocks_length in
    let k = c.if-out-len.true in
    let e = sheet_over_short layout a.d.now.v (held a.d.now.t.now) a.out.now (omega arith) in
    (sym (ap (λ (r : SheetResult). r.answer) e), sym (ap (λ (r : SheetResult). r.buffer) e))

pub returns : goal.returns
returns c =
    let a = c.args in
    let l = is_length (goal.at.returns c).After-blocks_length in
    let k = c.if-out-len.false in
    let e = sheet_over_done layout a.d.now.v (held a.d.now.t.now) a.out.now (omega arith) in
    (ap Ok l ∙ sym (ap (λ (r : SheetResult). r.answer) e), c.put_sheet.ensures ∙ sym (ap (λ (r : SheetResult). r.buffer) e))
