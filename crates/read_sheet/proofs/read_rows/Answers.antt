-- `read_sheet::read_rows`: the rows so far are stored. Assumes nothing.
use mathlib.Core.Path.{◌≡◌, ap, ◌∙◌}
use Prim.Native.Nat.{ℕ, ◌+◌, ◌*◌, ◌≤◌, ◌<◌}
use native.Mathlib.Nat.{add-mul}
use native.Mathlib.Omega.{arith}
use borrow.Author.Rules.{rules}
use Rattle.buffers.specs.Bytes.{number_at}
use Rattle.sheet.proofs.Laws.{row_within}
use Rattle.table.proofs.Stores.{wrote_none}
use Rattle.read_sheet.proofs.Stores.{first_more}
use Rattle.read_sheet.proofs.read_rows.Goals as goal

-- the row of a is within the sheet
within : (len w k p at a : ℕ) → p + k * w ≤ len → a < k → at ≡ p + a * w → at + w ≤ len
within len w k p at a h l e = let m = row_within a k w l in omega arith

pub row-requires : goal.row-requires
row-requires c =
    let l = c.loop-a in
    let g = c.args in
    let i = c.requires.0 in
    (i.some, (i.wide, within _ g.w g.k g.p l.at l.a i.within c.loop-a-test.true l.invariant.1))

pub overflow_add-at : goal.overflow_add-at
overflow_add-at c =
    let l = c.loop-a in
    let g = c.args in
    let m = within _ g.w g.k g.p l.at l.a c.requires.0.within c.loop-a-test.true l.invariant.1 in
    search rules

pub loop-a-preserved : goal.loop-a-preserved
loop-a-preserved c =
    let l = c.loop-a in
    let g = c.args in
    let few = c.requires.0.few in
    let long = c.requires.1 in
    let m = add-mul l.a 1 g.w in (
      omega arith,
      omega arith,
      first_more l.a _ _ _ l.invariant.2 c.row.result (omega arith) (c.row.ensures.is ∙ ap (λ (q : ℕ). number_at g.s.now g.w q) l.invariant.1),
    )

pub loop-a-init : goal.loop-a-init
loop-a-init c = (omega arith, omega arith, wrote_none _ _ _)

pub returns : goal.returns
returns c = let l = c.loop-a in let e : l.a ≡ c.args.k = omega arith in rw e at l.invariant.2
