-- `read_sheet::put_sizes`: the sizes so far are stored. Assumes nothing.
use mathlib.Core.Path.{◌≡◌}
use native.Mathlib.Omega.{arith}
use Rattle.table.proofs.Stores.{wrote_none}
use Rattle.read_sheet.proofs.Stores.{first_more}
use Rattle.read_sheet.proofs.put_sizes.Goals as goal

pub bounds-t-k : goal.bounds-t-k
bounds-t-k c =
    let p = c.requires.1 in
    let e = c.loop-k.invariant.1.long in
    omega arith

pub loop-k-preserved : goal.loop-k-preserved
loop-k-preserved c =
    let l = c.loop-k in
    let p = c.requires.1 in
    (omega arith, first_more l.k _ _ _ l.invariant.1 c.size_of.result (omega arith) c.size_of.ensures)

pub loop-k-init : goal.loop-k-init
loop-k-init c = (omega arith, wrote_none _ _ _)

pub shape_of-t : goal.shape_of-t
shape_of-t c = c.loop-k.invariant.1.long

pub returns : goal.returns
returns c = let l = c.loop-k in let e : l.k ≡ 32 = omega arith in rw e at l.invariant.1
