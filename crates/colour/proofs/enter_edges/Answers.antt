-- `colour::enter_edges`: the edges at the places so far are entered. Assumes nothing.
use mathlib.Core.Path.{◌≡◌}
use Prim.Native.Nat.{◌*◌}
use native.Mathlib.Omega.{arith}
use Rattle.table.proofs.Filling.{place_next}
use Rattle.colour.proofs.enter_edges.Goals as goal

pub loop-x-preserved : goal.loop-x-preserved
loop-x-preserved c =
    let l = c.loop-x-test.true in
    (omega arith, place_next _ _ _ _ _ _ _ c.args.g.now.ranged.vertices c.loop-x.invariant.1 c.enter_place.ensures)

pub returns : goal.returns
returns c =
    let w = c.loop-x in
    let n = c.args.g.now.vertices in
    let e : w.x ≡ 32 * n = (let a = w.invariant.0 in let b = c.loop-x-test.false in omega arith) in
    rw e at w.invariant.1
