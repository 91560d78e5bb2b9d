-- `colour::is_edge`: three tests of a place. Assumes nothing.
use mathlib.Core.Path.{◌≡◌, sym, ap}
use mathlib.Core.Bool.{◌&&◌}
use Prim.Native.Nat.{ℕ, ◌+◌, ◌*◌, ◌/◌, ◌%◌}
use native.Mathlib.Omega.{arith}
use lib.Dec.{eqb, ltb}
use lib.ListN.{get_or}
use Rattle.table.specs.Filling.{block_here}
use Rattle.colour.proofs.is_edge.Goals as goal

pub returns : goal.returns
unfolding block_here
returns c =
    let a = c.args in
    let e : 32 * (a.x / 32) + a.x % 32 ≡ a.x = omega arith in
    ap (λ (y : ℕ). ltb (a.x / 32) (a.x % 32) && (ltb (a.x % 32) a.g.now.vertices && eqb (get_or a.g.now.near.now y 0) 1)) (sym e)
