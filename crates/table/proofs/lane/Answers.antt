-- `table::lane`: one bit of a row. Assumes nothing.
use mathlib.Core.Path.{◌≡◌, ap, ◌∙◌}
use mathlib.Core.Bool.{cond}
use Prim.Native.Nat.{ℕ, ◌*◌, ◌^◌, ◌%◌}
use native.Mathlib.Omega.{arith}
use lib.Pow.{shl_exact}
use Rattle.bounded.specs.Mask.{bit}
use Rattle.table.proofs.lane.Goals as goal

pub returns : goal.returns
returns c =
    let a = c.args in
    let e : (1 * 2 ^ a.a) % 65536 ≡ 2 ^ a.a = omega (arith, shl_exact {a = 1} 1 a.a 16 (omega arith) (omega arith)) in
    c.where16.ensures ∙ ap (λ (x : ℕ). cond (bit a.row a.b) x 0) e
