-- `bounded::weight`. Assumes nothing.
use mathlib.Core.Path.{◌∙◌}
use Prim.Native.Nat.{◌^◌, ◌≤◌}
use lib.Pow.{pow_mono}
use borrow.Author.Rules.{rules}
use native.Mathlib.Omega.{arith}
use Rattle.bounded.proofs.weight.Goals as goal

pub overflow_cast-result : goal.overflow_cast-result
overflow_cast-result c =
    let e = c.power.ensures in
    let h : 2 ^ c.args.b ≤ 2 ^ 15 = pow_mono {j = 15} (omega arith) in
    search rules

pub returns-then-t : goal.returns-then-t
returns-then-t c = c.power.ensures ∙ rw c.if-t.true
