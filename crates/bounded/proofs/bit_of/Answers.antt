-- `bounded::bit_of`. Assumes nothing.
use mathlib.Core.Path.{sym, ap, ◌∙◌}
use Prim.Native.Nat.{ℕ, ◌^◌, ◌≤◌}
use native.Mathlib.Omega.{arith}
use lib.Pow.{pow_mono}
use borrow.Author.Rules.{rules}
use Rattle.bounded.proofs.bit_of.Goals as goal

pub overflow_cast-result : goal.overflow_cast-result
overflow_cast-result c =
    let e = c.power.ensures in
    let h : 2 ^ c.args.u ≤ 2 ^ 15 = pow_mono {j = 15} (omega arith) in
    search rules

pub returns-then-u-eq0 : goal.returns-then-u-eq0
returns-then-u-eq0 c = c.requires.1 ∙ ap (λ (k : ℕ). 2 ^ k) (sym c.if-u-eq0.true)
