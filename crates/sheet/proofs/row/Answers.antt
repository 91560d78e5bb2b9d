-- `sheet::row`: a width is 1 or 2.
use mathlib.Core.Path.{◌≡◌, sym, ap, ◌∙◌}
use Prim.Native.Nat.{ℕ}
use Rattle.buffers.specs.Bytes.{number_at}
use native.Mathlib.Omega.{arith}
use Rattle.sheet.proofs.row.Goals as goal

pub returns-then-w-eq1 : goal.returns-then-w-eq1
returns-then-w-eq1 c =
    let e = ap (λ (w : ℕ). number_at c.args.s.now w c.args.p) c.if-w-eq1.true in
    record { is = omega arith; below = omega arith }

pub returns-else-w-eq1 : goal.returns-else-w-eq1
returns-else-w-eq1 c =
    let n : c.args.w ≡ 1 → ⊥ = c.if-w-eq1.false in
    let t : c.args.w ≡ 2 = omega arith in
    let e = ap (λ (w : ℕ). number_at c.args.s.now w c.args.p) t in
    record { is = c.word.ensures.is ∙ sym e; below = omega arith }
