-- `report::count_bits`: before each turn the sum is the count below c. Assumes nothing.
use mathlib.Core.Path.{◌≡◌, sym, ap, ◌∙◌}
use Prim.Native.Nat.{ℕ, ◌+◌}
use native.Mathlib.Omega.{arith}
use Rattle.bounded.specs.Quantifiers.{one_if, count_below}
use Rattle.bounded.specs.Mask.{bit}
use Rattle.bounded.proofs.Quantifiers.{count_most}
use Rattle.report.proofs.Counting.{count_none, count_more}
use Rattle.report.proofs.count_bits.Goals as goal

pub loop-c-init : goal.loop-c-init
loop-c-init c = (omega arith, (sym (count_none _), omega arith))

-- one turn more, and the count is at most the turns
pub loop-c-preserved : goal.loop-c-preserved
loop-c-preserved c =
    let w = c.loop-c in
    let x = c.args.x in
    let e : w.sum + c.one_if-sum.result ≡ count_below (w.c + 1) (λ k. bit x k) =
    (λ i. w.invariant.1.0 i + (c.one_if-sum.ensures.is ∙ ap one_if c.has.ensures) i) ∙ sym (count_more (λ k. bit x k) w.c) in
    (omega arith, (e, omega (arith, e, count_most (w.c + 1) (λ k. bit x k))))

pub overflow_add-sum : goal.overflow_add-sum
overflow_add-sum c = omega arith

pub returns : goal.returns
returns c =
    let w = c.loop-c in
    let x = c.args.x in
    let e : w.c ≡ c.args.n = omega arith in
    record { is = w.invariant.1.0 ∙ ap (λ (k : ℕ). count_below k (λ c. bit x c)) e; within = omega arith }

pub has-requires : goal.has-requires
has-requires c = omega arith
