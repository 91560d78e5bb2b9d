-- `report::count_values`: before each turn the sum is that of the domains below i. Assumes nothing.
use mathlib.Core.Path.{◌≡◌, sym}
use native.Mathlib.Omega.{arith}
use Rattle.bounded.proofs.Loops.{sum_none}
use Rattle.problem.specs.Masks.{state_of}
use Rattle.report.proofs.Counting.{sum_turn, sum_end}
use Rattle.report.proofs.count_values.Goals as goal

pub loop-i-init : goal.loop-i-init
loop-i-init c = (omega arith, (sym (sum_none _), omega arith))

pub overflow_add-sum : goal.overflow_add-sum
overflow_add-sum c = omega (arith, c.count_bits-sum.ensures.within)

pub loop-i-preserved : goal.loop-i-preserved
unfolding state_of
loop-i-preserved c =
    let w = c.loop-i in
    (omega arith, (sum_turn _ w.i _ _ w.invariant.1.0 c.count_bits-sum.ensures.is, omega (arith, c.count_bits-sum.ensures.within)))

pub returns : goal.returns
returns c =
    let w = c.loop-i in
    let e : w.i ≡ 32 = omega arith in
    record { is = sum_end _ 32 w.i _ e w.invariant.1.0; within = omega arith }
