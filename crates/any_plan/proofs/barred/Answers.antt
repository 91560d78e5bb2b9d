-- `any_plan::barred`: whether some set so far is barred. Assumes nothing.
use mathlib.Core.Path.{sym}
use native.Mathlib.Omega.{arith}
use Rattle.bounded.proofs.Loops.{any_none}
use Rattle.any_plan.specs.Steps.{barred_at}
use Rattle.any_plan.proofs.Laws.{any_step}
use Rattle.any_plan.proofs.barred.Goals as goal

pub loop-j-preserved : goal.loop-j-preserved
loop-j-preserved c =
    let a = c.args in
    (omega (arith, c.loop-j-test.true), any_step (barred_at a.lines.now a.on.now a.p) _ c.loop-j.invariant.1)

pub loop-j-init : goal.loop-j-init
loop-j-init c = (omega arith, sym (any_none _))
