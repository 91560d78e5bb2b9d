-- `any_plan::meet`. Assumes nothing.
use native.Mathlib.Omega.{arith}
use Rattle.any_plan.proofs.Laws.{met_none, met_more, emptied_none, emptied_more}
use Rattle.any_plan.proofs.meet.Goals as goal

pub loop-j-preserved : goal.loop-j-preserved
loop-j-preserved c = let l = c.loop-j-test.true in (omega arith, met_more l c.loop-j.invariant.1, emptied_more c.loop-j.invariant.1 c.loop-j.invariant.2)

pub loop-j-init : goal.loop-j-init
loop-j-init c = (omega arith, met_none _ _ _ c.told-on, emptied_none _ _ _)
