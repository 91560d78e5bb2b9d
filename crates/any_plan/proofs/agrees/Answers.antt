-- `any_plan::agrees`: every line so far agrees. Assumes nothing.
use Rattle.any_plan.proofs.Laws.{typed_sets, agree_end, agreed, disagreed}
use Rattle.any_plan.proofs.agrees.Goals as goal

pub returns-then-not-agrees_at : goal.returns-then-not-agrees_at
returns-then-not-agrees_at c =
    let x = c.agrees_at.ensures.no (c.if-not-agrees_at.true) in
    disagreed (typed_sets c.told-on c.fits-on) c.requires _ x.0 x.1.0 x.1.1 x.1.2

pub returns : goal.returns
returns c = agreed (typed_sets c.told-on c.fits-on) (agree_end c.loop-k-test.false c.loop-k.invariant.1)
