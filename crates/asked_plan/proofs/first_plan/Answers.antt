-- `asked_plan::first_plan`. Assumes nothing.
use Rattle.first_plan.proofs.Branches.{unsolved_first}
use Rattle.asked_plan.proofs.Branches.{none_active}
use Rattle.asked_plan.proofs.first_plan.Goals as goal

pub returns-then-m-eq0 : goal.returns-then-m-eq0
returns-then-m-eq0 c = none_active c.requires c.if-m-eq0.true _

pub returns-then-overfull : goal.returns-then-overfull
returns-then-overfull c = unsolved_first c.requires.fits (c.overfull.ensures.none c.if-overfull.true) _
