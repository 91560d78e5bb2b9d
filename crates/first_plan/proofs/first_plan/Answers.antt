-- `first_plan::first_plan`. Assumes nothing.
use mathlib.Core.Path.{sym, ◌∙◌}
use Rattle.first_plan.proofs.Branches.{opened_first, closed_first, unsolved_first}
use Rattle.first_plan.proofs.first_plan.Goals as goal

pub returns-then-overfull : goal.returns-then-overfull
returns-then-overfull c = unsolved_first c.requires.fits (c.overfull.ensures.none c.if-overfull.true) _

pub returns-in_default : goal.returns-in_default
returns-in_default c = closed_first c.requires.fits c.propagate.ensures c.in_default.is _

pub returns : goal.returns
returns c = c.pick-ok.ensures ∙ sym (opened_first c.requires.fits (c.propagate.ensures.narrowed _ c.in-Some.is) _)
