-- `asked_plan::first_asked`. Assumes nothing.
use Rattle.first_plan.proofs.Branches.{unsolved_first}
use Rattle.asked_plan.proofs.first_asked.Goals as goal

pub returns-in_default : goal.returns-in_default
returns-in_default c = unsolved_first c.requires.fits (λ x. c.ask.ensures.no c.in_default.is x.0 x.1) _
