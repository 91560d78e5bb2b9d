-- `replay::after_lawful`: a lawful record's fields are in range. Assumes nothing.
use Rattle.problem.proofs.Trace.{lawful_iff}
use Rattle.steps.proofs.States.{holds_within}
use Rattle.replay.proofs.after_lawful.Goals as goal

pub apply-requires : goal.apply-requires
apply-requires c = holds_within c.args.view.ready _ ((lawful_iff _ _ _).0 c.requires).1

pub returns : goal.returns
returns c = c.apply.ensures
