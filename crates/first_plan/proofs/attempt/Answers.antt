-- `first_plan::attempt`. Assumes nothing.
use Rattle.held.proofs.After.{ready_held}
use Rattle.first_plan.proofs.Prune.{choose_fits}
use Rattle.first_plan.proofs.Branches.{opens_state}
use Rattle.first_plan.proofs.attempt.Goals as goal

pub propagate-requires : goal.propagate-requires
propagate-requires c = let p = c.requires.0 in rw c.choose-c.ensures (ready_held p.table (choose_fits p.fits _ _))

pub returns : goal.returns
returns c = let p = c.requires.0 in opens_state _ p.table (choose_fits p.fits _ _) c.choose-c.ensures c.propagate.ensures
