-- `first_plan::refute`. Assumes nothing.
use Rattle.problem.proofs.Reflect.{remove_fits}
use Rattle.held.proofs.After.{ready_held}
use Rattle.first_plan.proofs.Branches.{opens_state}
use Rattle.first_plan.proofs.refute.Goals as goal

pub propagate-requires : goal.propagate-requires
propagate-requires c = let p = c.requires.0 in rw c.remove.ensures (ready_held p.table (remove_fits _ _ p.fits _ _))

pub returns : goal.returns
returns c = let p = c.requires.0 in opens_state _ p.table (remove_fits _ _ p.fits _ _) c.remove.ensures c.propagate.ensures
