-- `steps::remove`. Assumes nothing.
use Rattle.steps.proofs.Steps.{remove_masks}
use Rattle.steps.proofs.remove.Goals as goal

pub returns : goal.returns
returns c = let p = c.requires in rw c.without.ensures (remove_masks c.args.view.ready _ _ p.0 p.1)
