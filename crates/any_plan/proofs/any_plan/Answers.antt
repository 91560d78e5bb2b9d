-- `any_plan::any_plan`. Assumes nothing.
use Rattle.any_plan.proofs.Branches.{none_around}
use Rattle.any_plan.proofs.any_plan.Goals as goal

pub explore-requires : goal.explore-requires
explore-requires c = none_around c.args.on.now
