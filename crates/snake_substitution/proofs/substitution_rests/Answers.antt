-- `snake_substitution::substitution_rests`: all goals at first, and those that are left. Assumes nothing.
use Rattle.snake_substitution.proofs.Goals.{all_within, all_tried}
use Rattle.snake_substitution.proofs.substitution_rests.Goals as goal

pub narrow_from-requires : goal.narrow_from-requires
narrow_from-requires c = let p = c.requires in (all_within c.args.view.ready c.all_goals.ensures, p.0)

pub returns : goal.returns
returns c = all_tried c.args.view.ready c.all_goals.ensures c.narrow_from.ensures
