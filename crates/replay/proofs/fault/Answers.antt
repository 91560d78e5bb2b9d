-- `replay::fault`. Assumes nothing.
use Rattle.std.specs.Prelude.{Err}
use Rattle.replay.proofs.fault.Goals as goal

pub returns : goal.returns
returns c = λ k. record { check = Err c.args.e; state = c.empty_masks.ensures k }
