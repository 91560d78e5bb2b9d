-- `waiting_run::refused`. Assumes nothing.
use Rattle.std.specs.Prelude.{Err}
use Rattle.waiting_run.proofs.refused.Goals as goal

pub returns : goal.returns
returns c = λ i. record { outcome = Err c.args.r; state = c.empty_masks-state.ensures i }
