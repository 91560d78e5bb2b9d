-- `hand_call::eliminated`. Assumes nothing.
use Rattle.hand_call.proofs.eliminated.Goals as goal

pub returns : goal.returns
returns c = cc
