-- `bounded::lane`. Assumes nothing.
use mathlib.Core.Path.{◌∙◌}
use Rattle.bounded.proofs.lane.Goals as goal

pub returns-then-t : goal.returns-then-t
returns-then-t c = c.bit_of.ensures ∙ rw c.if-t.true
