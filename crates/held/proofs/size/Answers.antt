-- `held::size`. Assumes nothing.
use mathlib.Core.Path.{sym}
use Rattle.problem.proofs.HeldTable.{held_entry}
use Rattle.held.proofs.size.Goals as goal

pub returns : goal.returns
returns c = sym (held_entry _ _ c.requires.1)
