-- `held::one_of`: the place of items 0 and 2. Assumes nothing.
use mathlib.Core.Path.{◌∙◌}
use native.Mathlib.Omega.{arith}
use Rattle.problem.proofs.Places.{place_up}
use Rattle.held.proofs.one_of.Goals as goal

pub returns : goal.returns
returns c = c.requires.places 0 2 (omega arith) (omega arith) ∙ place_up 0 2 (omega arith)
