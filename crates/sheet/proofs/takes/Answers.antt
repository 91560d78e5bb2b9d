-- `sheet::takes`: the test is the layout's.
use mathlib.Core.Path.{refl}
use Rattle.sheet.proofs.takes.Goals as goal

pub returns : goal.returns
returns c = refl
