-- `places::places`: the list as the code has it is the rule's, computed at all of its entries. Assumes nothing.
use mathlib.Core.Path.{refl}
use Rattle.bounded.specs.Table.{tab}
use Rattle.problem.specs.Places.{place_of, place_list}
use Rattle.places.proofs.places.Goals as goal

pub returns : goal.returns
unfolding place_list tab place_of
returns c = refl
