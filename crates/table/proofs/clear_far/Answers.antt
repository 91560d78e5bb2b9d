-- `table::clear_far`: one entry without one bit. Assumes nothing.
use Rattle.table.specs.Parts.{cleared}
use Rattle.table.proofs.clear_far.Goals as goal

pub returns : goal.returns
unfolding cleared
returns c = rw c.without.ensures
