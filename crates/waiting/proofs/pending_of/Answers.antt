-- `waiting::pending_of`: the word of the row. Assumes nothing.
use Rattle.waiting.proofs.pending_of.Goals as goal

pub returns : goal.returns
returns c = rw c.row_at.ensures
