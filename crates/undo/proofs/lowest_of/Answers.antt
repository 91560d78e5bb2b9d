-- `undo::lowest_of`. Assumes nothing.
use Rattle.undo.proofs.Lowest.{lowest_none, lowest_some}
use Rattle.undo.proofs.lowest_of.Goals as goal

pub returns-then-set-eq0 : goal.returns-then-set-eq0
returns-then-set-eq0 c = let p = c.requires in rw c.size.ensures (lowest_none p.0 _ _ p.1 c.if-set-eq0.true)

pub returns-else-set-eq0 : goal.returns-else-set-eq0
returns-else-set-eq0 c = let p = c.requires in rw c.lowest.ensures (lowest_some p.0 _ _ p.1 c.if-set-eq0.false)
