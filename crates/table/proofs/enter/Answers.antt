-- `table::enter`: each part does its share, and the law joins them. Assumes nothing.
use Rattle.table.proofs.Entering.{entered_by}
use Rattle.table.proofs.enter.Goals as goal

pub returns : goal.returns
returns c =
    let p = c.requires in
    entered_by _ _ _ _ _ _ _ _ _ _ _ p.0.long p.1 p.2 c.turn.ensures c.rows_at-own.ensures.is c.put_rows.ensures c.rows_at-other.ensures.is
    c.put_rows-2.ensures
    c.clear_far.ensures
    c.clear_far-2.ensures
