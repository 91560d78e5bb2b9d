-- `read_sheet::fill`. Assumes nothing.
use Rattle.read_sheet.proofs.Stores.{free_table}
use Rattle.read_sheet.proofs.fill.Goals as goal

pub blocks-requires : goal.blocks-requires
blocks-requires c =
    let p = c.requires in
    (p.0, free_table _ _ _ _ p.1 c.put_places.ensures c.put_sizes.ensures)
