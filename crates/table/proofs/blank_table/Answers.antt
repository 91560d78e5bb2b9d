-- `table::blank_table`: 65535 all along. Assumes nothing.
use Rattle.table.proofs.Blank.{blank_local}
use Rattle.table.proofs.blank_table.Goals as goal

pub returns : goal.returns
returns c = blank_local
