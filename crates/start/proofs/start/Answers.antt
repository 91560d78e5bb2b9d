-- `start::start`: what reading the sheet finds, and the table that it fills. Assumes nothing.
use mathlib.Core.Path.{sym, ◌∙◌}
use Rattle.hand.specs.Hand.{start_over}
use Rattle.jobs.proofs.Opened.{table_refused, table_rows, table_job}
use Rattle.hand.proofs.Opened.{start_refused_lem, start_kept}
use Rattle.start.proofs.start.Goals as goal

pub returns-in-Err : goal.returns-in-Err
returns-in-Err c = c.refused_start.ensures ∙ sym (start_refused_lem _ _ (table_refused _ _ (c.read_table.ensures.answer, c.read_table.ensures.filled) c.in-Err.is))

pub returns-in-Ok : goal.returns-in-Ok
returns-in-Ok c = c.start_over.ensures ∙ table_job _ _ (c.read_table.ensures.answer, c.read_table.ensures.filled) c.in-Ok.is start_over (start_kept _)

pub read_table-requires : goal.read_table-requires
read_table-requires c = c.blank_table-t.ensures

pub start_over-requires : goal.start_over-requires
start_over-requires c = table_rows _ _ (c.read_table.ensures.answer, c.read_table.ensures.filled) c.in-Ok.is
