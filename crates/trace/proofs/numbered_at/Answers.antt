-- `trace::numbered_at`: the kind's record, from the three bytes after it. Assumes nothing.
use mathlib.Core.Path.{◌∙◌}
use Rattle.trace.proofs.numbered_at.Goals as goal

pub returns : goal.returns
returns c = c.record_of.ensures ∙ rw (c.byte_at-4.ensures, c.byte_at-3.ensures, c.byte_at-2.ensures, c.byte_at.ensures)
