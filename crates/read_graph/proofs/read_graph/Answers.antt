-- `read_graph::read_graph`: the length first, then the lines. Assumes nothing.
use mathlib.Core.Path.{sym, ◌∙◌}
use Rattle.graph.proofs.Reading.{read_long, read_short}
use Rattle.read_graph.proofs.read_graph.Goals as goal

pub returns-then-f-gt65536 : goal.returns-then-f-gt65536
returns-then-f-gt65536 c = record { is = sym (read_long c.args.f.now c.if-f-gt65536.true); long = c.requires.long; marks = tt }

pub returns : goal.returns
returns c = let r = c.read_lines.ensures in record { is = r.is ∙ sym (read_short c.args.f.now c.if-f-gt65536.false); long = r.long; marks = r.marks }
