-- `read_graph::pass_eights`: eight bytes that end no line are the line's. Assumes nothing.
use mathlib.Core.Path.{sym, ◌∙◌}
use Rattle.read_graph.proofs.Laws.{line_eight}
use Rattle.read_graph.proofs.pass_eights.Goals as goal

pub loop-k-preserved : goal.loop-k-preserved
loop-k-preserved c = line_eight _ _ _ c.loop-k.invariant c.loop-k-test.true (sym c.ends_in_eight.ensures ∙ c.if-ends_in_eight.false)
