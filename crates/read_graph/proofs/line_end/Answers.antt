-- `read_graph::line_end`: the bytes passed are the line's. Assumes nothing.
use Rattle.read_graph.proofs.Laws.{line_turn, line_hit, line_last}
use native.Mathlib.Omega.{arith}
use Rattle.read_graph.proofs.line_end.Goals as goal

pub returns-then-f-k-eq10 : goal.returns-then-f-k-eq10
returns-then-f-k-eq10 c = line_hit _ _ _ c.loop-k.invariant c.loop-k-test.true c.if-f-k-eq10.true

pub loop-k-preserved : goal.loop-k-preserved
loop-k-preserved c = line_turn _ _ _ c.loop-k.invariant c.loop-k-test.true c.if-f-k-eq10.false

pub returns : goal.returns
returns c = let i = c.loop-k.invariant in let e = line_last _ _ _ i c.loop-k-test.false in let w = i.within in omega arith
