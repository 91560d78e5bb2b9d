use Rattle.read_graph.specs.Parts.{Passing}
use Rattle.read_graph.proofs.line_end.Given as goal

abbrev pub invariant-loop-k : goal.invariant-loop-k
invariant-loop-k l = Passing l.f l.p l.k
