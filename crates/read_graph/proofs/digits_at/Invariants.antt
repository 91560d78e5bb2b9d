use Rattle.read_graph.proofs.Laws.{Digiting}
use Rattle.read_graph.proofs.digits_at.Given as goal

abbrev pub invariant-loop-k : goal.invariant-loop-k
invariant-loop-k l = Digiting l.f l.p l.value l.k
