use Prim.Native.Nat.{◌-◌}
use lib.ListN.{length}
use Rattle.read_graph.specs.Parts.{Passing}
use Rattle.read_graph.proofs.pass_eights.Given as goal

abbrev pub invariant-loop-k : goal.invariant-loop-k
invariant-loop-k l = Passing l.f l.p l.k

abbrev pub decreases-loop-k : goal.decreases-loop-k
decreases-loop-k l = length l.f - l.k
