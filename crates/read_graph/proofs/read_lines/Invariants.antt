use Rattle.read_graph.proofs.Marks.{Reading}
use Prim.Native.Nat.{◌+◌, ◌-◌}
use lib.ListN.{length}
use Rattle.read_graph.proofs.read_lines.Given as goal

abbrev pub invariant-loop-p : goal.invariant-loop-p
invariant-loop-p l = Reading l.f l.near l.g l.p

abbrev pub decreases-loop-p : goal.decreases-loop-p
decreases-loop-p l = length l.f + 1 - l.p
