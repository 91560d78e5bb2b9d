use Prim.Native.Nat.{◌≤◌}
use Rattle.most_apart.proofs.Laws.{Diagonal}
use Rattle.most_apart.proofs.apart_pair.Given as goal

abbrev pub invariant-loop-a : goal.invariant-loop-a
invariant-loop-a l = (l.a ≤ 16) × Diagonal l.t l.i l.j l.a l.equal
