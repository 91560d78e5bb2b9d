use Prim.Native.Nat.{◌≤◌}
use Rattle.problem.specs.Held.{held}
use Rattle.pigeonhole.proofs.Laws.{ApartBelow}
use Rattle.pigeonhole.proofs.apart_pair.Given as goal

abbrev pub invariant-loop-a : goal.invariant-loop-a
invariant-loop-a l = (l.n ≤ 16) × ApartBelow (held l.t) l.i l.j l.a
