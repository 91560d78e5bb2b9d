use Prim.Native.Nat.{◌≤◌}
use Rattle.problem.specs.Held.{held}
use Rattle.support.proofs.Laws.{Gathered}
use Rattle.support.proofs.partners.Given as goal

abbrev pub invariant-loop-a : goal.invariant-loop-a
invariant-loop-a l = (l.a ≤ 16) × Gathered (held l.t) l.domain l.i l.j l.a l.x
