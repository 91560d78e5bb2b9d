use Prim.Native.Nat.{◌≤◌}
use Rattle.waiting.proofs.Words.{TrianglesWaking}
use Rattle.waiting.proofs.wake_triangles.Given as goal

abbrev pub invariant-loop-i : goal.invariant-loop-i
invariant-loop-i l = (l.i ≤ 32) × TrianglesWaking l.i l.l l.c l.initial.pending l.waiting l.pending
