use Prim.Native.Nat.{◌≤◌}
use Rattle.lines.specs.Lines.{PairDrawn}
use Rattle.lines.proofs.draw_pair.Given as goal

abbrev pub invariant-loop-a : goal.invariant-loop-a
invariant-loop-a l = (l.a ≤ 16) × PairDrawn l.t l.initial.lines l.i l.j l.a l.lines
