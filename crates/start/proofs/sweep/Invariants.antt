use Prim.Native.Nat.{◌≤◌}
use Rattle.start.proofs.Sweeps.{Swept}
use Rattle.start.proofs.sweep.Given as goal

abbrev pub invariant-loop-i : goal.invariant-loop-i
invariant-loop-i l = (l.i ≤ 32) × Swept l.view.table.now l.initial.r l.i l.r l.lasts
