use Prim.Native.Nat.{◌-◌, ◌≤◌}
use Rattle.problem.specs.Held.{held}
use Rattle.sheet.specs.Sheet.{layout}
use Rattle.compose.specs.Compose.{rows_bytes}
use Rattle.compose.specs.Parts.{Underway}
use Rattle.compose.proofs.put_rows.Given as goal

abbrev pub invariant-loop-a : goal.invariant-loop-a
invariant-loop-a l = (l.a ≤ (held l.t).size l.i) × Underway l.initial.out l.at (rows_bytes layout l.v (held l.t) l.i l.j ((held l.t).size l.i) 0) l.out l.p (rows_bytes layout l.v (held l.t) l.i l.j ((held l.t).size l.i - l.a) l.a)
