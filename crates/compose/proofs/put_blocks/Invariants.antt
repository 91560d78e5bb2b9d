use Prim.Native.Nat.{◌+◌, ◌-◌, ◌*◌, ◌≤◌}
use Rattle.problem.specs.Held.{held}
use Rattle.sheet.specs.Sheet.{layout}
use Rattle.compose.specs.Compose.{blocks_bytes}
use Rattle.compose.specs.Parts.{Underway}
use Rattle.compose.proofs.put_blocks.Given as goal

abbrev pub invariant-loop-x : goal.invariant-loop-x
invariant-loop-x l = (l.x ≤ 32 * l.d.n) × Underway l.initial.out (8 + l.d.n) (blocks_bytes layout l.d.v (held l.d.t.now) 1024 0) l.out l.p (blocks_bytes layout l.d.v (held l.d.t.now) (1024 - l.x) l.x)
