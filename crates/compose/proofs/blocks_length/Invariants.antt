use mathlib.Core.Path.{◌≡◌}
use Prim.Native.Nat.{◌+◌, ◌-◌, ◌*◌, ◌≤◌}
use lib.ListN.{length}
use Rattle.problem.specs.Held.{held}
use Rattle.sheet.specs.Sheet.{layout}
use Rattle.compose.specs.Compose.{blocks_bytes}
use Rattle.compose.proofs.blocks_length.Given as goal

abbrev pub invariant-loop-x : goal.invariant-loop-x
invariant-loop-x l = (l.x ≤ 32 * l.d.n) × (l.sum + length (blocks_bytes layout l.d.v (held l.d.t.now) (1024 - l.x) l.x) ≡ length (blocks_bytes layout l.d.v (held l.d.t.now) 1024 0))
