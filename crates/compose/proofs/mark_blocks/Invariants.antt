use mathlib.Core.Path.{◌≡◌}
use Prim.Native.Nat.{◌+◌, ◌-◌, ◌*◌, ◌≤◌}
use lib.ListN.{length}
use Rattle.bounded.specs.Table.{filled}
use Rattle.problem.specs.Held.{held}
use Rattle.compose.specs.Compose.{block_count}
use Rattle.compose.specs.Parts.{mark_of}
use Rattle.compose.proofs.mark_blocks.Given as goal

abbrev pub invariant-loop-x : goal.invariant-loop-x
invariant-loop-x l = (l.x ≤ 32 * l.n) × ((length l.marks ≡ 1024) × ((l.marks ≡ filled l.x (mark_of (held l.t)) l.initial.marks) × (l.blocks + block_count (held l.t) (1024 - l.x) l.x ≡ block_count (held l.t) 1024 0)))
