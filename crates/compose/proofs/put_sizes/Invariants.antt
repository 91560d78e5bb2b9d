use mathlib.Core.Path.{◌≡◌}
use Prim.Native.Nat.{◌≤◌}
use lib.ListN.{length}
use Rattle.bounded.specs.Table.{tab}
use Rattle.problem.specs.Held.{held}
use Rattle.buffers.specs.Written.{written}
use Rattle.compose.proofs.put_sizes.Given as goal

abbrev pub invariant-loop-i : goal.invariant-loop-i
invariant-loop-i l = (l.i ≤ l.n) × ((length l.out ≡ length l.initial.out) × (l.out ≡ written l.initial.out 8 (tab l.i (held l.t).size)))
