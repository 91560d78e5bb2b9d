use mathlib.Core.Path.{◌≡◌}
use mathlib.Core.Bool.{false}
use Prim.Native.Nat.{◌≤◌}
use Rattle.bounded.specs.Quantifiers.{any_below}
use Rattle.problem.specs.Held.{held}
use Rattle.compose.specs.Compose.{row_bars}
use Rattle.compose.proofs.bars.Given as goal

abbrev pub invariant-loop-a : goal.invariant-loop-a
invariant-loop-a l = (l.a ≤ l.z) × (any_below l.a (row_bars (held l.t) l.i l.j) ≡ false)
