use mathlib.Core.Path.{◌≡◌}
use Prim.Native.Nat.{◌*◌, ◌≤◌}
use Rattle.bounded.specs.Quantifiers.{sum_to}
use Rattle.problem.specs.Held.{held}
use Rattle.held.proofs.size_sum.Given as goal

abbrev pub invariant-loop-i : goal.invariant-loop-i
invariant-loop-i l = (l.sum ≡ sum_to l.i (held l.t).size) × ((l.sum ≤ 16 * l.i) × (l.i ≤ l.n))
