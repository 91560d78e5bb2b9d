use mathlib.Core.Path.{◌≡◌}
use Prim.Native.Nat.{◌-◌, ◌*◌, ◌≤◌}
use Rattle.bounded.specs.Quantifiers.{sum_to}
use Rattle.sheet.specs.Sheet.{layout}
use Rattle.sheet.specs.Relation.{size_of}
use Rattle.report.proofs.size_sum.Given as goal

abbrev pub invariant-loop-i : goal.invariant-loop-i
invariant-loop-i l = (l.sum ≡ sum_to l.i (size_of layout l.s)) × ((l.sum ≤ 16 * l.i) × (l.i ≤ l.n))
