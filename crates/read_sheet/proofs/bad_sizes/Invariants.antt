use mathlib.Core.Path.{◌≡◌}
use Prim.Native.Nat.{◌+◌, ◌-◌, ◌≤◌}
use Rattle.sheet.specs.Sheet.{layout, bad_sizes}
use Rattle.read_sheet.proofs.bad_sizes.Given as goal

abbrev pub invariant-loop-at : goal.invariant-loop-at
invariant-loop-at l = (bad_sizes layout l.s l.n l.p ≡ bad_sizes layout l.s (l.p + l.n - l.at) l.at) × (l.p ≤ l.at)
