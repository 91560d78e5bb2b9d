use mathlib.Core.Path.{◌≡◌}
use Prim.Native.Nat.{◌≤◌}
use Rattle.bounded.specs.Quantifiers.{any_below}
use Rattle.any_plan.specs.Steps.{barred_at}
use Rattle.any_plan.proofs.barred.Given as goal

abbrev pub invariant-loop-j : goal.invariant-loop-j
invariant-loop-j l = (l.j ≤ 32) × (l.some ≡ any_below l.j (barred_at l.lines l.on l.p))
