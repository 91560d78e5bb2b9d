use mathlib.Core.Path.{◌≡◌}
use Prim.Native.Nat.{◌-◌, ◌≤◌}
use Rattle.bounded.specs.Quantifiers.{count_below}
use Rattle.bounded.specs.Mask.{bit}
use Rattle.report.proofs.count_bits.Given as goal

abbrev pub invariant-loop-c : goal.invariant-loop-c
invariant-loop-c l = (l.c ≤ l.n) × ((l.sum ≡ count_below l.c (λ k. bit l.x k)) × (l.sum ≤ l.c))
