use mathlib.Core.Path.{◌≡◌}
use Prim.Native.Nat.{◌-◌, ◌*◌, ◌≤◌}
use Rattle.bounded.specs.Quantifiers.{count_below, sum_to}
use Rattle.problem.specs.Masks.{state_of}
use Rattle.report.proofs.count_values.Given as goal

abbrev pub invariant-loop-i : goal.invariant-loop-i
invariant-loop-i l = (l.i ≤ 32) × ((l.sum ≡ sum_to l.i (λ k. count_below 16 ((state_of l.m).live k))) × (l.sum ≤ 16 * l.i))
