use Prim.Native.Nat.{◌≤◌}
use mathlib.Core.Path.{◌≡◌}
use lib.Dec.{eqb}
use Rattle.bounded.specs.Quantifiers.{lowest}
use Rattle.problem.specs.Held.{held}
use Rattle.held.proofs.variables.Given as goal

abbrev pub invariant-loop-i : goal.invariant-loop-i
invariant-loop-i l = (l.i ≤ 32) × (lowest l.i (λ k. eqb ((held l.t).size k) 0) ≡ l.i)
