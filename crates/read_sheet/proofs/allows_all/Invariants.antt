use mathlib.Core.Path.{◌≡◌}
use mathlib.Core.Bool.{true}
use Prim.Native.Nat.{ℕ, ◌-◌, ◌≤◌}
use lib.Dec.{eqb}
use lib.ListN.{get_or}
use Rattle.bounded.specs.Quantifiers.{all_below}
use Rattle.read_sheet.proofs.allows_all.Given as goal

abbrev pub invariant-loop-a : goal.invariant-loop-a
invariant-loop-a l = (l.a ≤ l.k) × (all_below l.a (λ (n : ℕ). eqb (get_or l.x n 0) l.full) ≡ true)
