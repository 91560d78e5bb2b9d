use mathlib.Core.Path.{◌≡◌}
use Prim.Native.Nat.{ℕ, ◌-◌, ◌≤◌}
use lib.Dec.{ltb}
use lib.ListN.{get_or}
use Rattle.bounded.specs.Quantifiers.{any_below}
use Rattle.read_sheet.proofs.some_beyond.Given as goal

abbrev pub invariant-loop-a : goal.invariant-loop-a
invariant-loop-a l = (l.a ≤ 16) × (l.found ≡ any_below l.a (λ (k : ℕ). ltb l.full (get_or l.x k 0)))
