use mathlib.Core.Path.{◌≡◌}
use Prim.Native.Nat.{ℕ, ◌-◌, ◌^◌, ◌≤◌}
use lib.ListN.{length}
use Rattle.bounded.specs.Mask.{without}
use Rattle.bounded.specs.Table.{filled}
use Rattle.colour.proofs.edge_rows.Given as goal

abbrev pub invariant-loop-a : goal.invariant-loop-a
invariant-loop-a l = (l.a ≤ 16) × (length l.initial.rows ≡ 16) × (l.rows ≡ filled l.a (λ (b : ℕ). without 16 (2 ^ l.k - 1) b) l.initial.rows)
