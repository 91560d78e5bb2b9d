use mathlib.Core.Path.{◌≡◌}
use Prim.Native.Nat.{◌≤◌}
use lib.ListN.{length}
use Rattle.bounded.specs.Table.{filled}
use Rattle.table.specs.Parts.{transposed_row}
use Rattle.table.proofs.turn.Given as goal

abbrev pub invariant-loop-b : goal.invariant-loop-b
invariant-loop-b l = (l.b ≤ 16) × (length l.initial.turned ≡ 16) × (l.turned ≡ filled l.b (transposed_row l.rows) l.initial.turned)
