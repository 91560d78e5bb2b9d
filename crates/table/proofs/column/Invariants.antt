use mathlib.Core.Path.{◌≡◌}
use Prim.Native.Nat.{ℕ, ◌≤◌}
use lib.ListN.{get_or}
use Rattle.bounded.specs.Mask.{bit, mask_of}
use Rattle.table.proofs.column.Given as goal

abbrev pub invariant-loop-a : goal.invariant-loop-a
invariant-loop-a l = (l.a ≤ 16) × (l.word ≡ mask_of l.a (λ (k : ℕ). bit (get_or l.rows k 0) l.b))
