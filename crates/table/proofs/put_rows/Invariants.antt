use Prim.Native.Nat.{ℕ, ◌≤◌}
use lib.ListN.{get_or}
use Rattle.table.specs.Parts.{Wrote}
use Rattle.table.proofs.put_rows.Given as goal

abbrev pub invariant-loop-a : goal.invariant-loop-a
invariant-loop-a l = (l.a ≤ 16) × Wrote l.a l.initial.t l.t l.at (λ (k : ℕ). get_or l.rows k 0)
