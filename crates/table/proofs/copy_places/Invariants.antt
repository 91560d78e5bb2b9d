use Prim.Native.Nat.{ℕ, ◌≤◌}
use lib.ListN.{get_or}
use Rattle.table.specs.Parts.{Wrote}
use Rattle.table.proofs.copy_places.Given as goal

abbrev pub invariant-loop-k : goal.invariant-loop-k
invariant-loop-k l = (l.k ≤ 1024) × Wrote l.k l.initial.t l.t 32 (λ (n : ℕ). get_or l.q n 0)
