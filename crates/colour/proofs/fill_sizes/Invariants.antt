use Prim.Native.Nat.{◌≤◌}
use Rattle.table.specs.Parts.{Wrote}
use Rattle.colour.specs.Parts.{entry_size}
use Rattle.colour.proofs.fill_sizes.Given as goal

abbrev pub invariant-loop-i : goal.invariant-loop-i
invariant-loop-i l = (l.i ≤ 32) × Wrote l.i l.initial.t l.t 0 (entry_size l.n l.k)
