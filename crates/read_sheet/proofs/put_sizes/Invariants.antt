use Prim.Native.Nat.{◌-◌, ◌≤◌}
use Rattle.sheet.specs.Sheet.{layout}
use Rattle.sheet.specs.Relation.{size_of}
use Rattle.table.specs.Parts.{Wrote}
use Rattle.read_sheet.proofs.put_sizes.Given as goal

abbrev pub invariant-loop-k : goal.invariant-loop-k
invariant-loop-k l = (l.k ≤ 32) × Wrote l.k l.initial.t l.t 0 (size_of layout l.s)
