use mathlib.Core.Path.{◌≡◌}
use Prim.Native.Nat.{◌+◌, ◌-◌, ◌≤◌}
use lib.ListN.{length}
use Rattle.sheet.specs.Sheet.{layout, variables_of, blocks_of, blocks_from}
use Rattle.read_sheet.proofs.check.Given as goal

abbrev pub invariant-loop : goal.invariant-loop
invariant-loop l = (blocks_from layout l.s (blocks_of l.s) 0 (8 + variables_of l.s) ≡ blocks_from layout l.s (l.end - l.counter) l.least l.at) × (l.at ≤ length l.s)
