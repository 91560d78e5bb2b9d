use mathlib.Core.Path.{◌≡◌}
use Prim.Native.Nat.{ℕ, ◌+◌, ◌-◌, ◌*◌, ◌≤◌}
use Rattle.buffers.specs.Bytes.{number_at}
use Rattle.table.specs.Parts.{Wrote}
use Rattle.read_sheet.proofs.read_rows.Given as goal

abbrev pub invariant-loop-a : goal.invariant-loop-a
invariant-loop-a l = (l.a ≤ l.k) × (l.at ≡ l.p + l.a * l.w) × Wrote l.a l.initial.x l.x 0 (λ (b : ℕ). number_at l.s l.w (l.p + b * l.w))
