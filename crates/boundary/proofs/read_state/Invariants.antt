use Prim.Native.Nat.{◌+◌, ◌*◌, ◌≤◌}
use mathlib.Core.Path.{◌≡◌}
use Rattle.bounded.specs.Table.{filled}
use Rattle.buffers.specs.Bytes.{number_at}
use Rattle.boundary.proofs.read_state.Given as goal

abbrev pub invariant-loop-i : goal.invariant-loop-i
invariant-loop-i l = (l.i ≤ 32) × (l.m.active ≡ l.initial.m.active) × (l.m.domains ≡ filled l.i (λ k. number_at l.b 2 (4 + 2 * k)) l.initial.m.domains)
