use Rattle.std.specs.Prelude.{None}
use Prim.Native.Nat.{◌+◌, ◌≤◌}
use mathlib.Core.Path.{◌≡◌}
use Rattle.problem.specs.Run.{first, next_of_kind}
use Rattle.problem.specs.Held.{held}
use Rattle.problem.specs.Masks.{state_of}
use Rattle.waiting.specs.Waiting.{Waits}
use Rattle.waiting_search.proofs.next_step.Given as goal

abbrev pub invariant-loop-kind : goal.invariant-loop-kind
invariant-loop-kind l = (l.kind-index ≤ 5) × (first (l.kind-index + 1) (next_of_kind (held l.view.table.now) (state_of l.view.state.now)) ≡ None) × Waits (held l.view.table.now) (state_of l.view.state.now) l.memory.pending l.memory.waiting
