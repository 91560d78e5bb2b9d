use Rattle.std.specs.Prelude.{None}
use mathlib.Core.Path.{◌≡◌}
use Prim.Native.Nat.{◌≤◌}
use Rattle.problem.specs.Run.{first}
use Rattle.problem.specs.Held.{held}
use Rattle.problem.specs.Masks.{state_of}
use Rattle.waiting.specs.Waiting.{Waits}
use Rattle.search_order.specs.Lowest.{step_from}
use Rattle.waiting_search.specs.Kinds.{number_of}
use Rattle.waiting_search.proofs.next_of_kind.Given as goal

abbrev pub invariant-loop-i : goal.invariant-loop-i
invariant-loop-i l = (l.i ≤ 32) × (first l.i (step_from (held l.view.table.now) (state_of l.view.state.now) (number_of l.kind)) ≡ None) × Waits (held l.view.table.now) (state_of l.view.state.now) l.memory.pending l.memory.waiting
