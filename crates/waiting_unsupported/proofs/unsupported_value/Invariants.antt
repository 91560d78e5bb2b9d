use Rattle.std.specs.Prelude.{None}
use Prim.Native.Nat.{◌≤◌}
use mathlib.Core.Path.{◌≡◌}
use Rattle.problem.specs.Problem.{unsupported}
use Rattle.problem.specs.Run.{step_if, first}
use Rattle.problem.specs.Held.{held}
use Rattle.problem.specs.Masks.{state_of}
use Rattle.problem.specs.declared.Record.TheVariants.{Unsupported}
use Rattle.waiting_unsupported.proofs.unsupported_value.Given as goal

abbrev pub invariant-loop-k : goal.invariant-loop-k
invariant-loop-k l = (l.k ≤ 32) × (first l.k (λ m. step_if (unsupported (held l.view.table.now) (state_of l.view.state.now) l.i l.b m) (Unsupported l.i l.b m)) ≡ None)
