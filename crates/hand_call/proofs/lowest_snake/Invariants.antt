use Prim.Native.Nat.{◌≤◌}
use mathlib.Core.Path.{◌≡◌}
use Rattle.bounded.specs.Quantifiers.{lowest}
use Rattle.problem.specs.Problem.{snake}
use Rattle.problem.specs.Held.{held}
use Rattle.problem.specs.Masks.{state_of}
use Rattle.hand_call.proofs.lowest_snake.Given as goal

abbrev pub invariant-loop-v : goal.invariant-loop-v
invariant-loop-v l = (l.v ≤ 16) × (lowest l.v (snake (held l.view.table.now) (state_of l.view.state.now) l.i) ≡ l.v)
