use Prim.Native.Nat.{◌≤◌}
use mathlib.Core.Path.{◌≡◌}
use mathlib.Core.Bool.{true}
use Rattle.bounded.specs.Quantifiers.{imp, all_below}
use Rattle.bounded.specs.Mask.{bit}
use Rattle.problem.specs.Problem.{any_live}
use Rattle.problem.specs.Held.{held}
use Rattle.problem.specs.Masks.{state_of}
use Rattle.held.proofs.View.none_empty.Given as goal

abbrev pub invariant-loop-l : goal.invariant-loop-l
invariant-loop-l w = (w.l ≤ 32) × (all_below w.l (λ l. imp (bit w.self.state.now.active l) (any_live (held w.self.table.now) (state_of w.self.state.now) l (λ c. true))) ≡ true)
