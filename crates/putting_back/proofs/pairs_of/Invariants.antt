use mathlib.Core.Path.{◌≡◌}
use Prim.Native.Nat.{◌≤◌}
use mathlib.Core.Bool.{true}
use lib.ListN.{length}
use Rattle.bounded.specs.Quantifiers.{all_below}
use Rattle.problem.specs.PutBack.{plan_of}
use Rattle.problem.specs.Held.{held}
use Rattle.problem.specs.Masks.{state_of}
use Rattle.putting_back.specs.Plan.{pair_fits}
use Rattle.putting_back.proofs.pairs_of.Given as goal

abbrev pub invariant-loop-j : goal.invariant-loop-j
invariant-loop-j l = (l.j ≤ length l.plan) × (all_below l.j (pair_fits (held l.view.table.now) (state_of l.view.state.now) (plan_of l.plan) l.i) ≡ true)
