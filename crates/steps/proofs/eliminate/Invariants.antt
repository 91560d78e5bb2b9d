use Prim.Native.Nat.{◌≤◌}
use mathlib.Core.Path.{◌≡◌}
use Rattle.bounded.specs.Table.{filled}
use Rattle.problem.specs.Held.{held}
use Rattle.problem.specs.Masks.{state_of}
use Rattle.steps.specs.Words.{domain_after}
use Rattle.steps.proofs.eliminate.Given as goal

abbrev pub invariant-loop-other : goal.invariant-loop-other
invariant-loop-other l = (l.other ≤ 32) × (l.r.active ≡ l.initial.r.active) × (l.r.domains ≡ filled l.other (domain_after (held l.view.table.now) (state_of l.view.state.now) l.i) l.initial.r.domains)
