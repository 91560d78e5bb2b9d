use mathlib.Core.Path.{◌≡◌}
use Prim.Native.Nat.{◌≤◌}
use lib.ListN.{length}
use Rattle.bounded.specs.Table.{filled}
use Rattle.problem.specs.PutBack.{plan_of}
use Rattle.problem.specs.Held.{held}
use Rattle.problem.specs.Masks.{state_of}
use Rattle.undo.specs.Undone.{mended}
use Rattle.undo.proofs.repair.Given as goal

abbrev pub invariant-loop-j : goal.invariant-loop-j
invariant-loop-j l = (l.j ≤ length l.initial.out) × (length l.out ≡ length l.initial.out) × (l.out ≡ filled l.j (λ k. mended (held l.view.table.now) (state_of l.view.state.now) l.i l.v k (plan_of l.initial.out k)) l.initial.out)
