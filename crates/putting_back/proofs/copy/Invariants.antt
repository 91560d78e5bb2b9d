use mathlib.Core.Path.{◌≡◌}
use Prim.Native.Nat.{◌≤◌}
use lib.ListN.{length}
use Rattle.bounded.specs.Table.{filled}
use Rattle.problem.specs.PutBack.{plan_of}
use Rattle.putting_back.proofs.copy.Given as goal

abbrev pub invariant-loop-i : goal.invariant-loop-i
invariant-loop-i l = (l.i ≤ length l.plan) × (length l.out ≡ length l.initial.out) × (l.out ≡ filled l.i (plan_of l.plan) l.initial.out)
