use mathlib.Core.Path.{◌≡◌}
use Prim.Native.Nat.{◌≤◌}
use Rattle.lines.specs.Lines.{line_start}
use Rattle.any_plan.proofs.Laws.{MetTo}
use Rattle.asked_plan.proofs.choose.Given as goal

abbrev pub invariant-loop-j : goal.invariant-loop-j
invariant-loop-j l = (l.j ≤ 32) × (l.p ≡ line_start l.i l.v) × MetTo l.lines l.initial.on l.p l.j l.on
