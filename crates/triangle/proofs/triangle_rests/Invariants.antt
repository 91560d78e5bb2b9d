use Rattle.bounded.proofs.Members.{Sought}
use Rattle.triangle.proofs.Laws.{unserved_at}
use Rattle.triangle.proofs.triangle_rests.Given as goal

abbrev pub invariant-loop-left : goal.invariant-loop-left
invariant-loop-left l = Sought 16 (unserved_at l.view.table.now l.view.state.now l.i l.j) l.initial.left l.left

abbrev pub decreases-loop-left : goal.decreases-loop-left
decreases-loop-left l = l.left
