use Rattle.bounded.proofs.Members.{Left}
use Rattle.cover.proofs.Servers.{Serving}
use Rattle.cover.proofs.serving_in.Given as goal

abbrev pub invariant-loop-left : goal.invariant-loop-left
invariant-loop-left l = Left 32 l.initial.left l.left × Serving l.view.table.now l.view.state.now l.rest l.good l.i l.j l.w l.left l.some l.broken

abbrev pub decreases-loop-left : goal.decreases-loop-left
decreases-loop-left l = l.left
