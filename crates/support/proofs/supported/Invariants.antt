use Rattle.bounded.proofs.Members.{Left}
use Rattle.support.proofs.Laws.{Kept}
use Rattle.support.proofs.supported.Given as goal

abbrev pub invariant-loop-rest : goal.invariant-loop-rest
invariant-loop-rest l = Left 32 l.initial.rest l.rest × Kept l.view.table.now l.view.state.now l.i l.rest l.x

abbrev pub decreases-loop-rest : goal.decreases-loop-rest
decreases-loop-rest l = l.rest
