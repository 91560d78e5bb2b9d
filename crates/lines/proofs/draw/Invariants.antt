use Rattle.bounded.proofs.Members.{Left}
use Rattle.lines.proofs.Laws.{LinesDrawn}
use Rattle.lines.proofs.draw.Given as goal

abbrev pub invariant-loop-rest : goal.invariant-loop-rest
invariant-loop-rest l = Left 32 l.active l.rest × LinesDrawn l.t l.active l.rest l.lines

abbrev pub decreases-loop-rest : goal.decreases-loop-rest
decreases-loop-rest l = l.rest
