use Rattle.bounded.proofs.Members.{Left}
use Rattle.lines.specs.Lines.{DrawnTo}
use Rattle.lines.proofs.draw_variable.Given as goal

abbrev pub invariant-loop-rest : goal.invariant-loop-rest
invariant-loop-rest l = Left 32 l.initial.rest l.rest × DrawnTo l.t l.initial.lines l.i l.initial.rest l.rest l.lines

abbrev pub decreases-loop-rest : goal.decreases-loop-rest
decreases-loop-rest l = l.rest
