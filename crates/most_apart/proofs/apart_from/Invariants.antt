use Rattle.bounded.proofs.Members.{Left}
use Rattle.problem.specs.Held.{held}
use Rattle.most_apart.proofs.Laws.{Sifted}
use Rattle.most_apart.proofs.apart_from.Given as goal

abbrev pub invariant-loop-rest : goal.invariant-loop-rest
invariant-loop-rest l = Left 32 l.initial.rest l.rest × Sifted (held l.view.table.now) l.view.state.now.domains l.i l.far l.rest

abbrev pub decreases-loop-rest : goal.decreases-loop-rest
decreases-loop-rest l = l.rest
