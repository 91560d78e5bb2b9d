use Rattle.bounded.proofs.Members.{Left}
use Rattle.problem.specs.Held.{held}
use Rattle.most_apart.proofs.Laws.{RowsWritten}
use Rattle.most_apart.proofs.apart_all.Given as goal

abbrev pub invariant-loop-rest : goal.invariant-loop-rest
invariant-loop-rest l = Left 32 l.view.state.now.active l.rest × RowsWritten (held l.view.table.now) l.view.state.now.domains l.far

abbrev pub decreases-loop-rest : goal.decreases-loop-rest
decreases-loop-rest l = l.rest
