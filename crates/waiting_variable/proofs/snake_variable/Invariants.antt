use lib.ListN.{get_or}
use Rattle.problem.specs.Held.{held}
use Rattle.problem.specs.Masks.{state_of}
use Rattle.waiting.specs.Waiting.{Waits}
use Rattle.search_order.proofs.Lowest.{Seeking}
use Rattle.waiting_variable.proofs.snake_variable.Given as goal

abbrev pub invariant-loop-left : goal.invariant-loop-left
invariant-loop-left l = Seeking (held l.view.table.now) (state_of l.view.state.now) 2 l.i (get_or l.view.state.now.domains l.i 0) l.left × Waits (held l.view.table.now) (state_of l.view.state.now) l.memory.pending l.memory.waiting

abbrev pub decreases-loop-left : goal.decreases-loop-left
decreases-loop-left l = l.left
