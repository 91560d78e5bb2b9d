use Rattle.problem.specs.Problem.{live_count}
use Rattle.problem.specs.Held.{held}
use Rattle.problem.specs.Masks.{state_of}
use Rattle.waiting.specs.Waiting.{Waits}
use Rattle.waiting_unsupported.specs.Words.{AllUnsupported}
use Rattle.waiting_run.proofs.Running.{Running}
use Rattle.waiting_run.proofs.run_table.Given as goal

abbrev pub invariant-loop-r : goal.invariant-loop-r
invariant-loop-r l = Running l.t l.initial.b l.b l.state l.at l.steps × AllUnsupported (held l.t) (state_of l.state) l.words × Waits (held l.t) (state_of l.state) l.memory.pending l.memory.waiting

abbrev pub decreases-loop-r : goal.decreases-loop-r
decreases-loop-r l = live_count (held l.t) (state_of l.state)
