-- `waiting_search::step_from`: each kind by itself. Assumes nothing.
use Rattle.waiting_search.proofs.step_from.Goals as goal

pub returns-in-Unsupported : goal.returns-in-Unsupported
returns-in-Unsupported c = record { is = rw c.in-Unsupported.is c.unsupported_variable.ensures; waits = c.requires.1 }
