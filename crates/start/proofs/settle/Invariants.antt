use mathlib.Core.Path.{◌≡◌}
use Rattle.problem.specs.Problem.{live_count, max_variables}
use Rattle.problem.specs.Held.{held}
use Rattle.problem.specs.Masks.{state_of, masks_of}
use Rattle.start.specs.Parts.{prune_below}
use Rattle.start.proofs.Sweeps.{Above}
use Rattle.start.proofs.settle.Given as goal

abbrev pub invariant-loop-kept : goal.invariant-loop-kept
invariant-loop-kept l = Above l.t l.kept × (l.next ≡ masks_of (prune_below max_variables (held l.t) (state_of l.kept)))

abbrev pub decreases-loop-kept : goal.decreases-loop-kept
decreases-loop-kept l = live_count (held l.t) (state_of l.kept)
