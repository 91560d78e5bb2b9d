use Prim.Native.Nat.{◌≤◌}
use Rattle.problem.specs.Held.{held}
use Rattle.problem.specs.Masks.{state_of}
use Rattle.waiting_unsupported.proofs.Words.{Filling}
use Rattle.waiting_unsupported.proofs.first_unsupported.Given as goal

abbrev pub invariant-loop-i : goal.invariant-loop-i
invariant-loop-i l = (l.i ≤ 32) × Filling (held l.view.table.now) (state_of l.view.state.now) l.i l.words
