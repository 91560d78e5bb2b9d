use Prim.Native.Nat.{◌≤◌}
use Rattle.waiting.specs.Waiting.{rows}
use Rattle.waiting.proofs.Words.{Waking}
use Rattle.waiting.proofs.Memory.wake.Given as goal

abbrev pub invariant-loop-row : goal.invariant-loop-row
invariant-loop-row l = (l.row ≤ rows) × Waking l.row l.l l.initial.self.pending l.initial.self.waiting l.self.pending l.self.waiting
