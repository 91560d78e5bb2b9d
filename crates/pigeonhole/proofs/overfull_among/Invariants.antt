use Prim.Native.Nat.{◌≤◌}
use Rattle.bounded.proofs.Members.{Left}
use Rattle.pigeonhole.proofs.Laws.{Takes}
use Rattle.pigeonhole.proofs.overfull_among.Given as goal

abbrev pub invariant-loop-rest : goal.invariant-loop-rest
invariant-loop-rest l = Left 32 l.active l.rest × (l.count ≤ 16) × Takes l.active l.on l.far l.rest l.values l.count

abbrev pub decreases-loop-rest : goal.decreases-loop-rest
decreases-loop-rest l = l.rest
