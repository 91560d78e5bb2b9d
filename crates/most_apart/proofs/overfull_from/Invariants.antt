use Prim.Native.Nat.{◌≤◌}
use Rattle.bounded.proofs.Members.{Left}
use Rattle.most_apart.proofs.Laws.{Takes}
use Rattle.most_apart.proofs.overfull_from.Given as goal

abbrev pub invariant-loop-values : goal.invariant-loop-values
invariant-loop-values l = Left 32 l.active l.rest × (l.count ≤ 17) × Takes l.active l.on l.far l.rest l.values l.count

abbrev pub decreases-loop-values : goal.decreases-loop-values
decreases-loop-values l = l.rest
