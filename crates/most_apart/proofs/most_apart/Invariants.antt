use Prim.Native.Nat.{◌-◌, ◌%◌}
use lib.Dec.{T}
use Rattle.bounded.specs.Mask.{bit}
use Rattle.bounded.proofs.Members.{Left}
use Rattle.most_apart.proofs.most_apart.Given as goal

abbrev pub invariant-loop-left : goal.invariant-loop-left
invariant-loop-left l = Left 32 l.rest l.left × T (bit l.rest (31 - l.best % 32))

abbrev pub decreases-loop-left : goal.decreases-loop-left
decreases-loop-left l = l.left
