use Prim.Native.Nat.{◌-◌}
use lib.Bits.{bit_and}
use Rattle.bounded.proofs.Members.{Sought}
use Rattle.problem.specs.Held.{held}
use Rattle.problem.specs.Masks.{state_of}
use Rattle.cover.proofs.Servers.{unserved_at}
use Rattle.cover.proofs.unserved.Given as goal

abbrev pub invariant-loop-left : goal.invariant-loop-left
invariant-loop-left l = Sought 16 (unserved_at (held l.view.table.now) (state_of l.view.state.now) l.rest l.good l.bad l.j) (bit_and l.bad (65535 - l.good)) l.left

abbrev pub decreases-loop-left : goal.decreases-loop-left
decreases-loop-left l = l.left
