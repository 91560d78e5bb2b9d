-- `snake_substitution::narrow_at`: the values that are not left were asked. Assumes nothing.
use Prim.Native.Nat.{◌<◌}
use lib.Dec.{T}
use Rattle.bounded.specs.Mask.{bit, without}
use Rattle.bounded.proofs.Mask.{bit_without16}
use Rattle.bounded.proofs.Members.{left_all, left_next, left_highest}
use Rattle.snake_substitution.proofs.Goals.{values_first, values_next, values_end}
use Rattle.snake_substitution.proofs.narrow_at.Goals as goal
use Rattle.snake_substitution.proofs.narrow_at.Goals.{After-highest-d}

-- the value of a turn: one of k that is left
at_turn : (c : After-highest-d) → let d = c.highest-d.result in let left = c.loop-left.left in (d < 16) × T (bit left d) × (without 16 left d < left)
at_turn c = left_highest 16 bit_without16 c.loop-left.invariant.0 c.highest-d.ensures

pub loop-left-preserved : goal.loop-left-preserved
loop-left-preserved c =
    let v = c.loop-left in
    rw c.without-left.ensures (left_next _ v.invariant.0, values_next c.args.view.ready _ v.left _ (at_turn (goal.at.loop-left-preserved c).After-highest-d).0 v.invariant.1 c.narrow_by-rests.ensures)

pub loop-left-init : goal.loop-left-init
loop-left-init c = let p = c.requires in (left_all 16 _ (c.args.view.ready.proper.domain_lt _ p.3), values_first c.args.view.ready _ p.0)

pub loop-left-smaller : goal.loop-left-smaller
loop-left-smaller c = rw c.without-left.ensures (at_turn (goal.at.loop-left-smaller c).After-highest-d).2

pub returns : goal.returns
returns c = values_end c.args.view.ready _ c.loop-left.left c.loop-left-test.false c.loop-left.invariant.1
