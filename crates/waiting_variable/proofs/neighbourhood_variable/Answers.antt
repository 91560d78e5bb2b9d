-- `waiting_variable::neighbourhood_variable`: every value that another substitutes for is still left. Assumes nothing.
use mathlib.Core.Path.{◌≡◌}
use mathlib.Core.Bool.{true}
use Prim.Native.Nat.{◌<◌}
use native.Mathlib.Omega.{arith}
use lib.ListN.{get_or}
use borrow.Author.Rules.{rules}
use Rattle.bounded.specs.Mask.{bit, without}
use Rattle.held.proofs.Laws.{bit_value}
use Rattle.search_order.proofs.Lowest.{seeking_hit, seeking_end}
use Rattle.waiting_variable.proofs.Trying.{value_turn, neighbourhood_made, neighbourhood_found, values_first, values_next}
use Rattle.waiting_variable.proofs.neighbourhood_variable.Goals as goal
use Rattle.waiting_variable.proofs.neighbourhood_variable.Goals.{After-lowest-b}

-- the value of a turn: one in the domain of i, and left
at_turn : (c : After-lowest-b) → let a = c.args in let v = c.lowest-b.result in let left = c.loop-left.left in
    (v < 16) × (bit (get_or a.view.state.now.domains a.i 0) v ≡ true) × (without 16 left v < left)
at_turn c = value_turn c.loop-left.invariant.0 c.loop-left-test.true c.lowest-b.ensures

pub loop-left-init : goal.loop-left-init
loop-left-init c = let p = c.requires in (values_first c.args.view.ready _ p.1 4 3 (omega arith) (neighbourhood_made c.args.view.ready _) _ c.pending_of.ensures p.0, p.0)

pub neighbourhood_rests-found-requires : goal.neighbourhood_rests-found-requires
neighbourhood_rests-found-requires c = let p = c.requires in (bit_value c.args.view.ready _ _ (at_turn (goal.at.neighbourhood_rests-found-requires c).After-lowest-b).1, (at_turn (goal.at.neighbourhood_rests-found-requires c).After-lowest-b).1)

pub returns-then-found-ne0 : goal.returns-then-found-ne0
returns-then-found-ne0 c =
    let w = c.loop-left.invariant in
    record { is = seeking_hit _ _ 4 _ w.0 c.lowest-b.ensures (at_turn (goal.at.returns-then-found-ne0 c).After-lowest-b).0 (neighbourhood_found c.args.view.ready _ _ _ c.neighbourhood_rests-found.ensures (search rules) c.if-found-ne0.true c.lowest.ensures); waits = w.1 }

pub learn-requires : goal.learn-requires
learn-requires c = let w = c.loop-left.invariant.1 in (omega arith, c.requires.1, (at_turn (goal.at.learn-requires c).After-lowest-b).0)

pub without-left-requires : goal.without-left-requires
without-left-requires c = (at_turn (goal.at.without-left-requires c).After-lowest-b).0

pub loop-left-smaller : goal.loop-left-smaller
loop-left-smaller c = rw c.without-left.ensures (at_turn (goal.at.loop-left-smaller c).After-lowest-b).2

pub loop-left-preserved : goal.loop-left-preserved
loop-left-preserved c =
    let p = c.requires in
    let w = c.loop-left.invariant in
    rw c.without-left.ensures
    (values_next c.args.view.ready _ p.1 4 3 (omega arith) (neighbourhood_made c.args.view.ready _) _ w.0 w.1 (at_turn (goal.at.loop-left-preserved c).After-lowest-b).0 c.learn.ensures (search rules) (c.neighbourhood_rests-found.ensures.fails c.if-found-ne0.false))

pub returns : goal.returns
returns c = let w = c.loop-left.invariant in record { is = seeking_end _ _ 4 _ w.0 c.loop-left-test.false; waits = w.1 }

pub pending_of-requires : goal.pending_of-requires
pending_of-requires c = let p = c.requires in (omega arith, p.1)
