-- `most_apart::apart_from`: the variables passed that stayed are apart from i. Assumes nothing.
use mathlib.Core.Logic.{◌≢◌}
use Prim.Native.Nat.{◌<◌}
use lib.Bits.{bit_and}
use borrow.Author.Rules.{rules}
use Rattle.bounded.specs.Mask.{without}
use Rattle.bounded.proofs.Mask.{bit_without32}
use Rattle.bounded.proofs.Members.{left_next, left_lowest, left_other}
use Rattle.held.proofs.Laws.{domain_values}
use Rattle.most_apart.proofs.Laws.{sift_kept, sift_gone}
use Rattle.most_apart.proofs.apart_from.Goals as goal
use Rattle.most_apart.proofs.apart_from.Goals.{After-lowest-j}

-- the variable of a turn
module _ (c : After-lowest-j) where
  at_turn : let a = c.args in
      (c.lowest-j.result < 32) × (c.lowest-j.result ≢ a.i) × (without 32 c.loop-rest.rest c.lowest-j.result < c.loop-rest.rest)
  at_turn =
      let a = c.args in
      let w = c.loop-rest in
      let l = left_lowest 32 bit_without32 w.invariant.0 c.loop-rest-test.true c.lowest-j.ensures in
      let x = bit_and a.view.state.now.active c.neighbours.result in
      (l.0, left_other 32 bit_without32 x a.i w.invariant.0 c.without-rest.ensures c.requires l.0 l.1, l.2)

pub offset_bounds-on-j : goal.offset_bounds-on-j
offset_bounds-on-j c = let l = (at_turn (goal.at.offset_bounds-on-j c).After-lowest-j).0 in search rules

pub bounds-on-j : goal.bounds-on-j
bounds-on-j c = let l = (at_turn (goal.at.bounds-on-j c).After-lowest-j).0 in search rules

pub apart_pair-requires : goal.apart_pair-requires
apart_pair-requires c =
    let p = c.requires in
    let l = at_turn (goal.at.apart_pair-requires c).After-lowest-j in
    (c.args.view.ready.table, domain_values c.args.view.ready _ p, domain_values c.args.view.ready _ l.0, p, l.0, l.1)

pub loop-rest-smaller : goal.loop-rest-smaller
loop-rest-smaller c = rw c.without-rest-in-loop-rest.ensures (at_turn (goal.at.loop-rest-smaller c).After-lowest-j).2

pub loop-rest-smaller-then-not-apart_pair : goal.loop-rest-smaller-then-not-apart_pair
loop-rest-smaller-then-not-apart_pair c = rw c.without-rest-in-loop-rest.ensures (at_turn (goal.at.loop-rest-smaller-then-not-apart_pair c).After-lowest-j).2

pub loop-rest-preserved : goal.loop-rest-preserved
loop-rest-preserved c =
    let w = c.loop-rest in
    rw c.without-rest-in-loop-rest.ensures (left_next _ w.invariant.0, sift_kept _ (at_turn (goal.at.loop-rest-preserved c).After-lowest-j).0 c.apart_pair.ensures c.if-not-apart_pair.false w.invariant.1)

pub loop-rest-preserved-then-not-apart_pair : goal.loop-rest-preserved-then-not-apart_pair
loop-rest-preserved-then-not-apart_pair c =
    let w = c.loop-rest in
    rw (c.without-far.ensures, c.without-rest-in-loop-rest.ensures) (left_next _ w.invariant.0, sift_gone _ (at_turn (goal.at.loop-rest-preserved-then-not-apart_pair c).After-lowest-j).0 w.invariant.1)

pub without-rest-requires-in-loop-rest : goal.without-rest-requires-in-loop-rest
without-rest-requires-in-loop-rest c = (at_turn (goal.at.without-rest-requires-in-loop-rest c).After-lowest-j).0

pub without-far-requires : goal.without-far-requires
without-far-requires c = (at_turn (goal.at.without-far-requires c).After-lowest-j).0
