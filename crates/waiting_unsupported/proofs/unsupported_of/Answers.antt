-- `waiting_unsupported::unsupported_of`: the word so far has the values without a support at a variable passed. Assumes nothing.
use mathlib.Core.Path.{sym}
use mathlib.Core.Logic.{◌≢◌}
use Prim.Native.Nat.{◌<◌}
use lib.Dec.{T}
use borrow.Author.Rules.{rules}
use Rattle.bounded.specs.Mask.{bit, without}
use Rattle.bounded.proofs.Members.{left_all, left_next}
use Rattle.held.proofs.Laws.{domain_values}
use Rattle.waiting_unsupported.proofs.Words.{at_lowest, seen_first, seen_next, seen_end}
use Rattle.waiting_unsupported.proofs.unsupported_of.Goals as goal
use Rattle.waiting_unsupported.proofs.unsupported_of.Goals.{After-lowest-k}

-- the variable of a turn: an active one, and not i
at_turn : (c : After-lowest-k) → let a = c.args in let k = c.lowest-k.result in let rest = c.loop-rest.rest in
    (k < 32) × (k ≢ a.i) × T (bit rest k) × (without 32 rest k < rest) × T (bit a.view.state.now.active k)
at_turn c =
    let a = c.args in
    at_lowest a.view.state.now.active c.neighbours.result a.i c.requires.0
    c.loop-rest-test.true c.lowest-k.ensures c.without-rest.ensures c.loop-rest.invariant.0

pub loop-rest-init : goal.loop-rest-init
loop-rest-init c =
    let p = c.requires in
    (left_all 32 _ (search rules), rw c.without-rest.ensures (seen_first c.args.view.ready _ p.0 p.1 _ c.neighbours.ensures))

pub offset_bounds-view-k : goal.offset_bounds-view-k
offset_bounds-view-k c = let l = (at_turn (goal.at.offset_bounds-view-k c).After-lowest-k).0 in search rules

pub bounds-view-k : goal.bounds-view-k
bounds-view-k c = let l = (at_turn (goal.at.bounds-view-k c).After-lowest-k).0 in search rules

pub all_alone-x-requires : goal.all_alone-x-requires
all_alone-x-requires c =
    let p = c.requires in
    let l = at_turn (goal.at.all_alone-x-requires c).After-lowest-k in
    (c.args.view.ready.table, domain_values c.args.view.ready _ p.0, domain_values c.args.view.ready _ l.0, l.0, p.0, λ e. l.1 (sym e))

pub without-rest-requires-in-loop-rest : goal.without-rest-requires-in-loop-rest
without-rest-requires-in-loop-rest c = (at_turn (goal.at.without-rest-requires-in-loop-rest c).After-lowest-k).0

pub loop-rest-smaller : goal.loop-rest-smaller
loop-rest-smaller c = rw c.without-rest-in-loop-rest.ensures (at_turn (goal.at.loop-rest-smaller c).After-lowest-k).3

pub loop-rest-preserved : goal.loop-rest-preserved
loop-rest-preserved c =
    let p = c.requires in
    let w = c.loop-rest in
    let l = at_turn (goal.at.loop-rest-preserved c).After-lowest-k in
    (rw c.without-rest-in-loop-rest.ensures (left_next _ w.invariant.0), rw c.without-rest-in-loop-rest.ensures (seen_next c.args.view.ready _ _ l.0 l.4 l.1 c.all_alone-x.ensures w.invariant.1))

pub returns : goal.returns
returns c = seen_end c.loop-rest-test.false c.loop-rest.invariant.1
