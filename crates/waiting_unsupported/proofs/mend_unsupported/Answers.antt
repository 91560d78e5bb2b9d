-- `waiting_unsupported::mend_unsupported`: the words of the neighbours that were passed are mended. Assumes nothing.
use mathlib.Core.Path.{sym, subst}
use mathlib.Core.Logic.{◌≢◌}
use Prim.Native.Nat.{◌<◌}
use lib.Dec.{T}
use borrow.Author.Rules.{rules}
use Rattle.bounded.specs.Mask.{bit, without}
use Rattle.bounded.proofs.Members.{left_all, left_next}
use Rattle.held.specs.Ready.{Values}
use Rattle.held.proofs.Laws.{domain_values, part_values}
use Rattle.waiting_unsupported.proofs.Words.{at_lowest, mended_empty, mending_first, mending_next, mending_end}
use Rattle.waiting_unsupported.proofs.mend_unsupported.Goals as goal
use Rattle.waiting_unsupported.proofs.mend_unsupported.Goals.{After-lowest-i, After-unknown}

-- the variable of a turn: another one, and left
at_turn : (c : After-lowest-i) → let a = c.args in let i = c.lowest-i.result in let left = c.loop-left.left in
    (i < 32) × (i ≢ a.l) × T (bit left i) × (without 32 left i < left) × T (bit a.view.state.now.active i)
at_turn c =
    let a = c.args in
    at_lowest a.view.state.now.active c.neighbours.result a.l c.requires.0.variable
    c.loop-left-test.true c.lowest-i.ensures c.without-left.ensures c.loop-left.invariant.0

pub returns-then-domain-eq0 : goal.returns-then-domain-eq0
returns-then-domain-eq0 c =
    let p = c.requires in
    mended_empty c.args.view.ready _ _ (search rules) p.1 c.if-domain-eq0.true

pub loop-left-init : goal.loop-left-init
loop-left-init c =
    let p = c.requires in
    (left_all 32 _ (search rules), rw c.without-left.ensures (mending_first c.args.view.ready _ _ _ p.0.variable (search rules) c.if-domain-eq0.false c.neighbours.ensures))

pub offset_bounds-words-i : goal.offset_bounds-words-i
offset_bounds-words-i c = let l = (at_turn (goal.at.offset_bounds-words-i c).After-lowest-i).0 in search rules

pub bounds-words-i : goal.bounds-words-i
bounds-words-i c = let l = (at_turn (goal.at.bounds-words-i c).After-lowest-i).0 in let long = c.loop-left.invariant.1.long in search rules

pub offset_bounds-view-i : goal.offset_bounds-view-i
offset_bounds-view-i c = let l = (at_turn (goal.at.offset_bounds-view-i c).After-lowest-i).0 in search rules

pub bounds-view-i : goal.bounds-view-i
bounds-view-i c = let l = (at_turn (goal.at.bounds-view-i c).After-lowest-i).0 in search rules

-- what is not known to be words is in the domain
own : (c : After-unknown) → c.lowest-i.result < 32 → Values c.args.view.table.now c.lowest-i.result c.unknown.result
own c l = subst (Values _ _) (sym c.unknown.ensures.is) (part_values (domain_values c.args.view.ready _ l) _)

pub row_among-lost-requires : goal.row_among-lost-requires
row_among-lost-requires c =
    let p = c.requires in
    let l = at_turn (goal.at.row_among-lost-requires c).After-lowest-i in
    (c.args.view.ready.table, own (goal.at.row_among-lost-requires c).After-unknown l.0, p.0, l.0, l.1)

pub alone-requires : goal.alone-requires
alone-requires c =
    let p = c.requires in
    let l = at_turn (goal.at.alone-requires c).After-lowest-i in
    (c.args.view.ready.table, subst (Values _ _) (sym c.row_among-lost.ensures) (part_values (own (goal.at.alone-requires c).After-unknown l.0) _), domain_values c.args.view.ready _ p.0.variable, c.if-domain-eq0.false, p.0.variable, l.0, l.1)

pub offset_bounds-words-i-in-loop-left : goal.offset_bounds-words-i-in-loop-left
offset_bounds-words-i-in-loop-left c = let l = (at_turn (goal.at.offset_bounds-words-i-in-loop-left c).After-lowest-i).0 in search rules

pub bounds-words-i-in-loop-left : goal.bounds-words-i-in-loop-left
bounds-words-i-in-loop-left c = let l = (at_turn (goal.at.bounds-words-i-in-loop-left c).After-lowest-i).0 in let long = c.loop-left.invariant.1.long in search rules

pub without-left-requires-in-loop-left : goal.without-left-requires-in-loop-left
without-left-requires-in-loop-left c = (at_turn (goal.at.without-left-requires-in-loop-left c).After-lowest-i).0

pub loop-left-smaller : goal.loop-left-smaller
loop-left-smaller c = rw c.without-left-in-loop-left.ensures (at_turn (goal.at.loop-left-smaller c).After-lowest-i).3

pub loop-left-preserved : goal.loop-left-preserved
loop-left-preserved c =
    let p = c.requires in
    let w = c.loop-left in
    let l = at_turn (goal.at.loop-left-preserved c).After-lowest-i in
    let u = c.unknown.ensures in
    (rw c.without-left-in-loop-left.ensures (left_next _ w.invariant.0), rw c.without-left-in-loop-left.ensures (mending_next c.args.view.ready _ _ l.0 l.1 l.2 u.fits u.is c.row_among-lost.ensures c.alone.ensures w.invariant.1))

pub returns : goal.returns
returns c = mending_end c.loop-left-test.false c.loop-left.invariant.1
