-- `pigeonhole::overfull_among`: the values of the variables taken are as many as these. Assumes nothing.
use native.Mathlib.Nat.{lt_of_le_of_lt}
use native.Mathlib.Omega.{arith}
use lib.Bits.{and_le_l}
use borrow.Author.Rules.{rules}
use Rattle.bounded.proofs.Mask.{bit_without32}
use Rattle.bounded.proofs.Members.{left_and, left_lowest}
use Rattle.pigeonhole.proofs.Laws.{take_none, take_more, left_both, at_most, too_many}
use Rattle.pigeonhole.proofs.overfull_among.Goals as goal

pub loop-rest-init : goal.loop-rest-init
loop-rest-init c = (left_and 32 _ c.args.first c.requires.active_lt, omega arith, take_none _ _ _ _)

pub without-requires : goal.without-requires
without-requires c = (left_lowest 32 bit_without32 c.loop-rest.invariant.0 c.loop-rest-test.true c.lowest-j.ensures).0

pub offset_bounds-far-j : goal.offset_bounds-far-j
offset_bounds-far-j c = let l = (left_lowest 32 bit_without32 c.loop-rest.invariant.0 c.loop-rest-test.true c.lowest-j.ensures).0 in search rules

pub bounds-far-j : goal.bounds-far-j
bounds-far-j c = let l = (left_lowest 32 bit_without32 c.loop-rest.invariant.0 c.loop-rest-test.true c.lowest-j.ensures).0 in search rules

pub offset_bounds-on-j : goal.offset_bounds-on-j
offset_bounds-on-j c = let l = (left_lowest 32 bit_without32 c.loop-rest.invariant.0 c.loop-rest-test.true c.lowest-j.ensures).0 in search rules

pub bounds-on-j : goal.bounds-on-j
bounds-on-j c = let l = (left_lowest 32 bit_without32 c.loop-rest.invariant.0 c.loop-rest-test.true c.lowest-j.ensures).0 in search rules

pub returns-then-count-values : goal.returns-then-count-values
returns-then-count-values c =
    let w = c.loop-rest in
    let l = left_lowest 32 bit_without32 w.invariant.0 c.loop-rest-test.true c.lowest-j.ensures in
    too_many (take_more _ w.invariant.0 l.0 l.1 (c.requires.domain_lt _ l.0) w.invariant.2) c.if-count-values.true _

pub loop-rest-smaller : goal.loop-rest-smaller
loop-rest-smaller c =
    let w = c.loop-rest in
    let l = (left_lowest 32 bit_without32 w.invariant.0 c.loop-rest-test.true c.lowest-j.ensures).2 in
    rw c.without.ensures (lt_of_le_of_lt (and_le_l _ _) l)

pub loop-rest-preserved : goal.loop-rest-preserved
loop-rest-preserved c =
    let a = c.args in
    let w = c.loop-rest in
    let l = left_lowest 32 bit_without32 w.invariant.0 c.loop-rest-test.true c.lowest-j.ensures in
    let K = take_more _ w.invariant.0 l.0 l.1 (c.requires.domain_lt _ l.0) w.invariant.2 in
    rw c.without.ensures (left_both a.far.now _ w.invariant.0, at_most K c.if-count-values.false, K)
