-- `pigeonhole::apart_from`: the variables passed that stayed are apart from i. Assumes nothing.
use Rattle.bounded.proofs.Mask.{bit_without32}
use Rattle.bounded.proofs.Members.{left_next, left_lowest, left_other}
use Rattle.pigeonhole.proofs.Laws.{sift_kept, sift_gone}
use Rattle.pigeonhole.proofs.apart_from.Goals as goal

pub without-rest-requires-in-loop-rest : goal.without-rest-requires-in-loop-rest
without-rest-requires-in-loop-rest c = (left_lowest 32 bit_without32 c.loop-rest.invariant.0 c.loop-rest-test.true c.lowest-j.ensures).0

pub apart_pair-requires : goal.apart_pair-requires
apart_pair-requires c =
    let p = c.requires in
    let a = c.args in
    let w = c.loop-rest in
    let l = left_lowest 32 bit_without32 w.invariant.0 c.loop-rest-test.true c.lowest-j.ensures in
    (p.0, p.1, l.0, left_other 32 bit_without32 a.active a.i w.invariant.0 c.without-rest.ensures p.1 l.0 l.1)

pub without-far-requires : goal.without-far-requires
without-far-requires c = (left_lowest 32 bit_without32 c.loop-rest.invariant.0 c.loop-rest-test.true c.lowest-j.ensures).0

pub loop-rest-smaller : goal.loop-rest-smaller
loop-rest-smaller c = rw c.without-rest-in-loop-rest.ensures (left_lowest 32 bit_without32 c.loop-rest.invariant.0 c.loop-rest-test.true c.lowest-j.ensures).2

pub loop-rest-smaller-then-not-apart_pair : goal.loop-rest-smaller-then-not-apart_pair
loop-rest-smaller-then-not-apart_pair c = rw c.without-rest-in-loop-rest.ensures (left_lowest 32 bit_without32 c.loop-rest.invariant.0 c.loop-rest-test.true c.lowest-j.ensures).2

pub loop-rest-preserved : goal.loop-rest-preserved
loop-rest-preserved c =
    let w = c.loop-rest in
    let l = (left_lowest 32 bit_without32 w.invariant.0 c.loop-rest-test.true c.lowest-j.ensures).0 in
    rw c.without-rest-in-loop-rest.ensures (left_next _ w.invariant.0, sift_kept _ _ _ _ _ l c.apart_pair.ensures c.if-not-apart_pair.false w.invariant.1)

pub loop-rest-preserved-then-not-apart_pair : goal.loop-rest-preserved-then-not-apart_pair
loop-rest-preserved-then-not-apart_pair c =
    let w = c.loop-rest in
    let l = (left_lowest 32 bit_without32 w.invariant.0 c.loop-rest-test.true c.lowest-j.ensures).0 in
    rw (c.without-far.ensures, c.without-rest-in-loop-rest.ensures) (left_next _ w.invariant.0, sift_gone _ _ _ _ _ l w.invariant.1)
