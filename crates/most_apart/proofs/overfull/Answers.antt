-- `most_apart::overfull`. Assumes nothing.
use Rattle.bounded.proofs.Mask.{bit_without32}
use Rattle.bounded.proofs.Members.{left_next, left_lowest}
use Rattle.most_apart.proofs.Laws.{pigeonhole_unsolved}
use Rattle.most_apart.proofs.overfull.Goals as goal

pub without-rest-requires : goal.without-rest-requires
without-rest-requires c = (left_lowest 32 bit_without32 c.loop-rest.invariant c.loop-rest-test.true c.lowest-i.ensures).0

pub overfull_from-requires : goal.overfull_from-requires
overfull_from-requires c =
    let w = c.loop-rest in
    let l = left_lowest 32 bit_without32 w.invariant c.loop-rest-test.true c.lowest-i.ensures in
    (c.args.view.ready.proper, l.0, w.invariant.part _ l.1)

pub returns-then-overfull_from : goal.returns-then-overfull_from
returns-then-overfull_from c = pigeonhole_unsolved _ c.apart_all-far.ensures _ c.overfull_from.ensures c.if-overfull_from.true _

pub loop-rest-smaller : goal.loop-rest-smaller
loop-rest-smaller c = rw c.without-rest.ensures (left_lowest 32 bit_without32 c.loop-rest.invariant c.loop-rest-test.true c.lowest-i.ensures).2

pub loop-rest-preserved : goal.loop-rest-preserved
loop-rest-preserved c = rw c.without-rest.ensures (left_next _ c.loop-rest.invariant)
