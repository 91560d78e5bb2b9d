-- `lines::draw`: the lines of the variables passed are drawn. Assumes nothing.
use Rattle.bounded.proofs.Mask.{bit_without32}
use Rattle.bounded.proofs.Members.{left_all, left_next, left_lowest}
use Rattle.lines.proofs.Laws.{lines_none, lines_more, lines_all}
use Rattle.lines.proofs.draw.Goals as goal

pub without-rest-requires : goal.without-rest-requires
without-rest-requires c = (left_lowest 32 bit_without32 c.loop-rest.invariant.0 c.loop-rest-test.true c.lowest-i.ensures).0

pub neighbours-requires : goal.neighbours-requires
neighbours-requires c = (c.requires.0.table, (left_lowest 32 bit_without32 c.loop-rest.invariant.0 c.loop-rest-test.true c.lowest-i.ensures).0)

pub draw_variable-requires : goal.draw_variable-requires
draw_variable-requires c =
    (c.requires.0.table, (left_lowest 32 bit_without32 c.loop-rest.invariant.0 c.loop-rest-test.true c.lowest-i.ensures).0)

pub loop-rest-smaller : goal.loop-rest-smaller
loop-rest-smaller c = rw c.without-rest.ensures (left_lowest 32 bit_without32 c.loop-rest.invariant.0 c.loop-rest-test.true c.lowest-i.ensures).2

pub loop-rest-preserved : goal.loop-rest-preserved
loop-rest-preserved c =
    let w = c.loop-rest in
    let l = left_lowest 32 bit_without32 w.invariant.0 c.loop-rest-test.true c.lowest-i.ensures in
    rw c.without-rest.ensures (left_next _ w.invariant.0, lines_more _ _ _ _ _ _ _ l.0 l.1 c.neighbours.ensures c.draw_variable.ensures w.invariant.1)

pub loop-rest-init : goal.loop-rest-init
loop-rest-init c = (left_all 32 _ c.requires.0.proper.active_lt, lines_none _ _ _ c.requires.1)

pub returns : goal.returns
returns c = lines_all c.requires.0 _ _ c.loop-rest-test.false c.loop-rest.invariant.1
