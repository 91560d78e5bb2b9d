-- `most_apart::apart_all`: an entry that is not yet written has no variable. Assumes nothing.
use borrow.Author.Rules.{rules}
use Rattle.bounded.proofs.Mask.{bit_without32}
use Rattle.bounded.proofs.Members.{left_all, left_next, left_lowest}
use Rattle.most_apart.proofs.Laws.{rows_written_none, rows_written_more}
use Rattle.most_apart.proofs.apart_all.Goals as goal

pub without-rest-requires : goal.without-rest-requires
without-rest-requires c = (left_lowest 32 bit_without32 c.loop-rest.invariant.0 c.loop-rest-test.true c.lowest-i.ensures).0

pub apart_from-requires : goal.apart_from-requires
apart_from-requires c = (left_lowest 32 bit_without32 c.loop-rest.invariant.0 c.loop-rest-test.true c.lowest-i.ensures).0

pub offset_bounds-far-i : goal.offset_bounds-far-i
offset_bounds-far-i c = let l = (left_lowest 32 bit_without32 c.loop-rest.invariant.0 c.loop-rest-test.true c.lowest-i.ensures).0 in search rules

pub bounds-far-i : goal.bounds-far-i
bounds-far-i c = let l = (left_lowest 32 bit_without32 c.loop-rest.invariant.0 c.loop-rest-test.true c.lowest-i.ensures).0 in search rules

pub loop-rest-smaller : goal.loop-rest-smaller
loop-rest-smaller c = rw c.without-rest.ensures (left_lowest 32 bit_without32 c.loop-rest.invariant.0 c.loop-rest-test.true c.lowest-i.ensures).2

pub loop-rest-preserved : goal.loop-rest-preserved
loop-rest-preserved c =
    let w = c.loop-rest in
    let l = (left_lowest 32 bit_without32 w.invariant.0 c.loop-rest-test.true c.lowest-i.ensures).0 in
    (rw c.without-rest.ensures (left_next _ w.invariant.0), rows_written_more _ _ l c.apart_from.ensures w.invariant.1)

pub loop-rest-init : goal.loop-rest-init
loop-rest-init c = (left_all 32 _ (search rules), rows_written_none _ _)
