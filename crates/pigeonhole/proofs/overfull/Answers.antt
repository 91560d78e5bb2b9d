-- `pigeonhole::overfull`. Assumes nothing.
use borrow.Author.Rules.{rules}
use Rattle.bounded.proofs.Mask.{bit_without32}
use Rattle.bounded.proofs.Members.{left_next, left_lowest}
use Rattle.pigeonhole.proofs.Laws.{pigeonhole_unsolved}
use Rattle.pigeonhole.proofs.overfull.Goals as goal

pub without-rest-requires : goal.without-rest-requires
without-rest-requires c = (left_lowest 32 bit_without32 c.loop-rest.invariant c.loop-rest-test.true c.lowest-i.ensures).0

pub offset_bounds-far-i : goal.offset_bounds-far-i
offset_bounds-far-i c = let l = (left_lowest 32 bit_without32 c.loop-rest.invariant c.loop-rest-test.true c.lowest-i.ensures).0 in search rules

pub bounds-far-i : goal.bounds-far-i
bounds-far-i c = (left_lowest 32 bit_without32 c.loop-rest.invariant c.loop-rest-test.true c.lowest-i.ensures).0

pub overflow_cast-first : goal.overflow_cast-first
overflow_cast-first c = let l = (left_lowest 32 bit_without32 c.loop-rest.invariant c.loop-rest-test.true c.lowest-i.ensures).0 in search rules

pub overflow_shl-first : goal.overflow_shl-first
overflow_shl-first c = let l = (left_lowest 32 bit_without32 c.loop-rest.invariant c.loop-rest-test.true c.lowest-i.ensures).0 in search rules

pub returns-then-overfull_among : goal.returns-then-overfull_among
returns-then-overfull_among c = pigeonhole_unsolved _ c.apart_all-far.ensures _ c.overfull_among.ensures c.if-overfull_among.true _

pub loop-rest-smaller : goal.loop-rest-smaller
loop-rest-smaller c = rw c.without-rest.ensures (left_lowest 32 bit_without32 c.loop-rest.invariant c.loop-rest-test.true c.lowest-i.ensures).2

pub loop-rest-preserved : goal.loop-rest-preserved
loop-rest-preserved c = rw c.without-rest.ensures (left_next _ c.loop-rest.invariant)
