-- `weights::emptied`. Assumes nothing.
use Rattle.std.proofs.Common.{rules}
use Rattle.bounded.proofs.Mask.{bit_without32}
use Rattle.bounded.proofs.Members.{left_all, left_next, left_lowest}
use Rattle.weights.proofs.emptied.Goals as goal

pub offset_bounds-on-j : goal.offset_bounds-on-j
offset_bounds-on-j c = let l = (left_lowest 32 bit_without32 c.loop-rest.invariant c.loop-rest-test.true c.lowest-j.ensures).0 in search rules

pub bounds-on-j : goal.bounds-on-j
bounds-on-j c = let l = (left_lowest 32 bit_without32 c.loop-rest.invariant c.loop-rest-test.true c.lowest-j.ensures).0 in search rules

pub without-rest-requires : goal.without-rest-requires
without-rest-requires c = (left_lowest 32 bit_without32 c.loop-rest.invariant c.loop-rest-test.true c.lowest-j.ensures).0

pub loop-rest-smaller : goal.loop-rest-smaller
loop-rest-smaller c = rw c.without-rest.ensures (left_lowest 32 bit_without32 c.loop-rest.invariant c.loop-rest-test.true c.lowest-j.ensures).2

pub loop-rest-preserved : goal.loop-rest-preserved
loop-rest-preserved c = rw c.without-rest.ensures (left_next _ c.loop-rest.invariant)

pub loop-rest-init : goal.loop-rest-init
loop-rest-init c = left_all 32 _ (search rules)

pub returns-then-on-j-eq0 : goal.returns-then-on-j-eq0
returns-then-on-j-eq0 c = (left_lowest 32 bit_without32 c.loop-rest.invariant c.loop-rest-test.true c.lowest-j.ensures).0
