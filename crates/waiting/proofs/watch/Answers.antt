-- `waiting::watch`: the test is entered at each variable passed. Assumes nothing.
use Prim.Native.Nat.{◌<◌}
use lib.Dec.{T}
use borrow.Author.Rules.{rules}
use Rattle.bounded.specs.Mask.{bit, without}
use Rattle.bounded.proofs.Mask.{bit_without32}
use Rattle.bounded.proofs.Members.{left_lowest}
use Rattle.waiting.proofs.Words.{watching_none, watching_more, watching_end}
use Rattle.waiting.proofs.watch.Goals as goal
use Rattle.waiting.proofs.watch.Goals.{After-lowest-l}

pub loop-left-init : goal.loop-left-init
loop-left-init c = watching_none _ _ _ _ (search rules) (search rules)

-- the variable of a turn: one that is left
at_turn : (c : After-lowest-l) → let l = c.lowest-l.result in let left = c.loop-left.left in (l < 32) × T (bit left l) × (without 32 left l < left)
at_turn c = left_lowest 32 bit_without32 c.loop-left.invariant.part c.loop-left-test.true c.lowest-l.ensures

pub overflow_mul-at : goal.overflow_mul-at
overflow_mul-at c = let l = (at_turn (goal.at.overflow_mul-at c).After-lowest-l).0 in search rules

pub overflow_add-at : goal.overflow_add-at
overflow_add-at c = let l = (at_turn (goal.at.overflow_add-at c).After-lowest-l).0 in search rules

pub offset_bounds-waiting-at : goal.offset_bounds-waiting-at
offset_bounds-waiting-at c = let l = (at_turn (goal.at.offset_bounds-waiting-at c).After-lowest-l).0 in search rules

pub bounds-waiting-at : goal.bounds-waiting-at
bounds-waiting-at c = let l = (at_turn (goal.at.bounds-waiting-at c).After-lowest-l).0 in search rules

pub offset_bounds-waiting-at-in-loop-left : goal.offset_bounds-waiting-at-in-loop-left
offset_bounds-waiting-at-in-loop-left c = let l = (at_turn (goal.at.offset_bounds-waiting-at-in-loop-left c).After-lowest-l).0 in search rules

pub bounds-waiting-at-in-loop-left : goal.bounds-waiting-at-in-loop-left
bounds-waiting-at-in-loop-left c = let l = (at_turn (goal.at.bounds-waiting-at-in-loop-left c).After-lowest-l).0 in search rules

pub without-left-requires : goal.without-left-requires
without-left-requires c = (at_turn (goal.at.without-left-requires c).After-lowest-l).0

pub loop-left-smaller : goal.loop-left-smaller
loop-left-smaller c = rw c.without-left.ensures (at_turn (goal.at.loop-left-smaller c).After-lowest-l).2

pub loop-left-preserved : goal.loop-left-preserved
loop-left-preserved c =
    let w = c.loop-left in
    let p = c.requires in
    rw c.without-left.ensures (watching_more w.invariant p.0 _ c.with.result (at_turn (goal.at.loop-left-preserved c).After-lowest-l).0 c.with.ensures)

pub returns : goal.returns
returns c = watching_end c.loop-left.invariant c.loop-left-test.false
