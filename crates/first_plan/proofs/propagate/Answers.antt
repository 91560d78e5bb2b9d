-- `first_plan::propagate`: it may stop anywhere. Assumes nothing.
use lib.Bits.{bit_or}
use Rattle.bounded.proofs.Mask.{bit_without32}
use Rattle.bounded.proofs.Members.{left_and, left_lowest}
use Rattle.first_plan.proofs.Supports.{still_active, narrowed_same, narrowed_trans}
use Rattle.first_plan.proofs.propagate.Goals as goal

pub loop-todo-init : goal.loop-todo-init
loop-todo-init c = let p = c.requires in (left_and 32 _ c.args.first p.proper.active_lt, narrowed_same p)

pub spread-requires : goal.spread-requires
spread-requires c =
    let w = c.loop-todo.invariant in
    let l = left_lowest 32 bit_without32 w.0 c.loop-todo-test.true c.lowest-i.ensures in
    (w.1.ready, l.0, still_active c.args.m w.1 _ (w.0.part _ l.1))

pub without-requires : goal.without-requires
without-requires c = (left_lowest 32 bit_without32 c.loop-todo.invariant.0 c.loop-todo-test.true c.lowest-i.ensures).0

pub loop-todo-preserved : goal.loop-todo-preserved
loop-todo-preserved c = (left_and 32 _ (bit_or c.without.result c.in_ok-changed.changed) c.requires.proper.active_lt, narrowed_trans c.loop-todo.invariant.1 c.spread.ensures.narrowed)
