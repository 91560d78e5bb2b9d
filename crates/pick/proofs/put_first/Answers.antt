-- `pick::put_first`: the first plan of what the run left, and that put back. Assumes nothing.
use mathlib.Core.Path.{sym}
use borrow.Author.Tests.{not-true, not-false}
use lib.Seq.{length-take-le}
use Rattle.pick.proofs.Left.{left_ready}
use Rattle.pick.proofs.Job.{found_room, put_none, put_some}
use Rattle.pick.proofs.put_first.Goals as goal

pub first_plan-found-requires : goal.first_plan-found-requires
first_plan-found-requires c = let p = c.requires in left_ready p.0 p.1.0

pub returns-then-not-found : goal.returns-then-not-found
returns-then-not-found c =
    put_none c.requires.0 c.requires.1.0 _ c.first_plan-found.ensures c.args.plan.now (not-true _ c.if-not-found.true)

pub slice_bounds-first-end : goal.slice_bounds-first-end
slice_bounds-first-end c =
    found_room c.requires.0 c.requires.1.0 _ c.first_plan-found.ensures c.args.plan.now c.requires.1.1.1

pub slice_bounds-put_back_over-end : goal.slice_bounds-put_back_over-end
slice_bounds-put_back_over-end c =
    sym (length-take-le _ _ (found_room c.requires.0 c.requires.1.0 _ c.first_plan-found.ensures c.args.plan.now c.requires.1.1.1))

pub returns : goal.returns
returns c =
    put_some c.requires.0 c.requires.1.0 _ c.first_plan-found.ensures c.args.plan.now _ _ (not-false _ c.if-not-found.false) c.requires.1.1.1 c.requires.1.1.0 c.put_back_over.ensures.1
