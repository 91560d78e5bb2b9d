-- `asked_plan::pick` and `asked_plan::tries`, which call each other. Assumes nothing.
use native.Mathlib.Omega.{arith}
use borrow.Author.Rules.{rules}
use Rattle.first_plan.proofs.Branches.{pick_done}
use Rattle.asked_plan.proofs.Questions.{next_ready, next_drawn}
use Rattle.asked_plan.proofs.Branches.{value_lt, value_live, fewer, taken_known, taken, left_ready, left_drawn, no_more, less, still_next, left_known, passed}
use Rattle.asked_plan.proofs.+pick_tries.Goals as goal

pub pick-returns-then-i-ge32 : goal.pick-returns-then-i-ge32
pick-returns-then-i-ge32 t c = pick_done c.requires.0 _ c.lowest-i.ensures c.if-i-ge32.true _

pub tries-goes_on-requires : goal.tries-goes_on-requires
tries-goes_on-requires t c = let p = c.requires in (p.0, value_live p.0 _ _ p.1 p.3 c.lowest-v.ensures, p.2, p.3)

pub tries-overflow_cast-plan : goal.tries-overflow_cast-plan
tries-overflow_cast-plan t c = let p = c.requires in let l = value_lt p.0 _ _ p.1 p.3 c.lowest-v.ensures in search rules

pub tries-pick-requires : goal.tries-pick-requires
tries-pick-requires t c =
    let p = c.requires in
    let e = c.lowest-v.ensures in
    let y = c.in-Some.is in
    let n = (c.goes_on.ensures.yes _ y).0 in
    let o = value_live p.0 _ _ p.1 p.3 e in
    let l = fewer p.0 _ _ p.1 p.3 e n in
    (omega (arith, c.decreases), (next_ready p.0 _ _ o n, next_drawn p.0 _ _ o n p.2, taken_known p.0 _ _ p.1 p.3 e n c.goes_on.ensures y))

pub tries-returns-in-Some : goal.tries-returns-in-Some
tries-returns-in-Some t c =
    let p = c.requires in
    taken p.0 _ _ p.1 p.3 c.lowest-v.ensures (c.goes_on.ensures.yes _ c.in-Some.is).0 c.args.plan.now _ c.told-plan c.pick.ensures

pub tries-remove-requires : goal.tries-remove-requires
tries-remove-requires t c = let p = c.requires in (p.1.variable, value_lt p.0 _ _ p.1 p.3 c.lowest-v.ensures)

pub tries-tries-requires : goal.tries-tries-requires
tries-tries-requires t c =
    let p = c.requires in
    let e = c.lowest-v.ensures in
    let n = c.remove.ensures in
    let l = less p.0 _ _ p.1 p.3 e n in
    let m = no_more p.0 _ _ p.1 p.3 e n in
    (omega (arith, c.decreases), (left_ready p.0 _ _ p.1 p.3 e n, still_next p.0 _ _ p.1 p.3 e n, left_drawn p.0 _ _ p.1 p.3 e n p.2, left_known p.0 _ _ p.1 p.3 e n c.goes_on.ensures c.in_default.is))

pub tries-returns : goal.tries-returns
tries-returns t c = let p = c.requires in passed p.0 _ _ p.1 p.3 c.lowest-v.ensures c.remove.ensures c.goes_on.ensures c.in_default.is _ _ c.tries.ensures
