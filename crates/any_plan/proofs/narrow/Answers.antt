-- `any_plan::narrow`: it may stop anywhere. Assumes nothing.
use native.Mathlib.Omega.{arith}
use Rattle.bounded.proofs.Members.{lowest_member}
use Rattle.any_plan.proofs.narrow.Goals as goal

-- the variable taken is one of 32
pub meet_one-met-requires : goal.meet_one-met-requires
meet_one-met-requires c =
    let w = c.loop-todo in
    let m = lowest_member 32 w.todo w.invariant.0 c.loop-todo-test.true in
    omega (arith, m.0, c.lowest-k.ensures)

pub failed-requires : goal.failed-requires
failed-requires c =
    let w = c.loop-todo in
    let m = lowest_member 32 w.todo w.invariant.0 c.loop-todo-test.true in
    omega (arith, m.0, c.lowest-k.ensures)

pub without-requires : goal.without-requires
without-requires c =
    let w = c.loop-todo in
    let m = lowest_member 32 w.todo w.invariant.0 c.loop-todo-test.true in
    omega (arith, m.0, c.lowest-k.ensures)
