-- `any_plan::explore` and `any_plan::branch`, which call each other. Assumes nothing.
use native.Mathlib.Omega.{arith}
use Rattle.any_plan.proofs.Laws.{typed_sets}
use Rattle.any_plan.proofs.Branches.{lowest_lt, pruned_total, pruned_open, first_total, first_open, first_told, first_none, second_total, second_open, second_told}
use Rattle.any_plan.proofs.+branch_explore.Goals as goal

pub branch-single-requires : goal.branch-single-requires
branch-single-requires t c = let p = c.requires in omega (arith, lowest_lt _ (c.fits-on _) p.1, c.lowest.ensures)

pub branch-explore-requires : goal.branch-explore-requires
branch-explore-requires t c =
    let p = c.requires in
    let S = typed_sets c.told-on c.fits-on in
    let f = first_total S _ p.0 p.1 _ _ c.lowest.ensures c.single.ensures in
    let g = first_open S _ p.0 p.1 _ _ c.lowest.ensures c.single.ensures in
    (omega (arith, c.decreases), omega (arith, p.2))

pub branch-returns-then-explore : goal.branch-returns-then-explore
branch-returns-then-explore t c =
    let p = c.requires in
    first_told (typed_sets c.told-on c.fits-on) _ p.0 p.1 _ _ c.lowest.ensures c.single.ensures c.explore.ensures c.if-explore.true

pub branch-explore-requires-2 : goal.branch-explore-requires-2
branch-explore-requires-2 t c =
    let p = c.requires in
    let S = typed_sets c.told-on c.fits-on in
    let f = second_total S _ p.0 p.1 _ c.others.ensures in
    let g = second_open S _ p.0 p.1 _ c.others.ensures in
    (omega (arith, c.decreases), omega (arith, p.2))

pub branch-returns : goal.branch-returns
branch-returns t c =
    let p = c.requires in
    let n = first_none (typed_sets c.told-on c.fits-on) _ p.0 p.1 _ _ c.lowest.ensures c.single.ensures c.explore.ensures c.if-explore.false in
    second_told (typed_sets c.told-on c.fits-on) _ p.0 p.1 _ c.others.ensures n c.explore-2.ensures

pub explore-branch-lines-requires : goal.explore-branch-lines-requires
explore-branch-lines-requires t c =
    let K = c.narrow.ensures.kept c.if-narrow.false in
    let n = c.next_variable.ensures.some _ c.in-Some.is in
    let f = pruned_total (typed_sets c.told-on c.fits-on) K in
    let g = pruned_open (typed_sets c.told-on c.fits-on) K in
    (omega (arith, c.decreases), (n.0, n.1, omega (arith, c.requires)))
