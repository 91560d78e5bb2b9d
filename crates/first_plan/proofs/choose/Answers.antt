-- `first_plan::choose`: the other active variables, one by one. Assumes nothing.
use Prim.Native.Nat.{◌<◌}
use mathlib.Core.Path.{◌∙◌}
use mathlib.Core.Logic.{◌≢◌}
use lib.ListN.{set}
use borrow.Author.Rules.{rules}
use Rattle.bounded.specs.Mask.{without}
use Rattle.bounded.proofs.Mask.{bit_without32}
use Rattle.bounded.proofs.Members.{Left, left_all, left_next, left_lowest, left_other}
use Rattle.problem.specs.Masks.{masks_of}
use Rattle.held.proofs.Laws.{live_value, domain_values}
use Rattle.first_plan.proofs.Choices.{Passed, passed_none, passed_more, passed_all, choose_rest}
use Rattle.first_plan.proofs.choose.Goals as goal
use Rattle.first_plan.proofs.choose.Goals.{After-lowest-j, After-row_among-left}

-- the variable of a turn
at_turn : (c : After-lowest-j) → let w = c.loop-rest in let j = c.lowest-j.result in
    (j < 32) × (j ≢ c.args.i) × (without 32 w.rest j < w.rest)
at_turn c =
    let p = c.requires in
    let w = c.loop-rest in
    let l = left_lowest 32 bit_without32 w.invariant.1 c.loop-rest-test.true c.lowest-j.ensures in
    (l.0, left_other 32 bit_without32 c.args.m.active c.args.i w.invariant.1 c.without-active.ensures (live_value p.0 _ _ p.1).variable l.0 l.1, l.2)

-- its set without what is barred
narrowed : (c : After-row_among-left) → let w = c.loop-rest in let a = c.args in
    Passed a.t.now a.m a.i a.v c.without-rest.result (set w.on c.lowest-j.result c.row_among-left.result) × Left 32 c.without-active.result c.without-rest.result
narrowed c =
    let w = c.loop-rest in
    let l = at_turn (goal.at.After-row_among-left c).After-lowest-j in
    (rw (c.without-rest.ensures, c.row_among-left.ensures) (passed_more c.requires.0 _ _ _ _ _ l.0 l.1 w.invariant.0), rw c.without-rest.ensures (left_next _ w.invariant.1))

pub without-active-requires : goal.without-active-requires
without-active-requires c = (live_value c.requires.0 _ _ c.requires.1).variable

pub offset_bounds-on-i : goal.offset_bounds-on-i
offset_bounds-on-i c = let l = (live_value c.requires.0 _ _ c.requires.1).variable in search rules

pub bounds-on-i : goal.bounds-on-i
bounds-on-i c = let l = (live_value c.requires.0 _ _ c.requires.1).variable in search rules

pub loop-rest-init : goal.loop-rest-init
loop-rest-init c =
    let p = c.requires in
    (rw c.without-active.ensures (passed_none p.0 _ _ (live_value p.0 _ _ p.1).variable), left_all 32 _ (search rules))

pub without-rest-requires : goal.without-rest-requires
without-rest-requires c = (at_turn (goal.at.without-rest-requires c).After-lowest-j).0

pub offset_bounds-m-j : goal.offset_bounds-m-j
offset_bounds-m-j c = let l = (at_turn (goal.at.offset_bounds-m-j c).After-lowest-j).0 in search rules

pub bounds-m-j : goal.bounds-m-j
bounds-m-j c = let l = (at_turn (goal.at.bounds-m-j c).After-lowest-j).0 in search rules

pub row_among-left-requires : goal.row_among-left-requires
row_among-left-requires c =
    let p = c.requires in
    let l = at_turn (goal.at.row_among-left-requires c).After-lowest-j in
    (p.0.table, domain_values p.0 _ l.0, live_value p.0 _ _ p.1, l.0, l.1)

pub offset_bounds-on-j : goal.offset_bounds-on-j
offset_bounds-on-j c = let l = (at_turn (goal.at.offset_bounds-on-j c).After-lowest-j).0 in search rules

pub bounds-on-j : goal.bounds-on-j
bounds-on-j c = let l = (at_turn (goal.at.bounds-on-j c).After-lowest-j).0 in search rules

pub without-changed-requires : goal.without-changed-requires
without-changed-requires c = (at_turn (goal.at.without-changed-requires c).After-lowest-j).0

pub loop-rest-smaller : goal.loop-rest-smaller
loop-rest-smaller c = rw c.without-rest.ensures (at_turn (goal.at.loop-rest-smaller c).After-lowest-j).2

pub loop-rest-smaller-then-left-was : goal.loop-rest-smaller-then-left-was
loop-rest-smaller-then-left-was c = rw c.without-rest.ensures (at_turn (goal.at.loop-rest-smaller-then-left-was c).After-lowest-j).2

pub loop-rest-preserved : goal.loop-rest-preserved
loop-rest-preserved c = narrowed (goal.at.loop-rest-preserved c).After-row_among-left

pub loop-rest-preserved-then-left-was : goal.loop-rest-preserved-then-left-was
loop-rest-preserved-then-left-was c = narrowed (goal.at.loop-rest-preserved-then-left-was c).After-row_among-left

pub returns : goal.returns
unfolding masks_of
returns c =
    let p = c.requires in
    let q = passed_all p.0 _ _ _ _ c.loop-rest-test.false c.loop-rest.invariant.0 in
    let a = c.without-active.ensures ∙ choose_rest p.0 _ _ (live_value p.0 _ _ p.1).variable in
    λ k. record { active = a k; domains = q k }
