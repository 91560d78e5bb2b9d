-- `first_plan::spread`: every solution stays. Assumes nothing.
use Prim.Native.Nat.{◌<◌, ◌^◌}
use mathlib.Core.Logic.{◌≢◌}
use lib.Bits.{bit_and}
use lib.Dec.{T}
use lib.ListN.{set}
use borrow.Author.Rules.{rules}
use Rattle.bounded.specs.Mask.{bit, without}
use Rattle.bounded.proofs.Mask.{bit_without32}
use Rattle.bounded.proofs.Members.{left_next, left_lowest, left_other}
use Rattle.problem.specs.Masks.{state_of, sets}
use Rattle.held.proofs.Laws.{domain_values}
use Rattle.first_plan.specs.Steps.{Pruned}
use Rattle.first_plan.proofs.Supports.{union_supports, narrowed_same, swept, swept_empty, swept_active, some_emptied}
use Rattle.first_plan.proofs.spread.Goals as goal
use Rattle.first_plan.proofs.spread.Goals.{After-lowest-j, After-partners-left}

-- the variable of a turn
at_turn : (c : After-lowest-j) → let w = c.loop-rest in let j = c.lowest-j.result in
    (j < 32) × (j ≢ c.args.i) × T (bit c.args.m.now.active j) × (without 32 w.rest j < w.rest)
at_turn c =
    let a = c.args in
    let w = c.loop-rest in
    let l = left_lowest 32 bit_without32 w.invariant.0 c.loop-rest-test.true c.lowest-j.ensures in
    let near = c.neighbours.result in
    let e = c.without-rest.ensures in
    (l.0, left_other 32 bit_without32 (bit_and near a.m.now.active) a.i w.invariant.0 e c.requires.1 l.0 l.1, swept_active near a.m.now.active a.i _ w.invariant.0 e l.1, l.2)

-- its set revised
revised : (c : After-partners-left) → Pruned c.args.t.now (state_of c.args.m.now) (sets c.loop-rest.m.active (set c.loop-rest.m.domains c.lowest-j.result c.partners-left.result))
revised c =
    let p = c.requires in
    let w = c.loop-rest.invariant.1 in
    let l = at_turn (goal.at.After-partners-left c).After-lowest-j in
    let lt : c.partners-left.result < 2 ^ 16 = search rules in
    swept c.args.m.now w c.args.i c.lowest-j.result _ p.2 l.1 l.0 lt (union_supports (domain_values w.ready _ l.0).small (domain_values p.0 _ p.1).small c.partners-left.ensures)

pub returns-then-domain-eq0 : goal.returns-then-domain-eq0
returns-then-domain-eq0 c = let p = c.requires in record { narrowed = narrowed_same p.0; dead = λ e. some_emptied _ p.2 c.if-domain-eq0.true }

pub without-rest-requires-in-loop-rest : goal.without-rest-requires-in-loop-rest
without-rest-requires-in-loop-rest c = (at_turn (goal.at.without-rest-requires-in-loop-rest c).After-lowest-j).0

pub offset_bounds-m-j : goal.offset_bounds-m-j
offset_bounds-m-j c = let l = (at_turn (goal.at.offset_bounds-m-j c).After-lowest-j).0 in search rules

pub bounds-m-j : goal.bounds-m-j
bounds-m-j c = let l = (at_turn (goal.at.bounds-m-j c).After-lowest-j).0 in search rules

pub partners-left-requires : goal.partners-left-requires
partners-left-requires c =
    let p = c.requires in
    let l = at_turn (goal.at.partners-left-requires c).After-lowest-j in
    (p.0.table, domain_values c.loop-rest.invariant.1.ready _ l.0, domain_values p.0 _ p.1, p.1, l.0, l.1)

pub offset_bounds-m-j-in-loop-rest : goal.offset_bounds-m-j-in-loop-rest
offset_bounds-m-j-in-loop-rest c = let l = (at_turn (goal.at.offset_bounds-m-j-in-loop-rest c).After-lowest-j).0 in search rules

pub bounds-m-j-in-loop-rest : goal.bounds-m-j-in-loop-rest
bounds-m-j-in-loop-rest c = let l = (at_turn (goal.at.bounds-m-j-in-loop-rest c).After-lowest-j).0 in search rules

pub returns-then-left-eq0 : goal.returns-then-left-eq0
returns-then-left-eq0 c =
    let l = at_turn (goal.at.returns-then-left-eq0 c).After-lowest-j in
    record {
      narrowed = revised (goal.at.returns-then-left-eq0 c).After-partners-left;
      dead = λ _. swept_empty c.args.m.now c.loop-rest.invariant.1 c.args.i _ _ l.2 l.0 c.if-left-eq0.true;
    }

pub loop-rest-smaller : goal.loop-rest-smaller
loop-rest-smaller c = rw c.without-rest-in-loop-rest.ensures (at_turn (goal.at.loop-rest-smaller c).After-lowest-j).3

pub loop-rest-smaller-then-left-was : goal.loop-rest-smaller-then-left-was
loop-rest-smaller-then-left-was c = rw c.without-rest-in-loop-rest.ensures (at_turn (goal.at.loop-rest-smaller-then-left-was c).After-lowest-j).3

pub loop-rest-preserved : goal.loop-rest-preserved
loop-rest-preserved c = (rw c.without-rest-in-loop-rest.ensures (left_next _ c.loop-rest.invariant.0), revised (goal.at.loop-rest-preserved c).After-partners-left)

pub loop-rest-preserved-then-left-was : goal.loop-rest-preserved-then-left-was
loop-rest-preserved-then-left-was c = (rw c.without-rest-in-loop-rest.ensures (left_next _ c.loop-rest.invariant.0), revised (goal.at.loop-rest-preserved-then-left-was c).After-partners-left)
