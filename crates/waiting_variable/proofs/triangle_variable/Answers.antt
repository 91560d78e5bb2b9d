-- `waiting_variable::triangle_variable`: every variable that makes a step with i is still left. Assumes nothing.
use mathlib.Core.Path.{sym, ◌∙◌}
use mathlib.Core.Logic.{◌≢◌}
use Prim.Native.Nat.{◌<◌}
use native.Mathlib.Omega.{arith}
use lib.Dec.{T}
use borrow.Author.Rules.{rules}
use Rattle.bounded.specs.Mask.{bit, without}
use Rattle.bounded.proofs.Truth.{T_true}
use Rattle.waiting_unsupported.proofs.Words.{at_lowest}
use Rattle.search_order.proofs.Lowest.{seeking_hit, seeking_end}
use Rattle.waiting_variable.proofs.Trying.{triangle_found, triangles_first, triangles_next, triangles_off}
use Rattle.waiting_variable.proofs.triangle_variable.Goals as goal
use Rattle.waiting_variable.proofs.triangle_variable.Goals.{After-lowest-j}

-- the variable of a turn: another active one, and left
at_turn : (c : After-lowest-j) → let a = c.args in let j = c.lowest-j.result in let left = c.loop-left.left in
    (j < 32) × (j ≢ a.i) × T (bit left j) × (without 32 left j < left) × T (bit a.view.state.now.active j)
at_turn c =
    let a = c.args in
    at_lowest a.view.state.now.active c.pending_triangles.result a.i c.requires.1 c.loop-left-test.true c.lowest-j.ensures c.without-left.ensures c.loop-left.invariant.0.left

pub returns-then-not-has : goal.returns-then-not-has
returns-then-not-has c = let p = c.requires in record { is = sym (triangles_off c.args.view.ready _ p.1 (sym c.has.ensures ∙ c.if-not-has.true)); waits = p.0 }

pub loop-left-init : goal.loop-left-init
loop-left-init c = let p = c.requires in (rw c.without-left.ensures (triangles_first c.args.view.ready _ p.1 c.pending_triangles.ensures p.0), p.0)

pub triangle_rests-requires : goal.triangle_rests-requires
triangle_rests-requires c =
    let p = c.requires in
    let j = at_turn (goal.at.triangle_rests-requires c).After-lowest-j in
    (p.1, j.0, j.1, sym c.has.ensures ∙ c.if-not-has.false, T_true _ j.4)

pub returns-in-None : goal.returns-in-None
returns-in-None c =
    let w = c.loop-left.invariant in
    let holds = rw c.in-None.is at c.triangle_rests.ensures in
    record { is = seeking_hit _ _ 3 _ w.0 c.lowest-j.ensures (at_turn (goal.at.returns-in-None c).After-lowest-j).0 (triangle_found c.args.view.ready _ _ holds); waits = w.1 }

pub learn_triangle-requires : goal.learn_triangle-requires
learn_triangle-requires c =
    let fails = rw c.in-Some.is at c.triangle_rests.ensures in
    (c.requires.1, (at_turn (goal.at.learn_triangle-requires c).After-lowest-j).0, fails.0)

pub without-left-requires-in-loop-left : goal.without-left-requires-in-loop-left
without-left-requires-in-loop-left c = (at_turn (goal.at.without-left-requires-in-loop-left c).After-lowest-j).0

pub loop-left-smaller : goal.loop-left-smaller
loop-left-smaller c = rw c.without-left-in-loop-left.ensures (at_turn (goal.at.loop-left-smaller c).After-lowest-j).3

pub loop-left-preserved : goal.loop-left-preserved
loop-left-preserved c =
    let p = c.requires in
    let w = c.loop-left.invariant in
    rw c.without-left-in-loop-left.ensures
    (triangles_next c.args.view.ready _ p.1 _ _ w.0 w.1 (at_turn (goal.at.loop-left-preserved c).After-lowest-j).0 c.learn_triangle.ensures (search rules) (rw c.in-Some.is at c.triangle_rests.ensures))

pub returns : goal.returns
returns c = let w = c.loop-left.invariant in record { is = seeking_end _ _ 3 _ w.0 c.loop-left-test.false; waits = w.1 }

pub pending_triangles-requires : goal.pending_triangles-requires
pending_triangles-requires c = c.requires.1
