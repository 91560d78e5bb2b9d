-- `triangle::triangle_rests`: each value of j for which nothing serves is still left. Assumes nothing.
use mathlib.Core.Path.{sym}
use Prim.Native.Nat.{◌<◌}
use Rattle.bounded.specs.Mask.{without}
use Rattle.bounded.proofs.Truth.{T_of}
use Rattle.bounded.proofs.Mask.{bit_without16}
use Rattle.bounded.proofs.Members.{left_highest}
use Rattle.problem.specs.Masks.{state_of}
use Rattle.problem.specs.Sentences.{Live}
use Rattle.held.proofs.Laws.{domain_values, domain_among, live_value, word_among}
use Rattle.cover.proofs.Laws.{thirds_out}
use Rattle.triangle.proofs.Laws.{tried_next, tried_fails, tried_holds}
use Rattle.triangle.proofs.triangle_rests.Goals as goal
use Rattle.triangle.proofs.triangle_rests.Goals.{After-highest-v}

-- the value of a turn: one in the domain of j, and left
at_turn : (c : After-highest-v) → let v = c.highest-v.result in let left = c.loop-left.left in let a = c.args in
    (v < 16) × Live (state_of a.view.state.now) a.j v × (without 16 left v < left)
at_turn c =
    let S = c.loop-left.invariant in
    let k = left_highest 16 bit_without16 S.left c.highest-v.ensures in
    (k.0, (domain_among c.args.view.ready _).live _ (S.left.part _ k.1), k.2)

pub row_among-good-requires : goal.row_among-good-requires
row_among-good-requires c =
    let p = c.requires in
    (c.args.view.ready.table, domain_values c.args.view.ready _ p.0, live_value c.args.view.ready _ _ (at_turn (goal.at.row_among-good-requires c).After-highest-v).1, p.0, λ e. p.2 (sym e))

pub serving-found-requires : goal.serving-found-requires
serving-found-requires c =
    let a = c.args in
    let p = c.requires in
    let o = thirds_out a.view.state.now.active _ _ p.0 p.1 in
    let e = c.third_set-rest.ensures in
    (rw c.row_among-good.ensures (word_among c.args.view.ready _ _ _), live_value c.args.view.ready _ _ (at_turn (goal.at.serving-found-requires c).After-highest-v).1, rw e o.0, rw e o.1, p.0)

pub returns-then-found-eq0 : goal.returns-then-found-eq0
returns-then-found-eq0 c =
    let p = c.requires in
    let v = at_turn (goal.at.returns-then-found-eq0 c).After-highest-v in
    let found = c.serving-found.ensures.shown in
    tried_fails c.args.view.ready _ _ p.0 p.1 v.0 v.1 (rw (c.row_among-good.ensures, c.third_set-rest.ensures) at found) c.if-found-eq0.true

pub loop-left-smaller : goal.loop-left-smaller
loop-left-smaller c = rw c.without-left.ensures (at_turn (goal.at.loop-left-smaller c).After-highest-v).2

pub loop-left-preserved : goal.loop-left-preserved
loop-left-preserved c =
    let p = c.requires in
    let found = c.serving-found.ensures.is in
    rw c.without-left.ensures
    (tried_next c.args.view.ready _ _ p.0 p.1 c.loop-left.invariant (at_turn (goal.at.loop-left-preserved c).After-highest-v).0
    (rw (c.row_among-good.ensures, c.third_set-rest.ensures) at found) c.if-found-eq0.false)

pub returns : goal.returns
unfolding state_of
returns c =
    let p = c.requires in
    tried_holds c.args.view.ready _ _ p.0 p.1 (T_of p.3) (T_of p.4) p.2 c.loop-left-test.false c.loop-left.invariant
