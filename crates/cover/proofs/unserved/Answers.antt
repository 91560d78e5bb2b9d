-- `cover::unserved`: each value that is to be served and is not is still left. Assumes nothing.
use mathlib.Core.Path.{◌∙◌}
use Prim.Native.Nat.{◌<◌}
use lib.Dec.{T}
use borrow.Author.Rules.{rules}
use Rattle.bounded.specs.Mask.{bit, without}
use Rattle.bounded.proofs.Mask.{bit_without16}
use Rattle.bounded.proofs.Members.{sought_next, left_highest}
use Rattle.problem.specs.Held.{held}
use Rattle.problem.specs.Masks.{state_of}
use Rattle.held.proofs.Laws.{live_value}
use Rattle.cover.proofs.Laws.{part_out}
use Rattle.cover.proofs.Servers.{near_servers, part_broken, asked_iff, unserved_first, served_here, unserved_here, unserved_end}
use Rattle.cover.proofs.unserved.Goals as goal
use Rattle.cover.proofs.unserved.Goals.{After-highest-w}

-- the value of a turn: one that is to be served
at_turn : (c : After-highest-w) → let w = c.highest-w.result in let left = c.loop-left.left in let a = c.args in
    (w < 16) × (T (bit a.bad w) × (T (bit a.good w) → ⊥)) × (without 16 left w < left)
at_turn c =
    let a = c.args in
    let S = c.loop-left.invariant in
    let k = left_highest 16 bit_without16 S.left c.highest-w.ensures in
    (k.0, (asked_iff (held a.view.table.now) (state_of a.view.state.now) a.rest a.good a.bad a.j (search rules) _ k.0).0 (S.left.part _ k.1), k.2)

pub serving_in-found-requires : goal.serving_in-found-requires
serving_in-found-requires c =
    let p = c.requires in
    let a = c.args in
    let out = part_out a.rest _ a.j p.2 in
    (p.0, live_value c.args.view.ready _ _ (p.1.live _ (at_turn (goal.at.serving_in-found-requires c).After-highest-w).1.0), out, out, p.3)

pub returns-then-found-eq0 : goal.returns-then-found-eq0
returns-then-found-eq0 c =
    let p = c.requires in
    let found = c.serving_in-found in
    let w = at_turn (goal.at.returns-then-found-eq0 c).After-highest-w in
    rw c.with.ensures (unserved_here _ _ _ _ _ _ _ _ _ w.0 p.3 w.1 c.if-found-eq0.true (part_broken c.args.rest _ found.ensures.shown))

pub loop-left-smaller : goal.loop-left-smaller
loop-left-smaller c = rw c.without-left.ensures (at_turn (goal.at.loop-left-smaller c).After-highest-w).2

pub loop-left-preserved : goal.loop-left-preserved
loop-left-preserved c =
    let p = c.requires in
    let found = c.serving_in-found in
    let near = near_servers c.args.view.ready _ _ _ _ _ _ p.0 c.neighbours.ensures p.2 in
    rw c.without-left.ensures
    (sought_next 16 bit_without16 c.loop-left.invariant (at_turn (goal.at.loop-left-preserved c).After-highest-w).0
    (served_here _ _ _ _ _ _ c.args.view.ready.fits _ (λ z. c.if-found-eq0.false (found.ensures.is ∙ near ∙ z))))

pub returns : goal.returns
returns c = unserved_end _ _ _ _ _ _ _ c.loop-left-test.false c.loop-left.invariant

pub loop-left-init : goal.loop-left-init
loop-left-init c = unserved_first _ _ _ _ _ _ (search rules) (search rules)
