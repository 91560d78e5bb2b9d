-- `cover::serving_in`: the values left cover at each variable passed, and the others break there. Assumes nothing.
use mathlib.Core.Path.{sym, subst}
use Prim.Native.Nat.{◌<◌}
use lib.Dec.{T}
use Rattle.bounded.specs.Mask.{bit, without}
use Rattle.bounded.proofs.Truth.{T_true}
use Rattle.bounded.proofs.Mask.{bit_without32}
use Rattle.bounded.proofs.Members.{left_next, left_highest}
use Rattle.held.specs.Ready.{Values}
use Rattle.held.proofs.Laws.{domain_values, part_values}
use Rattle.cover.proofs.Laws.{apart}
use Rattle.cover.proofs.Servers.{serving_next, serving_end}
use Rattle.cover.proofs.serving_in.Goals as goal
use Rattle.cover.proofs.serving_in.Goals.{After-highest-l}

-- the variable of a turn: one of `rest`, and left
at_turn : (c : After-highest-l) → let l = c.highest-l.result in let left = c.loop-left.left in
    (l < 32) × T (bit c.args.rest l) × (without 32 left l < left)
at_turn c = let L = c.loop-left.invariant.0 in let k = left_highest 32 bit_without32 L c.highest-l.ensures in (k.0, L.part _ k.1, k.2)

pub row_among-x-requires : goal.row_among-x-requires
row_among-x-requires c =
    let p = c.requires in
    let l = at_turn (goal.at.row_among-x-requires c).After-highest-l in
    (c.args.view.ready.table, domain_values c.args.view.ready _ l.0, p.1, l.0, apart _ _ _ (T_true _ l.1) p.3)

pub allowed_with-next-requires : goal.allowed_with-next-requires
allowed_with-next-requires c =
    let p = c.requires in
    let l = at_turn (goal.at.allowed_with-next-requires c).After-highest-l in
    (c.args.view.ready.table, c.loop-left.invariant.1.values, subst (Values _ _) (sym c.row_among-x.ensures) (part_values (domain_values c.args.view.ready _ l.0) _), p.4, l.0, apart _ _ _ (T_true _ l.1) p.2)

pub loop-left-smaller : goal.loop-left-smaller
loop-left-smaller c = rw c.without-left.ensures (at_turn (goal.at.loop-left-smaller c).After-highest-l).2

pub loop-left-preserved : goal.loop-left-preserved
loop-left-preserved c =
    let v = c.loop-left in
    let l = at_turn (goal.at.loop-left-preserved c).After-highest-l in
    rw (c.without-left.ensures, c.with32_if-broken.ensures, c.allowed_with-next.ensures, c.row_among-x.ensures)
    (left_next _ v.invariant.0, serving_next c.args.view.ready _ _ _ _ _ v.left v.some v.broken _ l.0 l.1 v.invariant.1)

pub returns : goal.returns
returns c =
    let v = c.loop-left in
    record { is = serving_end c.args.view.ready _ _ _ _ _ v.left v.some v.broken c.loop-left-test.false v.invariant.1; shown = v.invariant.1.shown }
