-- `support::supported`: the values so far have a support at each variable passed. Assumes nothing.
use mathlib.Core.Path.{◌≡◌, sym, subst}
use mathlib.Core.Logic.{◌≢◌}
use Prim.Native.Nat.{ℕ, ◌<◌}
use lib.Bits.{bit_and}
use lib.Dec.{T}
use borrow.Author.Rules.{rules}
use Rattle.bounded.specs.Quantifiers.{lowest}
use Rattle.bounded.specs.Mask.{bit, without}
use Rattle.bounded.proofs.Mask.{bit_without32}
use Rattle.bounded.proofs.Members.{Left, left_all, left_next, left_lowest, left_other}
use Rattle.problem.specs.Masks.{state_of}
use Rattle.held.proofs.Laws.{domain_values}
use Rattle.support.proofs.Laws.{kept_active, kept_first, kept_next, kept_end}
use Rattle.support.proofs.supported.Goals as goal
use Rattle.support.proofs.supported.Goals.{After-lowest-k}

-- the variable of a turn
turn : {x k rest : ℕ} (active near i : ℕ) → i < 32 → rest ≢ 0 → k ≡ lowest 32 (bit rest) → x ≡ without 32 (bit_and active near) i → Left 32 x rest → (k < 32) × T (bit active k) × (k ≢ i) × (without 32 rest k < rest)
turn {x} {k} {rest} active near i p d e w L =
    let l = left_lowest 32 bit_without32 L d e in
    (l.0, kept_active k active near i (subst (λ (y : ℕ). Left 32 y rest) w L) l.1, left_other 32 bit_without32 (bit_and active near) i L w p l.0 l.1, l.2)

-- at the call of `partners`
module _ (c : After-lowest-k) where
  at_turn : let a = c.args in
      (c.lowest-k.result < 32) × T (bit a.view.state.now.active c.lowest-k.result) × (c.lowest-k.result ≢ a.i) × (without 32 c.loop-rest.rest c.lowest-k.result < c.loop-rest.rest)
  at_turn =
      let a = c.args in
      turn a.view.state.now.active c.neighbours.result a.i c.requires.0
      c.loop-rest-test.true c.lowest-k.ensures c.without-rest.ensures c.loop-rest.invariant.0

pub loop-rest-init : goal.loop-rest-init
loop-rest-init c =
    let p = c.requires in
    (left_all 32 _ (search rules), rw c.without-rest.ensures (kept_first c.args.view.ready _ p.0 p.1 _ c.neighbours.ensures))

pub offset_bounds-view-k : goal.offset_bounds-view-k
offset_bounds-view-k c = let l = (at_turn (goal.at.offset_bounds-view-k c).After-lowest-k).0 in search rules

pub bounds-view-k : goal.bounds-view-k
bounds-view-k c = let l = (at_turn (goal.at.bounds-view-k c).After-lowest-k).0 in search rules

pub partners-x-requires : goal.partners-x-requires
partners-x-requires c =
    let p = c.requires in
    let l = at_turn (goal.at.partners-x-requires c).After-lowest-k in
    (c.args.view.ready.table, c.loop-rest.invariant.1.values, domain_values c.args.view.ready _ l.0, l.0, p.0, λ e. l.2 (sym e))

pub without-rest-requires-in-loop-rest : goal.without-rest-requires-in-loop-rest
without-rest-requires-in-loop-rest c = (at_turn (goal.at.without-rest-requires-in-loop-rest c).After-lowest-k).0

pub loop-rest-smaller : goal.loop-rest-smaller
loop-rest-smaller c = rw c.without-rest-in-loop-rest.ensures (at_turn (goal.at.loop-rest-smaller c).After-lowest-k).3

pub loop-rest-preserved : goal.loop-rest-preserved
unfolding state_of
loop-rest-preserved c =
    let w = c.loop-rest in
    let l = at_turn (goal.at.loop-rest-preserved c).After-lowest-k in
    (rw c.without-rest-in-loop-rest.ensures (left_next _ w.invariant.0), rw (c.without-rest-in-loop-rest.ensures, c.partners-x.ensures) (kept_next c.args.view.ready _ w.rest w.x _ l.0 l.1 l.2 w.invariant.1))

pub returns : goal.returns
returns c = kept_end c.args.view.ready _ c.loop-rest.rest c.loop-rest.x c.loop-rest-test.false c.loop-rest.invariant.1
