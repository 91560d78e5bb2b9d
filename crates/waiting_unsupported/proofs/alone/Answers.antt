-- `waiting_unsupported::alone`: what two rows of the set do not allow, and of that what no row allows. Assumes nothing.
use mathlib.Core.Path.{sym, subst}
use Prim.Native.Nat.{ℕ, ◌<◌}
use native.Mathlib.Omega.{arith}
use lib.Dec.{T}
use borrow.Author.Rules.{rules}
use Rattle.bounded.specs.Mask.{bit}
use Rattle.bounded.proofs.Members.{lowest_member}
use Rattle.held.proofs.Laws.{part_values}
use Rattle.waiting_unsupported.proofs.Words.{alone_nothing, alone_none, alone_rest}
use Rattle.waiting_unsupported.proofs.alone.Goals as goal
use Rattle.waiting_unsupported.proofs.alone.Goals.{After-lowest}

-- the lowest value of the set
low : (c : After-lowest) → (c.lowest.result < 16) × T (bit c.args.domain c.lowest.result)
low c =
    let p = c.requires in
    let x = lowest_member 16 c.args.domain p.2.small p.3 in
    (omega (arith, x.0, c.lowest.ensures), subst (λ (z : ℕ). T (bit c.args.domain z)) (sym c.lowest.ensures) x.1)

pub overflow_add-rest : goal.overflow_add-rest
overflow_add-rest c = let l = (low (goal.at.overflow_add-rest c).After-lowest).0 in search rules

pub offset_bounds-t-at : goal.offset_bounds-t-at
offset_bounds-t-at c = let l = (low (goal.at.offset_bounds-t-at c).After-lowest).0 in search rules

pub bounds-t-at : goal.bounds-t-at
bounds-t-at c = let l = (low (goal.at.bounds-t-at c).After-lowest).0 in search rules

pub returns-then-rest-eq0 : goal.returns-then-rest-eq0
returns-then-rest-eq0 c =
    let p = c.requires in
    let small = c.shared_slice_known-1.given in
    alone_none p.0 _ _ _ _ p.1 p.2 p.6 _ _ _ c.rows_at-at.ensures.is (low (goal.at.returns-then-rest-eq0 c).After-lowest).1 c.highest.ensures.member (small _).fits (small _).fits c.if-rest-eq0.true

pub all_alone-requires : goal.all_alone-requires
all_alone-requires c = let p = c.requires in (p.0, part_values p.1 _, p.2, p.4, p.5, p.6)

pub returns : goal.returns
returns c =
    let p = c.requires in
    let small = c.shared_slice_known-1.given in
    alone_rest p.0 _ _ _ _ p.1 p.2 p.6 _ _ _ c.rows_at-at.ensures.is (low (goal.at.returns c).After-lowest).1 c.highest.ensures.member (small _).fits (small _).fits c.all_alone.ensures

pub returns-then-lost-eq0 : goal.returns-then-lost-eq0
returns-then-lost-eq0 c = alone_nothing _ _ _ c.if-lost-eq0.true
