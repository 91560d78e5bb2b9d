-- `most_apart::most_apart`: the best so far is one of the set. Assumes nothing.
use mathlib.Core.Path.{◌≡◌, subst}
use Prim.Native.Nat.{ℕ, ◌-◌, ◌%◌, ◌^◌, ◌<◌}
use native.Mathlib.Omega.{arith}
use lib.Dec.{T}
use borrow.Author.Rules.{rules}
use Rattle.bounded.specs.Mask.{bit}
use Rattle.bounded.proofs.Mask.{bit_without32}
use Rattle.bounded.proofs.Members.{left_all, left_next, left_lowest}
use Rattle.most_apart.proofs.Laws.{best_max}
use Rattle.most_apart.proofs.most_apart.Goals as goal

pub overflow_sub-best : goal.overflow_sub-best
overflow_sub-best c =
    let a = c.args in
    let s : a.rest < 2 ^ 32 = search rules in
    let l = (left_lowest 32 bit_without32 (left_all 32 a.rest s) c.requires c.lowest-best.ensures).0 in
    search rules

pub loop-left-init : goal.loop-left-init
loop-left-init c =
    let a = c.args in
    let s : a.rest < 2 ^ 32 = search rules in
    let l = left_lowest 32 bit_without32 (left_all 32 a.rest s) c.requires c.lowest-best.ensures in
    let e : c.lowest-best.result ≡ 31 - (31 - c.lowest-best.result) % 32 = omega (arith, l.0) in
    (left_all 32 a.rest s, subst (λ (k : ℕ). T (bit a.rest k)) e l.1)

pub without-left-requires : goal.without-left-requires
without-left-requires c = (left_lowest 32 bit_without32 c.loop-left.invariant.0 c.loop-left-test.true c.lowest-j.ensures).0

pub rank-requires : goal.rank-requires
rank-requires c = (left_lowest 32 bit_without32 c.loop-left.invariant.0 c.loop-left-test.true c.lowest-j.ensures).0

pub loop-left-smaller : goal.loop-left-smaller
loop-left-smaller c = rw c.without-left.ensures (left_lowest 32 bit_without32 c.loop-left.invariant.0 c.loop-left-test.true c.lowest-j.ensures).2

pub loop-left-preserved : goal.loop-left-preserved
loop-left-preserved c =
    let w = c.loop-left in
    let l = (left_lowest 32 bit_without32 w.invariant.0 c.loop-left-test.true c.lowest-j.ensures).1 in
    (rw c.without-left.ensures (left_next _ w.invariant.0), best_max _ _ _ _ _ w.invariant.1 c.rank.ensures (w.invariant.0.part _ l) c.max-best.ensures)
