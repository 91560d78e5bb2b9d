-- `most_apart::overfull_from`: the values of the variables taken are as many as these. Assumes nothing.
use native.Mathlib.Omega.{arith}
use Rattle.bounded.proofs.Members.{left_all}
use Rattle.most_apart.proofs.Laws.{take_none, take_more, left_both, left_less, at_most, too_many}
use Rattle.most_apart.proofs.overfull_from.Goals as goal

pub loop-values-init : goal.loop-values-init
loop-values-init c =
    let a = c.args in
    let p = c.requires in
    let L = left_all 32 a.active p.0.active_lt in
    rw c.without.ensures (left_both a.far.now a.i L, omega arith, take_more a.i L p.1 p.2 (p.0.domain_lt _ p.1) (take_none _ _ _ _))

pub loop-values-smaller : goal.loop-values-smaller
loop-values-smaller c =
    let a = c.args in
    let l = c.most_apart-j.ensures in
    rw c.without-in-loop-values.ensures (left_less a.far.now _ c.loop-values.invariant.0 l.0 l.1)

pub loop-values-preserved : goal.loop-values-preserved
loop-values-preserved c =
    let a = c.args in
    let p = c.requires in
    let w = c.loop-values in
    let l = c.most_apart-j.ensures in
    let m = at_most w.invariant.2 c.if-count-values.false in
    rw c.without-in-loop-values.ensures (left_both a.far.now _ w.invariant.0, omega arith, take_more _ w.invariant.0 l.0 l.1 (p.0.domain_lt _ l.0) w.invariant.2)

pub returns-then-count-values : goal.returns-then-count-values
returns-then-count-values c = too_many c.loop-values.invariant.2 c.if-count-values.true _
