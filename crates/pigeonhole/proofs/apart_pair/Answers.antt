-- `pigeonhole::apart_pair`: no value so far is allowed at both. Assumes nothing.
use mathlib.Core.Path.{sym, ap, ◌∙◌}
use Prim.Native.Nat.{ℕ}
use native.Mathlib.Omega.{arith}
use Rattle.bounded.specs.Mask.{bit}
use Rattle.problem.proofs.HeldTable.{held_narrow, held_value_lem}
use Rattle.pigeonhole.proofs.Laws.{apart_none, below_more, below_end}
use Rattle.pigeonhole.proofs.apart_pair.Goals as goal

pub loop-a-init : goal.loop-a-init
loop-a-init c = (rw c.size-n.ensures (held_narrow c.requires.0 _), apart_none _ _ _)

pub row-requires : goal.row-requires
row-requires c =
    let p = c.requires in
    let l = c.loop-a.invariant.0 in
    (p.0, record { variable = p.1; value = omega arith; listed = held_value_lem p.0 _ _ (rw (← c.size-n.ensures) c.loop-a-test.true) }, p.2, p.3)

pub loop-a-preserved : goal.loop-a-preserved
loop-a-preserved c =
    let w = c.loop-a in
    (w.invariant.0, below_more c.requires.0 _ _ w.a w.invariant.1 (ap (λ (x : ℕ). bit x w.a) (sym c.row.ensures) ∙ sym c.has.ensures ∙ c.if-has.false))

pub returns : goal.returns
returns c = record { apart = λ e. below_end c.requires.0 _ _ _ (rw (← c.size-n.ensures) c.loop-a-test.false) c.loop-a.invariant.1 }
