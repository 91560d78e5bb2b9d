-- `plan_report::put_settings`: the settings' fields, written one by one. Assumes nothing.
use native.Mathlib.Omega.{arith}
use Rattle.fields.proofs.Putting.{putting_start, kept_length, piece_room, putting_next, all_put, one_field, no_field}
use Rattle.plan_report.proofs.put_settings.Goals as goal

pub loop-k-init : goal.loop-k-init
loop-k-init c = putting_start _ _ _ _ _ c.requires

pub put_field-end-requires : goal.put_field-end-requires
put_field-end-requires c =
    let w = c.loop-k in
    (omega (arith, c.type_inv.plan w.k), piece_room _ _ _ _ _ _ _ _ _ w.invariant (omega arith))

pub loop-k-preserved : goal.loop-k-preserved
loop-k-preserved c =
    let w = c.loop-k in
    let p = c.put_field-end.ensures in
    let a = c.args in
    putting_next _ _ _ _ _ _ _ _ _ w.invariant (omega arith) _ _ (one_field a.plan.now w.k (omega arith)) _ _ p.text p.within

pub shape_of-out : goal.shape_of-out
shape_of-out c = kept_length _ _ _ _ _ _ _ _ _ c.loop-k.invariant

pub returns : goal.returns
returns c = let w = c.loop-k in let a = c.args in record { text = all_put _ _ _ _ _ _ _ _ _ w.invariant (no_field a.plan.now w.k (omega arith)); within = omega (arith, w.invariant.within, w.invariant.turn) }

pub bounds-plan-k : goal.bounds-plan-k
bounds-plan-k c = omega arith
