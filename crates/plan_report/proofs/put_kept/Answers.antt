-- `plan_report::put_kept`: what the pick answers, as lines. Assumes nothing.
use native.Mathlib.Omega.{arith}
use Rattle.plan_report.proofs.Text.{not_refused, picks}
use Rattle.plan_report.proofs.put_kept.Goals as goal

pub put_picked-requires : goal.put_picked-requires
put_picked-requires c =
    let x = c.pick-picked.ensures in
    let R = picks c.args.s.now c.requires.0 _ (omega arith) _ c.requires.1.0 _ x.answer c.in-Ok.found.plan _ _ _ c.in-Ok.is _ _ x.trace x.plan (omega arith) in
    (c.requires.0, (R, omega arith))

pub returns-in-Err : goal.returns-in-Err
returns-in-Err c =
    absurd (not_refused c.args.s.now c.requires.0 _ (omega arith) _ c.requires.1.0 _ c.pick-picked.ensures.answer _ c.in-Err.is)
