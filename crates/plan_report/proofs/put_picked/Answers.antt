-- `plan_report::put_picked`: the run's text and then the plan's line. Assumes nothing.
use Prim.Native.Nat.{◌≤◌}
use native.Mathlib.Omega.{arith}
use lib.ListN.{length}
use Rattle.plan_report.proofs.Text.{picked_put}
use Rattle.plan_report.proofs.put_picked.Goals as goal

pub put_run-p-requires : goal.put_run-p-requires
put_run-p-requires c = let a = c.requires in (a.0, (a.1.0.ran, omega arith))

pub put_found_line-requires : goal.put_found_line-requires
put_found_line-requires c = (c.requires.1.0.few, omega arith)

pub returns : goal.returns
returns c =
    let x = c.put_run-p in
    let y = c.put_found_line in
    let room : x.result ≤ length c.args.out.now = omega arith in
    record { text = picked_put c.args.s.now c.requires.0 _ _ _ _ _ _ c.requires.1.0 _ _ _ _ _ x.ensures.text y.ensures.text room; within = omega arith }
