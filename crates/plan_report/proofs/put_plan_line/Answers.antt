-- `plan_report::put_plan_line`: the word, the settings and the line's end, one after the other. Assumes nothing.
use Prim.Native.Nat.{◌≤◌}
use native.Mathlib.Omega.{arith}
use lib.ListN.{length}
use Rattle.fields.proofs.Laws.{after}
use Rattle.plan_report.proofs.put_plan_line.Goals as goal

pub returns : goal.returns
returns c =
    let a = c.args in
    let w = c.put_bytes-p in
    let f = c.put_settings-q in
    let e = c.put_byte in
    let room_w : w.result ≤ length a.out.now = omega arith in
    let room_f : f.result ≤ length w.new.out = omega arith in
    record { text = after _ _ _ _ _ _ _ _ w.ensures.text (after _ _ _ _ _ _ _ _ f.ensures.text e.ensures.text room_f) room_w; within = omega arith }
