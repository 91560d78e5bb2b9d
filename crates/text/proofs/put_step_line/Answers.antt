-- `text::put_step_line`: the number, a space, the step and the line's end, one after the other.
use native.Mathlib.Omega.{arith}
use Prim.Native.Nat.{◌≤◌}
use lib.ListN.{length}
use Rattle.fields.proofs.Laws.{after}
use Rattle.text.proofs.put_step_line.Goals as goal

pub returns : goal.returns
returns c =
    let a = c.args in
    let d = c.put_decimal-p in
    let s = c.put_byte-w in
    let w = c.put_step-e in
    let e = c.put_byte in
    let room_d : d.result ≤ length a.out.now = omega arith in
    let room_s : s.result ≤ length d.new.out = omega arith in
    let room_w : w.result ≤ length s.new.out = omega arith in
    record { text = after _ _ _ _ _ _ _ _ d.ensures.text (after _ _ _ _ _ _ _ _ s.ensures.text (after _ _ _ _ _ _ _ _ w.ensures.text e.ensures.text room_w) room_s) room_d; within = omega arith }
