-- `fields::put_field`: a space, and the number after it.
use native.Mathlib.Omega.{arith}
use Prim.Native.Nat.{◌≤◌}
use lib.ListN.{length}
use Rattle.fields.proofs.Laws.{after}
use Rattle.fields.proofs.put_field.Goals as goal

pub returns : goal.returns
returns c =
    let a = c.args in
    let s = c.put_byte-p in
    let d = c.put_decimal in
    let room_s : s.result ≤ length a.out.now = omega arith in
    record { text = after _ _ _ _ _ _ _ _ s.ensures.text d.ensures.text room_s; within = omega arith }
