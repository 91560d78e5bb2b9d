-- `fields::put_three_end`: three fields and the line's end, one after the other.
use native.Mathlib.Omega.{arith}
use Prim.Native.Nat.{◌+◌, ◌≤◌}
use lib.ListN.{length}
use Rattle.fields.proofs.Laws.{after}
use Rattle.fields.proofs.put_three_end.Goals as goal

pub returns : goal.returns
returns c =
    let a = c.args in
    let room : a.at + 19 ≤ length a.out.now = c.requires.1.1.1 in
    let f = c.put_field-p in
    let g = c.put_field-q in
    let h = c.put_field-s in
    let e = c.put_byte in
    let room_f : f.result ≤ length a.out.now = omega (arith, room) in
    let room_g : g.result ≤ length f.new.out = omega (arith, room) in
    let room_h : h.result ≤ length g.new.out = omega (arith, room) in
    record { text = after _ _ _ _ _ _ _ _ f.ensures.text (after _ _ _ _ _ _ _ _ g.ensures.text (after _ _ _ _ _ _ _ _ h.ensures.text e.ensures.text room_h) room_g) room_f; within = omega (arith, room) }
