-- `text::put_last_line`: the word, and the rest of the line after it.
use native.Mathlib.Omega.{arith}
use Prim.Native.Nat.{◌≤◌}
use lib.ListN.{length}
use Rattle.fields.proofs.Laws.{after}
use Rattle.text.proofs.put_last_line.Goals as goal

pub returns : goal.returns
returns c =
    let a = c.args in
    let w = c.put_end_word-p in
    let e = c.put_three_end in
    let room_w : w.result ≤ length a.out.now = omega arith in
    record { text = after _ _ _ _ _ _ _ _ w.ensures.text e.ensures.text room_w; within = omega arith }
