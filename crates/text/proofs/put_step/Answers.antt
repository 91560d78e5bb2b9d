-- `text::put_step`: the word, and the fields after it.
use native.Mathlib.Omega.{arith}
use Prim.Native.Nat.{◌≤◌}
use lib.ListN.{length}
use Rattle.fields.proofs.Laws.{after}
use Rattle.text.proofs.put_step.Goals as goal

pub returns : goal.returns
returns c =
    let a = c.args in
    let w = c.put_step_word-p in
    let f = c.put_step_fields in
    let room_w : w.result ≤ length a.out.now = omega arith in
    record { text = after _ _ _ _ _ _ _ _ w.ensures.text f.ensures.text room_w; within = omega arith }
