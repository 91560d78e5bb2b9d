-- `fields::put_bytes`: what the library says of a copied part, in the words of `written`. Assumes nothing.
use mathlib.Core.Path.{refl, ap, ◌∙◌}
use mathlib.Core.List.{List, ◌++◌}
use Prim.Native.Nat.{ℕ}
use native.Mathlib.Omega.{arith}
use lib.ListN.{take}
use borrow.Rule.Slice.PartMut.{put_mid, Post-is}
use Rattle.buffers.specs.Written.{written}
use Rattle.fields.proofs.put_bytes.Goals as goal

pub returns : goal.returns
unfolding written
returns c =
    let a = c.args in
    record { text = (ap (put_mid a.at _ a.out.now) c.copy_from_slice.ensures.after ∙ ap (λ (z : List ℕ). take a.at a.out.now ++ (a.w.now ++ z)) (Post-is a.at _ a.out.now (omega arith)), refl) }
