-- `hand_call::below`. Assumes nothing.
use mathlib.Core.Path.{ap, ◌∙◌}
use Prim.Native.Nat.{ℕ, ◌<◌, ◌^◌}
use lib.Dec.{ltb}
use Rattle.hand_call.proofs.Laws.{below_word}
use borrow.Author.Rules.{rules}
use Rattle.hand_call.proofs.below.Goals as goal

pub returns : goal.returns
returns c =
    let a = c.args in
    let l : a.x < 2 ^ 16 = search rules in
    ap (λ (y : ℕ). ltb a.x y) c.power.ensures ∙ below_word a.x a.z l c.requires
