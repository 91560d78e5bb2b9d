-- `read_sheet::some_beyond`: what was found in the rows so far. Assumes nothing.
use mathlib.Core.Path.{◌≡◌, sym, ap, ◌∙◌}
use mathlib.Core.Bool.{Bool, ◌||◌}
use Prim.Native.Nat.{ℕ}
use native.Mathlib.Omega.{arith}
use lib.Dec.{ltb}
use lib.ListN.{get_or}
use Rattle.bounded.proofs.Loops.{any_none, any_next}
use Rattle.read_sheet.specs.Reading.{some_beyond}
use Rattle.read_sheet.proofs.some_beyond.Goals as goal

pub loop-a-preserved : goal.loop-a-preserved
loop-a-preserved c =
    let l = c.loop-a in
    let g = c.args in
    let f : ℕ → Bool = λ (k : ℕ). ltb g.full (get_or g.x.now k 0) in
    (omega arith, ap (λ (b : Bool). b || f l.a) l.invariant.1 ∙ sym (any_next f l.a))

pub returns : goal.returns
unfolding some_beyond
returns c =
    let l = c.loop-a in
    let e : l.a ≡ 16 = omega arith in
    rw e at l.invariant.1

pub loop-a-init : goal.loop-a-init
loop-a-init c = (omega arith, sym (any_none _))
