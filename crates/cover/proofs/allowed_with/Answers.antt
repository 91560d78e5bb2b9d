-- `cover::allowed_with`: the word so far has the values passed. Assumes nothing.
use mathlib.Core.Path.{◌≡◌, ap, ◌∙◌}
use mathlib.Core.Bool.{cond}
use Prim.Native.Nat.{ℕ, ◌+◌, ◌^◌}
use native.Mathlib.Omega.{arith}
use lib.Bits.{bit_and}
use lib.Dec.{eqb}
use lib.ListN.{get_or}
use borrow.Author.Rules.{rules}
use Rattle.bounded.proofs.Mask.{mask_none, mask_or}
use Rattle.problem.specs.Held.{rows_at}
use Rattle.cover.proofs.Servers.{allowed_met}
use Rattle.cover.proofs.allowed_with.Goals as goal

pub loop-u-preserved : goal.loop-u-preserved
loop-u-preserved c =
    let a = c.args in
    let w = c.loop-u in
    let e = c.lane-word.ensures ∙ ap (λ (k : ℕ). cond (eqb (bit_and a.x (get_or a.t.now (k + w.u) 0)) a.x) (2 ^ w.u) 0) c.rows_at-at.ensures.is in
    (omega arith, mask_or (λ u. eqb (bit_and a.x (get_or a.t.now (rows_at a.i a.l + u) 0)) a.x) w.word w.u _ w.invariant.1 e)

pub returns : goal.returns
returns c =
    let p = c.requires in
    let w = c.loop-u in
    let e : w.u ≡ 16 = omega arith in
    allowed_met p.0 _ _ _ p.2 p.5 _ w.word w.u p.1 e w.invariant.1

pub loop-u-init : goal.loop-u-init
loop-u-init c = (search rules, mask_none _)
