-- `held::full_masks`: a loop that fills the domains. Assumes nothing.
use Prim.Native.Nat.{ℕ}
use mathlib.Core.Path.{refl, sym, ap, ◌∙◌}
use native.Mathlib.Omega.{arith}
use lib.Dec.{ltb}
use lib.ListN.{length}
use borrow.Author.Rules.{rules}
use Rattle.bounded.specs.Mask.{mask_of}
use Rattle.bounded.proofs.Mask.{below_mask}
use Rattle.bounded.proofs.Table.{filled_none, filled_more, filled_end}
use Rattle.problem.specs.Held.{held}
use Rattle.problem.specs.Masks.{masks_of}
use Rattle.problem.specs.declared.Masks.{Masks}
use Rattle.problem.proofs.HeldTable.{held_few}
use Rattle.held.proofs.Full.{full_active}
use Rattle.held.proofs.full_masks.Goals as goal

pub below-requires : goal.below-requires
below-requires c = omega (arith, c.variables-n.ensures, held_few c.args.t.now)

pub loop-i-init : goal.loop-i-init
loop-i-init c = (search rules, refl, sym (filled_none _ _))

pub loop-i-preserved : goal.loop-i-preserved
loop-i-preserved c =
    let w = c.loop-i in
    let len = ap (λ (m : Masks). length m.domains) c.empty_masks-m.ensures in
    (omega arith, w.invariant.1, rw (w.invariant.2, c.full_domain.ensures) (filled_more w.i _ _ (omega arith)))

pub returns : goal.returns
unfolding masks_of
returns c =
    let w = c.loop-i in
    let len = ap (λ (m : Masks). length m.domains) c.empty_masks-m.ensures in
    let t = c.args.t.now in
    let p = w.invariant.1 ∙ c.below.ensures ∙ below_mask 32 _ (omega (arith, c.variables-n.ensures, held_few t)) ∙ ap (λ (n : ℕ). mask_of 32 (λ c. ltb c n)) c.variables-n.ensures ∙ full_active (held t) in
    let q = w.invariant.2 ∙ filled_end 32 w.i _ _ len (omega arith) (omega arith) in
    λ k. record { active = p k; domains = q k }
