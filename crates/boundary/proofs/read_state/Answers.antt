-- `boundary::read_state`: a loop that fills the domains. Assumes nothing.
use mathlib.Core.Path.{refl, sym, ap, ◌∙◌}
use native.Mathlib.Omega.{arith}
use lib.ListN.{length}
use Rattle.bounded.proofs.Table.{filled_none, filled_more, filled_end}
use Rattle.problem.specs.declared.Masks.{Masks}
use Rattle.boundary.specs.State.{masks_in}
use borrow.Author.Rules.{rules}
use Rattle.boundary.proofs.read_state.Goals as goal

pub returns : goal.returns
unfolding masks_in
returns c =
    let w = c.loop-i in
    let len = ap (λ (m : Masks). length m.domains) c.empty_masks-m.ensures in
    let p = w.invariant.1 ∙ c.long.ensures.is in
    let q = w.invariant.2 ∙ filled_end 32 w.i _ _ len (omega arith) (omega arith) in
    λ k. record { active = p k; domains = q k }

pub loop-i-init : goal.loop-i-init
loop-i-init c = (search rules, refl, sym (filled_none _ _))

pub loop-i-preserved : goal.loop-i-preserved
loop-i-preserved c = let w = c.loop-i in let len = ap (λ (m : Masks). length m.domains) c.empty_masks-m.ensures in (omega arith, w.invariant.1, rw (w.invariant.2, c.word.ensures.is) (filled_more w.i _ _ (omega arith)))
