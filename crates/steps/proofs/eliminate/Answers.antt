-- `steps::eliminate`: a loop that fills the domains. Assumes nothing.
use mathlib.Core.Path.{◌≡◌, refl, sym, ◌∙◌}
use native.Mathlib.Omega.{arith}
use lib.ListN.{length}
use borrow.Author.Rules.{rules}
use Rattle.bounded.proofs.Table.{filled_none, filled_more, filled_end}
use Rattle.problem.specs.Masks.{masks_of}
use Rattle.steps.specs.Words.{domain_after}
use Rattle.steps.proofs.Steps.{active_after}
use Rattle.steps.proofs.eliminate.Goals as goal

pub loop-other-init : goal.loop-other-init
loop-other-init c = (search rules, refl, sym (filled_none _ _))

pub loop-other-preserved : goal.loop-other-preserved
loop-other-preserved c =
    let w = c.loop-other in
    let len : length c.args.view.state.now.domains ≡ 32 = search rules in
    (omega arith, w.invariant.1, rw (w.invariant.2, c.domain_after.ensures) (filled_more w.other _ _ (omega arith)))

pub returns : goal.returns
unfolding masks_of domain_after
returns c =
    let w = c.loop-other in
    let a = c.requires in
    let len : length c.args.view.state.now.domains ≡ 32 = search rules in
    let p = w.invariant.1 ∙ c.without.ensures ∙ active_after c.args.view.ready _ a in
    let q = w.invariant.2 ∙ filled_end 32 w.other _ _ len (omega arith) (omega arith) in
    λ k. record { active = p k; domains = q k }
