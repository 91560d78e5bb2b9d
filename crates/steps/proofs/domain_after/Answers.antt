-- `steps::domain_after`. Assumes nothing.
use mathlib.Core.Path.{sym, ◌∙◌}
use borrow.Author.Tests.{eqb-false, not-true}
use Rattle.bounded.proofs.Truth.{both, neither}
use Rattle.held.proofs.Laws.{domain_values}
use Rattle.steps.proofs.Steps.{domain_gone, domain_word, domain_free}
use Rattle.steps.proofs.domain_after.Goals as goal

pub returns-then-j-i : goal.returns-then-j-i
returns-then-j-i c = domain_gone c.args.view.ready _ _ c.if-j-i.true

pub returns-then-own-has : goal.returns-then-own-has
returns-then-own-has c =
    let p = c.requires in
    let h = both _ _ c.if-own-has.true in
    domain_free c.args.view.ready _ _ _ p.0 p.1 p.2 (eqb-false _ _ (neither _ _ c.if-j-i.false).0) (eqb-false _ _ (not-true _ h.0)) (sym c.has.ensures ∙ not-true _ h.1)

pub partners-requires : goal.partners-requires
partners-requires c =
    let p = c.requires in
    (c.args.view.ready.table, domain_values c.args.view.ready _ p.2, domain_values c.args.view.ready _ p.1, p.1, p.2, eqb-false _ _ (neither _ _ c.if-j-i.false).0)

pub returns : goal.returns
returns c =
    let p = c.requires in
    c.partners.ensures ∙ domain_word c.args.view.ready _ _ p.2 (eqb-false _ _ (neither _ _ c.if-j-i.false).0)
