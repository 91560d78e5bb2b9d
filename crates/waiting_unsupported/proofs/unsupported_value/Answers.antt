-- `waiting_unsupported::unsupported_value`: a loop over the last field, for a value that is in its domain. Assumes nothing.
use mathlib.Core.Path.{refl, sym, ◌∙◌}
use native.Mathlib.Omega.{arith}
use borrow.Author.Rules.{rules}
use Rattle.search_order.specs.Lowest.{step_at}
use Rattle.problem.proofs.Search.{step_if_on, step_if_off, first_none, first_more, first_hit, first_end}
use Rattle.waiting_unsupported.proofs.Search.{value_off}
use Rattle.waiting_unsupported.proofs.unsupported_value.Goals as goal

pub offset_bounds-view-i : goal.offset_bounds-view-i
unfolding step_at
offset_bounds-view-i c = search rules

pub bounds-view-i : goal.bounds-view-i
unfolding step_at
bounds-view-i c = search rules

pub has-requires : goal.has-requires
unfolding step_at
has-requires c = search rules

pub returns-then-not-has : goal.returns-then-not-has
unfolding step_at
returns-then-not-has c = sym (value_off c.args.view.ready _ _ (sym c.has.ensures ∙ c.if-not-has.true))

pub loop-k-init : goal.loop-k-init
unfolding step_at
loop-k-init c = (search rules, first_none _)

pub unsupported-requires : goal.unsupported-requires
unfolding step_at
unsupported-requires c = search rules

pub returns-then-unsupported : goal.returns-then-unsupported
unfolding step_at
returns-then-unsupported c = sym (first_hit _ 32 _ _ (omega arith) c.loop-k.invariant.1 (step_if_on _ _ (sym c.unsupported.ensures ∙ c.if-unsupported.true)) refl)

pub loop-k-preserved : goal.loop-k-preserved
unfolding step_at
loop-k-preserved c = (omega arith, first_more _ _ c.loop-k.invariant.1 (step_if_off _ _ (sym c.unsupported.ensures ∙ c.if-unsupported.false)))

pub returns : goal.returns
unfolding step_at
returns c = sym (first_end _ 32 _ (omega arith) c.loop-k.invariant.1)
