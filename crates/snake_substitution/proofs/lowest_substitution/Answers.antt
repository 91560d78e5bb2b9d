-- `snake_substitution::lowest_substitution`: a loop over the words. Assumes nothing.
use mathlib.Core.Path.{sym, ◌∙◌}
use native.Mathlib.Omega.{arith}
use Rattle.problem.proofs.Search.{nothing_is, first_none, first_more, first_hit}
use Rattle.snake_substitution.proofs.lowest_substitution.Goals as goal

pub loop-b-init : goal.loop-b-init
loop-b-init c = (omega arith, first_none _)

pub returns-then-is_some : goal.returns-then-is_some
returns-then-is_some c = sym (first_hit _ 16 _ _ (omega arith) c.loop-b.invariant.1 (sym c.lowest_goal-found.ensures) (sym c.is_some.ensures ∙ c.if-is_some.true))

pub loop-b-preserved : goal.loop-b-preserved
loop-b-preserved c = (omega arith, first_more _ _ c.loop-b.invariant.1 (sym c.lowest_goal-found.ensures ∙ nothing_is _ (sym c.is_some.ensures ∙ c.if-is_some.false)))
