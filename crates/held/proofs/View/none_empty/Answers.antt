-- `held::View::none_empty`: a loop over the variables. Assumes nothing.
use mathlib.Core.Path.{sym, ◌∙◌}
use native.Mathlib.Omega.{arith}
use borrow.Author.Rules.{rules}
use Rattle.bounded.proofs.Loops.{all_none, all_more, all_fail, all_end}
use Rattle.problem.specs.Problem.{none_empty}
use Rattle.held.proofs.Laws.{active_loop}
use Rattle.held.proofs.View.none_empty.Goals as goal

pub loop-l-init : goal.loop-l-init
unfolding none_empty
loop-l-init c = (search rules, all_none _)

pub returns-then-not-some_value : goal.returns-then-not-some_value
unfolding none_empty
returns-then-not-some_value c = sym (sym (active_loop c.args.self.ready _) ∙ all_fail _ 32 _ (omega arith) (sym c.some_value.ensures ∙ c.if-not-some_value.true))

pub loop-l-preserved : goal.loop-l-preserved
unfolding none_empty
loop-l-preserved c = (omega arith, all_more _ _ c.loop-l.invariant.1 (sym c.some_value.ensures ∙ c.if-not-some_value.false))

pub returns : goal.returns
unfolding none_empty
returns c = sym (sym (active_loop c.args.self.ready _) ∙ all_end _ 32 _ (omega arith) c.loop-l.invariant.1)
