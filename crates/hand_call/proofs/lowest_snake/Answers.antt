-- `hand_call::lowest_snake`: none so far. Assumes nothing.
use mathlib.Core.Path.{sym, ◌∙◌}
use Rattle.bounded.proofs.Loops.{lowest_none, lowest_more, lowest_hit, lowest_end}
use borrow.Author.Rules.{rules}
use native.Mathlib.Omega.{arith}
use Rattle.hand_call.proofs.lowest_snake.Goals as goal

pub loop-v-init : goal.loop-v-init
loop-v-init c = (search rules, lowest_none _)

pub returns-then-snake : goal.returns-then-snake
returns-then-snake c = (sym (lowest_hit _ 16 _ (omega arith) c.loop-v.invariant.1 (sym c.snake.ensures ∙ c.if-snake.true)), omega arith)

pub loop-v-preserved : goal.loop-v-preserved
loop-v-preserved c = (omega arith, lowest_more _ _ c.loop-v.invariant.1 (sym c.snake.ensures ∙ c.if-snake.false))

pub returns : goal.returns
returns c = (lowest_end _ 16 _ (omega arith) (omega arith) c.loop-v.invariant.1)
