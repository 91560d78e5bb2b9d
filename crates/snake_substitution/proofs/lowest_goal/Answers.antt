-- `snake_substitution::lowest_goal`. Assumes nothing.
use borrow.Author.Rules.{rules}
use Rattle.snake_substitution.proofs.Laws.{lowest_goal_none, lowest_goal_at}
use Rattle.snake_substitution.proofs.lowest_goal.Goals as goal

pub returns-then-word-eq0 : goal.returns-then-word-eq0
returns-then-word-eq0 c = lowest_goal_none _ _ _ c.if-word-eq0.true

pub returns-else-word-eq0 : goal.returns-else-word-eq0
returns-else-word-eq0 c = rw c.lowest.ensures (lowest_goal_at _ _ _ (search rules) c.if-word-eq0.false)
