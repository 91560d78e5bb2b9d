-- `snake_substitution::reached`. Assumes nothing.
use Rattle.snake_substitution.proofs.Goals.{reached_none}
use Rattle.snake_substitution.proofs.reached.Goals as goal

pub returns-then-set-eq0 : goal.returns-then-set-eq0
returns-then-set-eq0 c = let p = c.requires in reached_none _ _ _ _ _ p.1.small p.2.small c.if-set-eq0.true
