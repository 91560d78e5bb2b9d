-- `replay::holds_snake`: out of range the rule does not hold. Assumes nothing.
use mathlib.Core.Path.{sym}
use Rattle.replay.proofs.Range.{range2, snake_out}
use Rattle.replay.proofs.holds_snake.Goals as goal

pub snake-requires : goal.snake-requires
snake-requires c = let a = c.args in let h = range2 a.i 32 a.v 16 c.if-i-v.true in (h.0, h.1)

pub returns-else-i-v : goal.returns-else-i-v
returns-else-i-v c = sym (snake_out c.args.view.ready _ _ c.if-i-v.false)
