-- `snake::snake`. Assumes nothing.
use mathlib.Core.Path.{sym, ◌∙◌}
use Rattle.problem.specs.Problem.{snake}
use Rattle.problem.specs.Masks.{state_of}
use Rattle.snake.proofs.Laws.{tried_snake}
use Rattle.snake.proofs.snake.Goals as goal

pub returns-then-has : goal.returns-then-has
returns-then-has c = tried_snake c.args.view.ready.fits _ _ _ c.snake_rests.ensures

pub returns-else-has : goal.returns-else-has
unfolding snake state_of
returns-else-has c = rw (sym c.has.ensures ∙ c.if-has.false)
