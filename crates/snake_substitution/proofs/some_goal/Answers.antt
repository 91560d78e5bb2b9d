-- `snake_substitution::some_goal`: the words so far are gathered. Assumes nothing.
use mathlib.Core.Path.{refl}
use native.Mathlib.Omega.{arith}
use Rattle.snake_substitution.proofs.Words.{gathered_more}
use Rattle.snake_substitution.proofs.some_goal.Goals as goal

pub loop-b-preserved : goal.loop-b-preserved
loop-b-preserved c = let w = c.loop-b in (omega arith, gathered_more _ refl w.invariant.1)
