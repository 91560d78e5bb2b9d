-- `snake_substitution::all_goals`: the words so far are stored. Assumes nothing.
use native.Mathlib.Omega.{arith}
use borrow.Author.Rules.{rules}
use Rattle.snake_substitution.proofs.Words.{all_stored}
use Rattle.snake_substitution.proofs.all_goals.Goals as goal

pub returns : goal.returns
returns c = let w = c.loop-b in all_stored _ w.b (search rules) (omega arith) w.invariant.1
