-- `snake_substitution::keep`: the words so far are stored. Assumes nothing.
use native.Mathlib.Omega.{arith}
use borrow.Author.Rules.{rules}
use Rattle.snake_substitution.proofs.Words.{limit_stored}
use Rattle.snake_substitution.proofs.keep.Goals as goal

pub returns : goal.returns
returns c = let w = c.loop-b in limit_stored _ _ w.b (search rules) (search rules) c.requires (omega arith) w.invariant.1
