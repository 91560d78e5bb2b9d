-- `snake_substitution::asks`: the words so far are gathered. Assumes nothing.
use native.Mathlib.Omega.{arith}
use borrow.Author.Rules.{rules}
use borrow.Author.Tests.{not-false, eqb-true}
use Rattle.snake_substitution.proofs.Words.{gathered_more, closed_gathered}
use Rattle.snake_substitution.proofs.asks.Goals as goal

pub loop-b-preserved : goal.loop-b-preserved
loop-b-preserved c = let w = c.loop-b in (omega arith, gathered_more _ c.where16-all.ensures w.invariant.1)

pub returns : goal.returns
returns c e = let w = c.loop-b in closed_gathered _ _ w.b w.all (search rules) (omega arith) w.invariant.1 (eqb-true _ _ (not-false _ e))
