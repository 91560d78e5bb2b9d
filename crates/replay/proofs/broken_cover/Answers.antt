-- `replay::broken_cover`: each arm's answer is the record's. Assumes nothing.
use Rattle.problem.specs.Run.{broken_cover}
use borrow.Author.Rules.{rules}
use Rattle.replay.proofs.broken_cover.Goals as goal

pub returns-in-Unsupported : goal.returns-in-Unsupported
unfolding broken_cover
returns-in-Unsupported c = search rules

pub returns-in-Snake : goal.returns-in-Snake
unfolding broken_cover
returns-in-Snake c = search rules

pub returns-in-Triangle : goal.returns-in-Triangle
unfolding broken_cover
returns-in-Triangle c = search rules

pub returns-in-Neighbourhood : goal.returns-in-Neighbourhood
unfolding broken_cover
returns-in-Neighbourhood c = rw c.in-Neighbourhood.is c.broken_neighbourhood.ensures

pub returns-in-SnakeSubstitution : goal.returns-in-SnakeSubstitution
unfolding broken_cover
returns-in-SnakeSubstitution c = search rules
