-- `replay::holds`: each arm's rule is the record's. Assumes nothing.
use Rattle.problem.specs.Run.{holds_by}
use Rattle.replay.proofs.holds.Goals as goal

pub returns-in-Unsupported : goal.returns-in-Unsupported
unfolding holds_by
returns-in-Unsupported c = rw c.in-Unsupported.is c.holds_unsupported.ensures

pub returns-in-Snake : goal.returns-in-Snake
unfolding holds_by
returns-in-Snake c = rw c.in-Snake.is c.holds_snake.ensures

pub returns-in-Triangle : goal.returns-in-Triangle
unfolding holds_by
returns-in-Triangle c = rw c.in-Triangle.is c.holds_triangle.ensures

pub returns-in-Neighbourhood : goal.returns-in-Neighbourhood
unfolding holds_by
returns-in-Neighbourhood c = rw c.in-Neighbourhood.is c.holds_neighbourhood.ensures

pub returns-in-SnakeSubstitution : goal.returns-in-SnakeSubstitution
unfolding holds_by
returns-in-SnakeSubstitution c = rw c.in-SnakeSubstitution.is c.holds_substitution.ensures
