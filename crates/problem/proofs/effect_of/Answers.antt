-- `problem::effect_of`: each kind by itself. Assumes nothing.
use Rattle.problem.proofs.effect_of.Goals as goal

pub returns-in-Unsupported : goal.returns-in-Unsupported
returns-in-Unsupported c = rw c.in-Unsupported.is

pub returns-in-Snake : goal.returns-in-Snake
returns-in-Snake c = rw c.in-Snake.is

pub returns-in-Triangle : goal.returns-in-Triangle
returns-in-Triangle c = rw c.in-Triangle.is

pub returns-in-Neighbourhood : goal.returns-in-Neighbourhood
returns-in-Neighbourhood c = rw c.in-Neighbourhood.is

pub returns-in-SnakeSubstitution : goal.returns-in-SnakeSubstitution
returns-in-SnakeSubstitution c = rw c.in-SnakeSubstitution.is
