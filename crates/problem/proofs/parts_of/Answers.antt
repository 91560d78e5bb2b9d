-- `problem::parts_of`: each kind by itself. Assumes nothing.
use Rattle.problem.proofs.parts_of.Goals as goal

pub returns-in-Unsupported : goal.returns-in-Unsupported
returns-in-Unsupported c = rw c.in-Unsupported.is c.three.ensures

pub returns-in-Snake : goal.returns-in-Snake
returns-in-Snake c = rw c.in-Snake.is c.two.ensures

pub returns-in-Triangle : goal.returns-in-Triangle
returns-in-Triangle c = rw c.in-Triangle.is c.two-in-Triangle.ensures

pub returns-in-Neighbourhood : goal.returns-in-Neighbourhood
returns-in-Neighbourhood c = rw c.in-Neighbourhood.is c.three-in-Neighbourhood.ensures

pub returns-in-SnakeSubstitution : goal.returns-in-SnakeSubstitution
returns-in-SnakeSubstitution c = rw c.in-SnakeSubstitution.is c.three-in-SnakeSubstitution.ensures
