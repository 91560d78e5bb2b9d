-- `text::put_step_word`: each kind by itself.
use native.Mathlib.Omega.{arith}
use Rattle.text.proofs.put_step_word.Goals as goal

pub returns-in-Unsupported : goal.returns-in-Unsupported
returns-in-Unsupported c = rw c.in-Unsupported.is record { text = c.put_bytes.ensures.text; within = omega arith }

pub returns-in-Snake : goal.returns-in-Snake
returns-in-Snake c = rw c.in-Snake.is record { text = c.put_bytes-in-Snake.ensures.text; within = omega arith }

pub returns-in-Triangle : goal.returns-in-Triangle
returns-in-Triangle c = rw c.in-Triangle.is record { text = c.put_bytes-in-Triangle.ensures.text; within = omega arith }

pub returns-in-Neighbourhood : goal.returns-in-Neighbourhood
returns-in-Neighbourhood c = rw c.in-Neighbourhood.is record { text = c.put_bytes-in-Neighbourhood.ensures.text; within = omega arith }

pub returns-in-SnakeSubstitution : goal.returns-in-SnakeSubstitution
returns-in-SnakeSubstitution c = rw c.in-SnakeSubstitution.is record { text = c.put_bytes-in-SnakeSubstitution.ensures.text; within = omega arith }
