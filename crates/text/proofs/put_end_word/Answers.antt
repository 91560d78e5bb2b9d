-- `text::put_end_word`: each end by itself.
use native.Mathlib.Omega.{arith}
use Rattle.text.proofs.put_end_word.Goals as goal

pub returns-in-Impossible : goal.returns-in-Impossible
returns-in-Impossible c = rw c.in-Impossible.is record { text = c.put_bytes.ensures.text; within = omega arith }

pub returns-in-Solved : goal.returns-in-Solved
returns-in-Solved c = rw c.in-Solved.is record { text = c.put_bytes-in-Solved.ensures.text; within = omega arith }

pub returns-in-Rest : goal.returns-in-Rest
returns-in-Rest c = rw c.in-Rest.is record { text = c.put_bytes-in-Rest.ensures.text; within = omega arith }
