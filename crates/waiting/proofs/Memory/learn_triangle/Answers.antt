-- `waiting::Memory::learn_triangle`: the value is stored, and the test entered. Assumes nothing.
use borrow.Author.Rules.{rules}
use Rattle.waiting.proofs.Words.{triangle_learned}
use Rattle.waiting.proofs.Memory.learn_triangle.Goals as goal

pub returns : goal.returns
returns c = let p = c.requires in triangle_learned _ p.0 p.1 (search rules) c.learn.ensures
