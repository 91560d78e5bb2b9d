-- `bounded::U32Set::lowest`: the zeros below the lowest member. Assumes nothing.
use lib.Count.{trailing_le}
use Rattle.bounded.proofs.Mask.{zeros_lowest}
use borrow.Author.Rules.{rules}
use Rattle.bounded.proofs.U32Set.lowest.Goals as goal

pub overflow_cast-result : goal.overflow_cast-result
overflow_cast-result c = let h = trailing_le 32 c.args.self in search rules

pub returns : goal.returns
returns c = zeros_lowest 32 c.args.self
