-- `bounded::U16Set::highest`: the zeros above the highest member. Assumes nothing.
use native.Mathlib.Omega.{arith}
use borrow.Author.Rules.{rules}
use Rattle.bounded.proofs.Mask.{zeros_highest, zeros_less}
use Rattle.bounded.proofs.U16Set.highest.Goals as goal

pub overflow_cast-result : goal.overflow_cast-result
overflow_cast-result c = let h = zeros_less 16 c.args.self (omega arith) c.requires in search rules

pub overflow_sub-result : goal.overflow_sub-result
overflow_sub-result c = let h = zeros_less 16 c.args.self (omega arith) c.requires in search rules

pub returns : goal.returns
returns c = let h = zeros_less 16 c.args.self (omega arith) c.requires in zeros_highest 16 c.args.self _ (omega arith) c.requires (omega arith)
