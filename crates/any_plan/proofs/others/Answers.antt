-- `any_plan::others`. Assumes nothing.
use native.Mathlib.Omega.{arith}
use borrow.Author.Rules.{rules}
use Rattle.bounded.proofs.Members.{lowest_member}
use Rattle.any_plan.proofs.others.Goals as goal

pub without-requires : goal.without-requires
without-requires c = let m = lowest_member 16 c.args.x (search rules) c.if-x-eq0.false in omega (arith, m.0, c.lowest.ensures)
