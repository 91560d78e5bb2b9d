-- `start::sweep`: the state in hand is that of the items passed, and the flag says of it that no item in is emptied. Assumes nothing.
use Rattle.start.proofs.Sweeps.{swept_first, swept_next, swept_end}
use borrow.Author.Rules.{rules}
use native.Mathlib.Omega.{arith}
use Rattle.start.proofs.sweep.Goals as goal

pub loop-i-init : goal.loop-i-init
loop-i-init c = (search rules, swept_first c.args.view.ready c.none_empty-lasts.ensures)

pub domain_left-left-requires : goal.domain_left-left-requires
domain_left-left-requires c = let w = c.loop-i in let S = w.invariant.1 in (S.lasting, search rules)

pub loop-i-preserved : goal.loop-i-preserved
loop-i-preserved c = let w = c.loop-i in (omega arith, swept_next w.invariant.1 _ (omega arith) c.domain_left-left.ensures)

pub returns : goal.returns
returns c = let w = c.loop-i in swept_end w.invariant.1 (omega arith) w.invariant.0
