-- `waiting_unsupported::first_unsupported`: a loop that fills the words. Assumes nothing.
use native.Mathlib.Omega.{arith}
use borrow.Author.Rules.{rules}
use Rattle.waiting_unsupported.proofs.Words.{filling_none, filling_more, filling_end}
use Rattle.waiting_unsupported.proofs.first_unsupported.Goals as goal

pub loop-i-preserved : goal.loop-i-preserved
loop-i-preserved c =
    let w = c.loop-i in
    (omega arith, filling_more w.i _ (omega arith) c.unsupported_of.ensures w.invariant.1)

pub loop-i-init : goal.loop-i-init
loop-i-init c = (search rules, filling_none (search rules))

pub offset_bounds-words-i : goal.offset_bounds-words-i
offset_bounds-words-i c = let long = c.loop-i.invariant.1.long in search rules

pub bounds-words-i : goal.bounds-words-i
bounds-words-i c = let long = c.loop-i.invariant.1.long in search rules

pub returns : goal.returns
returns c = filling_end c.args.view.ready (omega arith) c.loop-i.invariant.1
