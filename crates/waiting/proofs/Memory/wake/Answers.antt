-- `waiting::Memory::wake`: the rows passed are woken. Assumes nothing.
use native.Mathlib.Omega.{arith}
use borrow.Author.Rules.{rules}
use Rattle.waiting.proofs.Words.{waking_none, waking_more, waking_end}
use Rattle.waiting.proofs.Memory.wake.Goals as goal

pub loop-row-init : goal.loop-row-init
loop-row-init c = (omega arith, waking_none _ _ _ (search rules) (search rules))

pub loop-row-preserved : goal.loop-row-preserved
loop-row-preserved c =
    let w = c.loop-row in
    (omega arith, waking_more w.invariant.1 (omega arith) c.requires)

pub returns : goal.returns
returns c = let w = c.loop-row in waking_end w.invariant.1 (omega arith)
