-- `waiting::wake_triangles`: the triangles of the variables passed are woken. Assumes nothing.
use native.Mathlib.Omega.{arith}
use borrow.Author.Rules.{rules}
use Rattle.waiting.proofs.Words.{triangles_waking_none, triangles_waking_more, triangles_waking_end}
use Rattle.waiting.proofs.wake_triangles.Goals as goal

pub loop-i-init : goal.loop-i-init
loop-i-init c = (omega arith, triangles_waking_none _ _ _ _ (search rules))

pub loop-i-preserved : goal.loop-i-preserved
loop-i-preserved c =
    let w = c.loop-i in
    (omega arith, triangles_waking_more w.invariant.1 (omega arith) c.requires.0 _ _ c.weight.ensures (omega arith))

pub returns : goal.returns
returns c = let w = c.loop-i in triangles_waking_end w.invariant.1 (omega arith)
