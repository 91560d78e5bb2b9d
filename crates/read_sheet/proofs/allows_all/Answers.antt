-- `read_sheet::allows_all`: the rows so far are full. Assumes nothing.
use mathlib.Core.Path.{sym}
use native.Mathlib.Omega.{arith}
use borrow.Author.Tests.{eq-eqb, ne_eqb}
use Rattle.bounded.proofs.Loops.{all_none, all_more, all_fail, all_end}
use Rattle.read_sheet.specs.Reading.{all_full}
use Rattle.read_sheet.proofs.allows_all.Goals as goal

pub returns-then-x-a : goal.returns-then-x-a
unfolding all_full
returns-then-x-a c =
    sym (all_fail _ _ c.loop-a.a c.loop-a-test.true (ne_eqb _ _ c.if-x-a.true))

pub loop-a-preserved : goal.loop-a-preserved
loop-a-preserved c =
    (omega arith, all_more _ c.loop-a.a c.loop-a.invariant.1 (eq-eqb _ _ c.if-x-a.false))

pub returns : goal.returns
unfolding all_full
returns c = let l = c.loop-a in sym (all_end _ _ l.a (omega arith) l.invariant.1)

pub loop-a-init : goal.loop-a-init
loop-a-init c = (omega arith, all_none _)
