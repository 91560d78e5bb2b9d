-- `lines::draw_variable`: the lines are drawn at the variables passed. Assumes nothing.
use mathlib.Core.Path.{sym}
use Rattle.bounded.proofs.Mask.{bit_without32}
use Rattle.bounded.proofs.Members.{left_next, left_lowest, left_other}
use Rattle.lines.proofs.Laws.{variable_more}
use Rattle.lines.proofs.draw_variable.Goals as goal

pub without-rest-requires-in-loop-rest : goal.without-rest-requires-in-loop-rest
without-rest-requires-in-loop-rest c = (left_lowest 32 bit_without32 c.loop-rest.invariant.0 c.loop-rest-test.true c.lowest-j.ensures).0

pub draw_pair-requires : goal.draw_pair-requires
draw_pair-requires c =
    let w = c.loop-rest in
    let l = left_lowest 32 bit_without32 w.invariant.0 c.loop-rest-test.true c.lowest-j.ensures in
    let d = left_other 32 bit_without32 c.args.some c.args.i w.invariant.0 c.without-rest.ensures c.requires.1 l.0 l.1 in
    (c.requires.0, c.requires.1, l.0, λ e. d (sym e))

pub loop-rest-smaller : goal.loop-rest-smaller
loop-rest-smaller c =
    rw c.without-rest-in-loop-rest.ensures
    (left_lowest 32 bit_without32 c.loop-rest.invariant.0 c.loop-rest-test.true c.lowest-j.ensures).2

pub loop-rest-preserved : goal.loop-rest-preserved
loop-rest-preserved c =
    let w = c.loop-rest in
    let l = left_lowest 32 bit_without32 w.invariant.0 c.loop-rest-test.true c.lowest-j.ensures in
    rw c.without-rest-in-loop-rest.ensures (left_next _ w.invariant.0, variable_more _ _ _ _ _ _ _ _ l.0 (w.invariant.0.part _ l.1) c.draw_pair.ensures w.invariant.1)
