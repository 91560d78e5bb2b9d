-- `read_graph::read_lines`: what reading finds from the start is what it finds from here. Assumes nothing.
use mathlib.Core.Path.{sym}
use Rattle.read_graph.proofs.Marks.{lines_none, reading_bad, reading_away, reading_turns, reading_ends}
use Rattle.read_graph.proofs.read_lines.Goals as goal

pub returns-in_err-l : goal.returns-in_err-l
returns-in_err-l c =
    let w = c.loop-p.invariant in
    lines_none _ _ _ c.from_residual.ensures.0 w.long (reading_bad _ _ _ _ w c.loop-p-test.true c.in_err-l.ensures)

pub returns-in_err-g : goal.returns-in_err-g
returns-in_err-g c =
    let w = c.loop-p.invariant in
    lines_none _ _ _ c.from_residual-in_err-g.ensures.0 w.long (reading_away _ _ _ _ w c.loop-p-test.true _ c.in_ok-l.ensures (sym c.in_err-g.ensures))

pub loop-p-preserved : goal.loop-p-preserved
loop-p-preserved c =
    reading_turns _ _ _ _ c.loop-p.invariant c.loop-p-test.true _ c.in_ok-l.ensures _ (sym c.in_ok-g.ensures) _ c.mark.ensures

pub returns : goal.returns
returns c = rw c.ok_or.ensures.value (reading_ends _ _ _ _ c.loop-p.invariant c.loop-p-test.false)
