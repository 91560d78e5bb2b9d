-- `read_graph::line_at`: told by its first byte. Assumes nothing.
use mathlib.Core.Path.{sym, ◌∙◌}
use Rattle.graph.proofs.Lines.{line_within}
use lib.ListN.{length-drop, drop}
use Rattle.read_graph.proofs.Laws.{get_d_any}
use Rattle.read_graph.proofs.Found.{comment_here}
use native.Mathlib.Omega.{arith}
use Rattle.read_graph.proofs.line_at.Goals as goal

pub overflow_add-result : goal.overflow_add-result
overflow_add-result c =
    let a = c.args in
    let e = c.line_end.ensures in
    let w = line_within (drop a.p a.f.now) in
    let d = length-drop a.p a.f.now in
    let s = c.requires.0.short in
    omega arith

pub returns-then-b-eq99 : goal.returns-then-b-eq99
returns-then-b-eq99 c =
    let a = c.args in
    comment_here a.f.now a.p _ (sym (get_d_any a.f.now a.p 0 10 c.requires.1) ∙ c.if-b-eq99.true) (let e = c.line_end.ensures in omega arith)
