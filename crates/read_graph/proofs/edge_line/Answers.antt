-- `read_graph::edge_line`: a space, and two numbers. Assumes nothing.
use mathlib.Core.Path.{sym, ◌∙◌}
use Rattle.read_graph.proofs.Found.{found_none, edge_bad, edge_here}
use Rattle.graph.specs.declared.Line.TheVariants.{Edge}
use native.Mathlib.Omega.{arith}
use Rattle.read_graph.proofs.edge_line.Goals as goal

pub returns-then-byte_at-ne32 : goal.returns-then-byte_at-ne32
returns-then-byte_at-ne32 c =
    let a = c.args in
    edge_bad a.f.now a.p c.requires.1 (λ e. c.if-byte_at-ne32.true (c.byte_at.ensures ∙ e))

pub returns-in_err-q : goal.returns-in_err-q
returns-in_err-q c =
    let a = c.args in
    let e = edge_here a.f.now a.p c.requires.1 (sym c.byte_at.ensures ∙ c.if-byte_at-ne32.false) in
    found_none _ _ _ _ c.from_residual.ensures.0 (e.0 ∙ c.in_err-q.ensures Edge)

pub returns : goal.returns
returns c =
    let a = c.args in
    let e = edge_here a.f.now a.p c.requires.1 (sym c.byte_at.ensures ∙ c.if-byte_at-ne32.false) in
    let l = e.1 in
    let q = c.in_ok-q.ensures.1 in
    (sym (e.0 ∙ c.in_ok-q.ensures.0 Edge), omega arith)
