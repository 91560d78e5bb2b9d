-- `read_graph::size_line`: the word, and two numbers. Assumes nothing.
use mathlib.Core.Path.{sym, ◌∙◌}
use native.Mathlib.Omega.{arith}
use Rattle.graph.specs.Graph.{size_word}
use Rattle.graph.specs.declared.Line.TheVariants.{Size}
use Rattle.read_graph.proofs.Found.{found_none, size_bad, size_here, word_place}
use Rattle.read_graph.proofs.size_line.Goals as goal

pub returns-then-not-begins : goal.returns-then-not-begins
returns-then-not-begins c =
    size_bad _ _ c.requires.1 (sym c.begins.ensures ∙ c.if-not-begins.true)

pub pair_at-requires : goal.pair_at-requires
pair_at-requires c = word_place _ size_word _ c.requires.0 (sym c.begins.ensures ∙ c.if-not-begins.false)

pub returns-in_err-q : goal.returns-in_err-q
returns-in_err-q c =
    let e = size_here _ _ c.requires.1 (sym c.begins.ensures ∙ c.if-not-begins.false) in
    found_none _ _ _ _ c.from_residual.ensures.0 (e.0 ∙ c.in_err-q.ensures Size)

pub returns : goal.returns
returns c =
    let e = size_here _ _ c.requires.1 (sym c.begins.ensures ∙ c.if-not-begins.false) in
    let l = e.1 in
    let q = c.in_ok-q.ensures.1 in
    (sym (e.0 ∙ c.in_ok-q.ensures.0 Size), omega arith)
