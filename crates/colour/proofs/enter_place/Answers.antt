-- `colour::enter_place`: an edge is entered, and where there is none nothing is changed. Assumes nothing.
use mathlib.Core.Path.{sym, ◌∙◌}
use native.Mathlib.Omega.{arith}
use Rattle.table.proofs.Filling.{block_facts}
use Rattle.colour.proofs.enter_place.Goals as goal

pub enter-requires : goal.enter-requires
enter-requires c =
    let a = c.args in
    let p = c.requires in
    let e = block_facts _ (λ i j. a.rows.now) a.g.now.vertices a.x (sym c.is_edge.ensures ∙ c.if-not-is_edge.false) in
    (p.1, e.0, omega arith)
