-- `colour::colour_graph`: 22, 23 and 24 in turn, and then the sheet. Assumes nothing.
use mathlib.Core.Path.{◌≡◌, refl, sym, ◌∙◌}
use mathlib.Core.Bool.{true, false}
use borrow.Author.Tests.{eq-eqb, ne_eqb}
use Rattle.colour.specs.Colour.{out_of_range}
use Rattle.colour.specs.Parts.{graph_job}
use Rattle.colour.proofs.colour_graph.Goals as goal

pub returns-then-found : goal.returns-then-found
unfolding graph_job
returns-then-found c = rw c.if-found.true record { answer = refl; buffer = refl }

pub returns-then-found-2 : goal.returns-then-found-2
unfolding graph_job
returns-then-found-2 c =
    let a = c.args in
    let q = ne_eqb a.found.lines a.found.edges c.if-found-2.true in
    rw (c.if-found.false, q) record { answer = refl; buffer = refl }

pub returns-then-out_of_range : goal.returns-then-out_of_range
unfolding graph_job
returns-then-out_of_range c =
    let a = c.args in
    let q = eq-eqb a.found.lines a.found.edges c.if-found-2.false in
    let o : out_of_range a.found.vertices a.channels ≡ true = sym c.out_of_range.ensures ∙ c.if-out_of_range.true in
    rw (c.if-found.false, q, o) record { answer = refl; buffer = refl }

pub returns : goal.returns
unfolding graph_job
returns c =
    let a = c.args in
    let q = eq-eqb a.found.lines a.found.edges c.if-found-2.false in
    let o : out_of_range a.found.vertices a.channels ≡ false = sym c.out_of_range.ensures ∙ c.if-out_of_range.false in
    rw (c.if-found.false, q, o) record { answer = c.write.ensures.answer; buffer = c.write.ensures.buffer }
