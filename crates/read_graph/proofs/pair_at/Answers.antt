-- `read_graph::pair_at`: the first number ends at a space, the second with the line. Assumes nothing.
use Rattle.std.specs.Prelude.{None, Some}
use Rattle.graph.specs.declared.Line.TheVariants.{Edge}
use Rattle.read_graph.specs.Parts.{FieldAt}
use Rattle.read_graph.proofs.Found.{pair_none, number_place, pair_first, pair_second, pair_both}
use Rattle.read_graph.proofs.pair_at.Goals as goal

pub returns-in_err-a : goal.returns-in_err-a
returns-in_err-a c =
    let a = c.args in
    let N : FieldAt a.f.now a.p 32 None = rw (c.in_err-a.ensures.ok_part) at c.field_at.ensures in
    pair_none a.f.now a.p _ c.from_residual.ensures.0 (λ form. pair_first a.f.now a.p form N)

pub field_at-requires-2 : goal.field_at-requires-2
field_at-requires-2 c =
    let a = c.args in
    let N : FieldAt a.f.now a.p 32 (Some c.in_ok-a.a) = rw (c.in_ok-a.ensures.ok_part) at c.field_at.ensures in
    number_place _ _ _ _ N c.requires

pub returns-in_err-b : goal.returns-in_err-b
returns-in_err-b c =
    let a = c.args in
    let N : FieldAt a.f.now a.p 32 (Some c.in_ok-a.a) = rw (c.in_ok-a.ensures.ok_part) at c.field_at.ensures in
    let M : FieldAt a.f.now c.in_ok-a.a.next 10 None = rw (c.in_err-b.ensures.ok_part) at c.field_at-2.ensures in
    pair_none a.f.now a.p _ c.from_residual-in_err-b.ensures.0 (λ form. pair_second _ _ _ _ N form M)

pub returns : goal.returns
returns c =
    let a = c.args in
    let N : FieldAt a.f.now a.p 32 (Some c.in_ok-a.a) = rw (c.in_ok-a.ensures.ok_part) at c.field_at.ensures in
    let M : FieldAt a.f.now c.in_ok-a.a.next 10 (Some c.in_ok-b.b) = rw (c.in_ok-b.ensures.ok_part) at c.field_at-2.ensures in
    (λ form. (pair_both _ _ _ _ N form _ _ M).0, (pair_both _ _ _ _ N Edge _ _ M).1)
