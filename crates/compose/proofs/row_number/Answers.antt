-- `compose::row_number`: a row of the table. Assumes nothing.
use mathlib.Core.Path.{◌∙◌}
use native.Mathlib.Omega.{arith}
use Rattle.problem.proofs.HeldTable.{held_bounded, held_value_lem, row_sized, row_within, held_few, held_narrow}
use Rattle.compose.proofs.row_number.Goals as goal

pub row-requires : goal.row-requires
row-requires c =
    let a = c.args in
    let p = c.requires.0 in
    let few = held_few a.t.now in
    let narrow = held_narrow p.table a.i in
    (p.table, record { variable = omega arith; value = omega arith; listed = held_value_lem p.table a.i a.a c.requires.1 }, omega arith, λ e. omega arith)

pub returns : goal.returns
returns c =
    let a = c.args in
    let B = held_bounded c.requires.0.table in
    let e = c.row.ensures in
    let l = row_within B a.i a.j a.a in
    record { is = e ∙ row_sized B a.i a.j a.a; below = omega arith }
