-- `colour::write`: the table holds the problem, and its sheet is written. Assumes nothing.
use mathlib.Core.Path.{refl, ap, ◌∙◌}
use Rattle.problem.proofs.HeldTable.{filled_rows}
use Rattle.colour.specs.Parts.{marked_problem}
use Rattle.colour.proofs.Filling.{marked_bounded}
use Rattle.colour.proofs.Job.{err_is, coloured_of, write_answers, write_leaves}
use Rattle.colour.proofs.write.Goals as goal

pub write_sheet-requires : goal.write_sheet-requires
write_sheet-requires c =
    let a = c.args in
    let g = a.g.now in
    (filled_rows (marked_bounded g.near.now g.vertices g.channels g.ranged g.some) c.fill_table.ensures, record { taken = refl })

pub returns-in_err-write_sheet : goal.returns-in_err-write_sheet
returns-in_err-write_sheet c =
    let a = c.args in
    let g = a.g.now in
    let P = marked_problem g.near.now g.vertices g.channels in
    let B = marked_bounded g.near.now g.vertices g.channels g.ranged g.some in
    let t = c.fill_table.ensures in
    let w = c.in_err-write_sheet.ensures in
    record { answer = err_is _ _ c.from_residual.ensures.1 ∙ ap coloured_of w.0 ∙ write_answers P B _ a.sheet.now t; buffer = w.1 ∙ write_leaves P B _ a.sheet.now t }

pub returns : goal.returns
returns c =
    let a = c.args in
    let g = a.g.now in
    let P = marked_problem g.near.now g.vertices g.channels in
    let B = marked_bounded g.near.now g.vertices g.channels g.ranged g.some in
    let t = c.fill_table.ensures in
    let w = c.in_ok-write_sheet.ensures in
    record { answer = ap coloured_of w.0 ∙ write_answers P B _ a.sheet.now t; buffer = w.1 ∙ write_leaves P B _ a.sheet.now t }
