-- `colour_sheet::put_coloured`: the sheet where the job left it, or the line put over it. Assumes nothing.
use Rattle.std.proofs.Common.{sym, ◌∙◌, arith}
use Rattle.colour.proofs.Plans.{colour_longest}
use Rattle.colour_sheet.proofs.Text.{text_sheet, text_line}
use Rattle.colour_sheet.proofs.put_coloured.Goals as goal

pub returns-in-Ok : goal.returns-in-Ok
returns-in-Ok c =
    let r = c.colour in
    let e = c.in-Ok.is in
    record { text = text_sheet _ _ r.ensures.answer _ _ e r.ensures.buffer; within = colour_longest _ _ _ _ (sym r.ensures.answer ∙ e) }

pub returns-in-Err : goal.returns-in-Err
returns-in-Err c =
    let r = c.colour in
    let p = c.put_refused_line in
    record { text = text_line _ _ r.ensures.answer _ _ _ _ _ c.in-Err.is c.from.ensures p.ensures.text.0 p.ensures.text.1 (omega arith); within = omega arith }
