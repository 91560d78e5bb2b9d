-- `plan_report::plan_report`: by the room in the buffer. Assumes nothing.
use native.Mathlib.Omega.{arith}
use Rattle.report.proofs.Text.{text_short, text_whole}
use Rattle.plan_report.proofs.plan_report.Goals as goal

pub returns-then-out-lt33024 : goal.returns-then-out-lt33024
returns-then-out-lt33024 c = record { text = text_short _ _ c.args.out.now (omega arith); within = omega arith }

pub returns : goal.returns
returns c =
    let a = c.args in
    let p = c.put_sheet.ensures in
    record { text = text_whole _ _ a.out.now _ _ (omega arith) p.text; within = omega arith }
