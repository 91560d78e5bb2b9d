-- `moved::move_over`: what the writer answers, as the job does. Assumes nothing.
use mathlib.Core.Path.{ap, ◌∙◌}
use Rattle.problem.specs.Held.{held}
use Rattle.moved.proofs.Job.{err_is, moved_of, move_answers, move_leaves}
use Rattle.moved.proofs.move_over.Goals as goal

pub returns-in_err-write_sheet : goal.returns-in_err-write_sheet
returns-in_err-write_sheet c =
    let a = c.args in
    let w = c.in_err-write_sheet.ensures in
    let P = held a.t.now in
    record { answer = err_is _ _ c.from_residual.ensures.1 ∙ ap moved_of w.0 ∙ move_answers a.v P a.target.now; target = w.1 ∙ move_leaves a.v P a.target.now }

pub returns : goal.returns
returns c =
    let a = c.args in
    let w = c.in_ok-write_sheet.ensures in
    let P = held a.t.now in
    record { answer = ap moved_of w.0 ∙ move_answers a.v P a.target.now; target = w.1 ∙ move_leaves a.v P a.target.now }
