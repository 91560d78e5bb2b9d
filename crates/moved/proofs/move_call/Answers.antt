-- `moved::move_call`: what the job answers; its number fits. Assumes nothing.
use mathlib.Core.Path.{sym, ap, ◌∙◌}
use native.Mathlib.Omega.{arith}
use Rattle.moved.specs.Call.{MoveCall}
use Rattle.moved.proofs.Demands.{move_longest}
use Rattle.moved.proofs.Call.{move_says}
use Rattle.moved.proofs.move_call.Goals as goal

pub overflow_mul-result : goal.overflow_mul-result
overflow_mul-result c = let l = move_longest _ _ _ (sym c.move_sheet.ensures.answer ∙ c.in-Ok.is) in omega arith

pub returns-in-Err : goal.returns-in-Err
returns-in-Err c =
    let a = c.args in
    let x = c.move_sheet.ensures in
    let e = move_says a.sheet.now a.target.now _ _ x.answer x.target _ c.in-Err.is in
    record { answer = c.from.ensures ∙ ap (λ (y : MoveCall). y.answer) e; target = ap (λ (y : MoveCall). y.target) e }

pub returns-in-Ok : goal.returns-in-Ok
returns-in-Ok c =
    let a = c.args in
    let x = c.move_sheet.ensures in
    let e = move_says a.sheet.now a.target.now _ _ x.answer x.target _ c.in-Ok.is in
    record { answer = ap (λ (y : MoveCall). y.answer) e; target = ap (λ (y : MoveCall). y.target) e }
