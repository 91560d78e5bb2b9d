-- `putting_back::put_back_call`: what the job answers; what a refusal carries fits. Assumes nothing.
use mathlib.Core.Path.{refl, ap, ◌∙◌}
use Rattle.put_back.specs.Call.{PutBackCall}
use Rattle.put_back.proofs.Call.{back_says}
use Rattle.putting_back.proofs.Call.{back_fits}
use Rattle.putting_back.proofs.put_back_call.Goals as goal

pub put_back_answer-requires : goal.put_back_answer-requires
put_back_answer-requires c =
    let a = c.args in
    rw c.put_back-done.ensures.0 (back_fits a.sheet.now a.trace.now a.plan.now a.res.now)

pub returns : goal.returns
returns c =
    let a = c.args in
    let x = c.put_back-done.ensures in
    let e = back_says a.sheet.now a.trace.now a.plan.now a.res.now _ _ x.0 x.1 _ refl in
    record { answer = c.put_back_answer.ensures ∙ ap (λ (y : PutBackCall). y.answer) e; res = ap (λ (y : PutBackCall). y.result) e }
