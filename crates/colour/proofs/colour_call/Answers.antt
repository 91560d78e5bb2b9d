-- `colour::colour_call`: what the job answers; its number fits. Assumes nothing.
use mathlib.Core.Path.{sym, ap, ◌∙◌}
use native.Mathlib.Omega.{arith}
use Rattle.colour.specs.Call.{ColourCall}
use Rattle.colour.proofs.Plans.{colour_longest}
use Rattle.colour.proofs.Call.{colour_says}
use Rattle.colour.proofs.colour_call.Goals as goal

pub overflow_mul-result : goal.overflow_mul-result
overflow_mul-result c = let l = colour_longest _ _ _ _ (sym c.colour.ensures.answer ∙ c.in-Ok.is) in omega arith

pub returns-in-Err : goal.returns-in-Err
returns-in-Err c =
    let a = c.args in
    let x = c.colour.ensures in
    let e = colour_says a.file.now a.channels a.sheet.now _ _ x.answer x.buffer _ c.in-Err.is in
    record { answer = c.from.ensures ∙ ap (λ (y : ColourCall). y.answer) e; sheet = ap (λ (y : ColourCall). y.sheet) e }

pub returns-in-Ok : goal.returns-in-Ok
returns-in-Ok c =
    let a = c.args in
    let x = c.colour.ensures in
    let e = colour_says a.file.now a.channels a.sheet.now _ _ x.answer x.buffer _ c.in-Ok.is in
    record { answer = ap (λ (y : ColourCall). y.answer) e; sheet = ap (λ (y : ColourCall). y.sheet) e }
