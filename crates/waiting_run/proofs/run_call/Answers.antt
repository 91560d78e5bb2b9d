-- `waiting_run::run_call`: the length of the buffer, then what the job answers; its numbers fit. Assumes nothing.
use mathlib.Core.Path.{refl, sym, ap, ◌∙◌}
use native.Mathlib.Omega.{arith}
use Rattle.run.specs.Call.{RunCall}
use Rattle.run.proofs.Call.{run_bad, run_says, run_fits}
use Rattle.waiting_run.proofs.run_call.Goals as goal

pub returns-then-state-ne-STATE_LENGTH : goal.returns-then-state-ne-STATE_LENGTH
returns-then-state-ne-STATE_LENGTH c =
    let a = c.args in
    let e = sym (run_bad a.sheet.now a.trace.now a.state.now (λ l. omega arith)) in
    record { answer = c.bad_state.ensures ∙ ap (λ (y : RunCall). y.answer) e; trace = ap (λ (y : RunCall). y.trace) e; state = ap (λ (y : RunCall). y.state) e }

pub ran_number-requires : goal.ran_number-requires
ran_number-requires c =
    let a = c.args in
    rw c.run_sheet-done.ensures.0 (run_fits a.sheet.now a.trace.now)

pub returns : goal.returns
returns c =
    let a = c.args in
    let x = c.run_sheet-done.ensures in
    let e = run_says a.sheet.now a.trace.now a.state.now (omega arith) _ _ x.0 x.1 _ refl in
    record { answer = c.ran_number.ensures ∙ ap (λ (y : RunCall). y.answer) e; trace = ap (λ (y : RunCall). y.trace) e; state = c.put_ran_state.ensures ∙ ap (λ (y : RunCall). y.state) e }
