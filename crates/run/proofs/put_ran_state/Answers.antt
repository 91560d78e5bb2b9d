-- `run::put_ran_state`. Assumes nothing.
use mathlib.Core.Path.{sym, ap, ◌∙◌}
use Rattle.run.specs.Numbers.{RunOutcome}
use Rattle.run.specs.Call.{ran_state}
use Rattle.run.proofs.put_ran_state.Goals as goal

pub returns-in-Ok : goal.returns-in-Ok
returns-in-Ok c =
    let a = c.args in
    c.put_state.ensures ∙ ap (λ (y : RunOutcome). ran_state y a.m a.b.now) (sym c.in-Ok.is)
