-- `pick::put_picked_state`. Assumes nothing.
use mathlib.Core.Path.{sym, ap, ◌∙◌}
use Rattle.pick.specs.Pick.{PickOutcome}
use Rattle.pick.specs.Call.{crossed_state}
use Rattle.pick.proofs.put_picked_state.Goals as goal

pub returns-in-Ok : goal.returns-in-Ok
returns-in-Ok c =
    let a = c.args in
    c.put_state.ensures ∙ ap (λ (y : PickOutcome). crossed_state y a.m a.b.now) (sym c.in-Ok.is)
