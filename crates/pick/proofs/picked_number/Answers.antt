-- `pick::picked_number`: its numbers fit. Assumes nothing.
use mathlib.Core.Path.{sym, ap, subst, ◌∙◌}
use Rattle.pick.specs.Call.{crossed_number, PickFits}
use Rattle.pick.proofs.picked_number.Goals as goal

pub done_number-requires : goal.done_number-requires
done_number-requires c = subst PickFits c.in-Ok.is c.requires

pub returns-in-Ok : goal.returns-in-Ok
returns-in-Ok c = c.done_number.ensures ∙ ap crossed_number (sym c.in-Ok.is)

pub returns-in-Err : goal.returns-in-Err
returns-in-Err c = c.from.ensures ∙ ap crossed_number (sym c.in-Err.is)
