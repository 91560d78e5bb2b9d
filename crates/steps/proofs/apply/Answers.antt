-- `steps::apply`: a value removed or a variable eliminated, as the record's effect says. Assumes nothing.
use mathlib.Core.Path.{ap, sym, ◌∙◌}
use Rattle.problem.specs.Run.{after_effect, after}
use Rattle.problem.specs.Held.{held}
use Rattle.problem.specs.Masks.{state_of, masks_of}
use Rattle.problem.specs.declared.Effect.{Effect}
use Rattle.steps.proofs.apply.Goals as goal

pub returns-in-Removes : goal.returns-in-Removes
unfolding after
returns-in-Removes c = let a = c.args in c.remove.ensures ∙ ap (λ (x : Effect). masks_of (after_effect (held a.view.table.now) (state_of a.view.state.now) x)) (sym c.in-Removes.is ∙ c.effect_of.ensures)

pub returns-in-Eliminates : goal.returns-in-Eliminates
unfolding after
returns-in-Eliminates c = let a = c.args in c.eliminate.ensures ∙ ap (λ (x : Effect). masks_of (after_effect (held a.view.table.now) (state_of a.view.state.now) x)) (sym c.in-Eliminates.is ∙ c.effect_of.ensures)
