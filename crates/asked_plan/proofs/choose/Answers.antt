-- `asked_plan::choose`: the domains so far are met with the line. Assumes nothing.
use mathlib.Core.Path.{◌∙◌}
use Rattle.problem.specs.Masks.{masks_of}
use Rattle.held.proofs.Laws.{live_value}
use Rattle.first_plan.proofs.Choices.{choose_rest}
use Rattle.asked_plan.proofs.Choices.{chosen_all}
use Rattle.asked_plan.proofs.choose.Goals as goal

pub returns : goal.returns
unfolding masks_of
returns c =
    let p = c.requires in
    let l = (live_value p.0 _ _ p.1).variable in
    let w = c.loop-j.invariant in
    let q = chosen_all p.0 _ _ p.1 p.2 _ _ l c.loop-j-test.false (rw w.1 at w.2) in
    let a = c.without-active.ensures ∙ choose_rest p.0 _ _ l in
    λ k. record { active = a k; domains = q k }
