-- `snake_substitution::snake_substitution`. Assumes nothing.
use mathlib.Core.Path.{sym, ◌∙◌}
use Rattle.problem.specs.Problem.{snake_substitution}
use Rattle.problem.specs.Masks.{state_of}
use Rattle.snake_substitution.specs.Parts.{substitution_at}
use Rattle.held.proofs.Laws.{bit_value}
use Rattle.bounded.proofs.Guard.{guard, guard_met, guard_left}
use Rattle.snake_substitution.proofs.snake_substitution.Goals as goal

pub substitution_others-requires : goal.substitution_others-requires
substitution_others-requires c =
    let h = guard c.has.result c.has-2.result c.args.a c.args.b c.if-has-a.true in
    (bit_value c.args.view.ready _ _ (sym c.has.ensures ∙ h.0), bit_value c.args.view.ready _ _ (sym c.has-2.ensures ∙ h.1))

pub returns-then-has-a : goal.returns-then-has-a
unfolding snake_substitution substitution_at state_of
returns-then-has-a c = c.substitution_others.ensures ∙ sym (guard_met _ _ c.has.ensures c.has-2.ensures c.if-has-a.true)

pub returns-else-has-a : goal.returns-else-has-a
unfolding snake_substitution state_of
returns-else-has-a c = sym (guard_left _ _ c.has.ensures c.has-2.ensures c.if-has-a.false)
