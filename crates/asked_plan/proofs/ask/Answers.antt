-- `asked_plan::ask`: a question of the domains is one of the state. Assumes nothing.
use mathlib.Core.Path.{sym, ◌∙◌}
use Rattle.asked_plan.proofs.Questions.{empty_answered, no_answered, yes_answered}
use Rattle.asked_plan.proofs.ask.Goals as goal

pub returns-then-not-none_empty : goal.returns-then-not-none_empty
returns-then-not-none_empty c = empty_answered c.requires.0 (sym c.none_empty.ensures ∙ c.if-not-none_empty.true)

pub returns-then-not-any_plan : goal.returns-then-not-any_plan
returns-then-not-any_plan c = no_answered c.requires.0 c.requires.1 c.any_plan.ensures c.if-not-any_plan.true

pub returns : goal.returns
returns c = yes_answered c.requires.0 c.requires.1 (sym c.none_empty.ensures ∙ c.if-not-none_empty.false) c.any_plan.ensures c.if-not-any_plan.false
