-- `replay::broken_neighbourhood`. Assumes nothing.
use mathlib.Core.Path.{sym, ◌∙◌}
use Rattle.problem.proofs.Spoiler.{broken_asked, broken_unasked}
use Rattle.replay.proofs.Range.{asked_values}
use Rattle.replay.proofs.broken_neighbourhood.Goals as goal

pub first_break-requires : goal.first_break-requires
first_break-requires c = let v = asked_values c.args.view.ready _ _ _ (sym c.cover_asked.ensures ∙ c.if-cover_asked.true) in v

pub returns-then-cover_asked : goal.returns-then-cover_asked
returns-then-cover_asked c = c.first_break.ensures ∙ sym (broken_asked _ _ _ _ _ (sym c.cover_asked.ensures ∙ c.if-cover_asked.true))

pub returns-else-cover_asked : goal.returns-else-cover_asked
returns-else-cover_asked c = sym (broken_unasked _ _ _ _ _ (sym c.cover_asked.ensures ∙ c.if-cover_asked.false))
