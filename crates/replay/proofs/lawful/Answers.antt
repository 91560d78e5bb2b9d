-- `replay::lawful`. Assumes nothing.
use mathlib.Core.Path.{sym, ◌∙◌}
use Rattle.replay.proofs.Range.{lawful_on, lawful_off}
use Rattle.replay.proofs.lawful.Goals as goal

pub returns-then-none_empty : goal.returns-then-none_empty
returns-then-none_empty c = c.holds.ensures ∙ lawful_on _ _ _ (sym c.none_empty.ensures ∙ c.if-none_empty.true)

pub returns-else-none_empty : goal.returns-else-none_empty
returns-else-none_empty c = lawful_off _ _ _ (sym c.none_empty.ensures ∙ c.if-none_empty.false)
