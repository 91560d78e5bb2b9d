-- `putting_back::entry_fits`. Assumes nothing.
use mathlib.Core.Path.{sym, ◌∙◌}
use Rattle.problem.specs.Masks.{state_of}
use Rattle.putting_back.proofs.Plan.{entry_in, entry_out}
use Rattle.putting_back.proofs.entry_fits.Goals as goal

pub returns-then-has : goal.returns-then-has
unfolding state_of
returns-then-has c = c.is_live.ensures ∙ entry_in _ _ _ (sym c.has.ensures ∙ c.if-has.true)

pub returns-else-has : goal.returns-else-has
unfolding state_of
returns-else-has c = entry_out _ _ _ (sym c.has.ensures ∙ c.if-has.false)
