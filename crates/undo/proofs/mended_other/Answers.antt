-- `undo::mended_other`: a barred value gives way to the lowest that serves. Assumes nothing.
use mathlib.Core.Path.{sym, ◌∙◌}
use Rattle.undo.proofs.Undo.{mended_allowed, mended_barred}
use native.Mathlib.Omega.{arith}
use Rattle.undo.proofs.mended_other.Goals as goal

pub pair_allowed-requires : goal.pair_allowed-requires
pair_allowed-requires c = let p = c.requires in (c.args.view.ready.table, p.0, p.1.0)

pub lowest_snake-requires : goal.lowest_snake-requires
lowest_snake-requires c = let p = c.requires in (p.0, (p.1.0, p.1.1.1))

pub overflow_cast-result : goal.overflow_cast-result
overflow_cast-result c = let h = c.lowest_snake.ensures.below in omega arith

pub returns-then-pair_allowed : goal.returns-then-pair_allowed
returns-then-pair_allowed c = mended_allowed _ _ _ _ _ _ (sym c.pair_allowed.ensures ∙ c.if-pair_allowed.true)

pub returns-else-pair_allowed : goal.returns-else-pair_allowed
returns-else-pair_allowed c = let p = c.requires.1.1 in c.lowest_snake.ensures.is ∙ mended_barred _ _ _ _ _ _ p.0 p.1 (sym c.pair_allowed.ensures ∙ c.if-pair_allowed.false)
