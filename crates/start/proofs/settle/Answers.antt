-- `start::settle`: the state in hand has all of the start on, and a sweep that changes no domain has come to it. Assumes nothing.
use mathlib.Core.Path.{sym, ◌∙◌, subst}
use Rattle.start.proofs.Sweeps.{Above, above_full, above_next, above_end, above_less}
use Rattle.start.proofs.settle.Goals as goal
use Rattle.start.proofs.settle.Goals.{After-full_masks-kept}

first : (c : After-full_masks-kept) → Above c.args.t.now c.full_masks-kept.result
first c = subst (Above _) (sym c.full_masks-kept.ensures) (above_full c.requires)

pub invariant_of-full : goal.invariant_of-full
invariant_of-full c = record { ready = (first (goal.at.invariant_of-full c).After-full_masks-kept).ready }

pub loop-kept-init : goal.loop-kept-init
loop-kept-init c = (first (goal.at.loop-kept-init c).After-full_masks-kept, c.sweep-next.ensures)

pub invariant_of-view : goal.invariant_of-view
invariant_of-view c = let w = c.loop-kept in record { ready = (above_next w.invariant.0 _ w.invariant.1).ready }

pub loop-kept-smaller : goal.loop-kept-smaller
loop-kept-smaller c = let w = c.loop-kept in above_less w.invariant.0 _ w.invariant.1 (sym c.same_domains.ensures ∙ c.loop-kept-test.true)

pub loop-kept-preserved : goal.loop-kept-preserved
loop-kept-preserved c = let w = c.loop-kept in (above_next w.invariant.0 _ w.invariant.1, c.sweep-next-in-loop-kept.ensures)

pub returns : goal.returns
returns c = let w = c.loop-kept in above_end w.invariant.0 _ w.invariant.1 (sym c.same_domains.ensures ∙ c.loop-kept-test.false)
