-- `putting_back::pairs_of`: a loop over the other variables. Assumes nothing.
use mathlib.Core.Path.{sym, ◌∙◌}
use Rattle.bounded.proofs.Loops.{all_none, all_more, all_fail, all_end}
use Rattle.putting_back.specs.Plan.{pairs_of}
use native.Mathlib.Omega.{arith}
use Rattle.putting_back.proofs.pairs_of.Goals as goal

pub loop-j-init : goal.loop-j-init
loop-j-init c = (omega arith, all_none _)

pub pair_fits-requires : goal.pair_fits-requires
pair_fits-requires c = let p = c.requires in (p.0, (p.1.1, c.loop-j-test.true))

pub returns-then-not-pair_fits : goal.returns-then-not-pair_fits
unfolding pairs_of
returns-then-not-pair_fits c = sym (all_fail _ _ c.loop-j.j (omega arith) (sym c.pair_fits.ensures ∙ c.if-not-pair_fits.true))

pub loop-j-preserved : goal.loop-j-preserved
loop-j-preserved c = (omega arith, all_more _ _ c.loop-j.invariant.1 (sym c.pair_fits.ensures ∙ c.if-not-pair_fits.false))

pub returns : goal.returns
unfolding pairs_of
returns c = sym (all_end _ _ c.loop-j.j (omega arith) c.loop-j.invariant.1)
