-- `putting_back::pairs_fit`: a loop over the variables. Assumes nothing.
use mathlib.Core.Path.{sym, ◌∙◌}
use Rattle.bounded.proofs.Loops.{all_none, all_more, all_fail, all_end}
use native.Mathlib.Omega.{arith}
use Rattle.putting_back.proofs.pairs_fit.Goals as goal

pub loop-i-init : goal.loop-i-init
loop-i-init c = (omega arith, all_none _)

pub pairs_of-requires : goal.pairs_of-requires
pairs_of-requires c = let p = c.requires in (p.0, (p.1, c.loop-i-test.true))

pub returns-then-not-pairs_of : goal.returns-then-not-pairs_of
returns-then-not-pairs_of c = sym (all_fail _ _ c.loop-i.i (omega arith) (sym c.pairs_of.ensures ∙ c.if-not-pairs_of.true))

pub loop-i-preserved : goal.loop-i-preserved
loop-i-preserved c = (omega arith, all_more _ _ c.loop-i.invariant.1 (sym c.pairs_of.ensures ∙ c.if-not-pairs_of.false))

pub returns : goal.returns
returns c = sym (all_end _ _ c.loop-i.i (omega arith) c.loop-i.invariant.1)
