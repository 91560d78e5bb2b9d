-- `hand_call::fits`: a loop over the variables. Assumes nothing.
use mathlib.Core.Path.{sym, ◌∙◌}
use Rattle.bounded.proofs.Loops.{all_none, all_more, all_fail, all_end}
use Rattle.hand_call.proofs.Laws.{fits_all}
use borrow.Author.Rules.{rules}
use native.Mathlib.Omega.{arith}
use Rattle.hand_call.proofs.fits.Goals as goal

pub loop-i-init : goal.loop-i-init
loop-i-init c = (search rules, all_none _)

pub fits_at-requires : goal.fits_at-requires
fits_at-requires c = let p = c.requires in (p.0, p.1, c.variables-n.ensures, search rules)

pub returns-then-not-fits_at : goal.returns-then-not-fits_at
returns-then-not-fits_at c = sym (sym (fits_all _ _) ∙ all_fail _ 32 _ (omega arith) (sym c.fits_at.ensures ∙ c.if-not-fits_at.true))

pub loop-i-preserved : goal.loop-i-preserved
loop-i-preserved c = (omega arith, all_more _ _ c.loop-i.invariant.1 (sym c.fits_at.ensures ∙ c.if-not-fits_at.false))

pub returns : goal.returns
returns c = sym (sym (fits_all _ _) ∙ all_end _ 32 _ (omega arith) c.loop-i.invariant.1)
