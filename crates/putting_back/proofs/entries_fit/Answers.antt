-- `putting_back::entries_fit`: a loop over the entries. Assumes nothing.
use mathlib.Core.Path.{sym, ◌∙◌}
use Rattle.bounded.proofs.Loops.{all_none, all_more, all_fail, all_end}
use native.Mathlib.Omega.{arith}
use Rattle.putting_back.proofs.entries_fit.Goals as goal

pub loop-i-init : goal.loop-i-init
loop-i-init c = (omega arith, all_none _)

pub entry_fits-requires : goal.entry_fits-requires
entry_fits-requires c = (c.requires.0, omega arith)

pub returns-then-not-entry_fits : goal.returns-then-not-entry_fits
returns-then-not-entry_fits c = sym (all_fail _ _ c.loop-i.i (omega arith) (sym c.entry_fits.ensures ∙ c.if-not-entry_fits.true))

pub loop-i-preserved : goal.loop-i-preserved
loop-i-preserved c = (omega arith, all_more _ _ c.loop-i.invariant.1 (sym c.entry_fits.ensures ∙ c.if-not-entry_fits.false))

pub returns : goal.returns
returns c = sym (all_end _ _ c.loop-i.i (omega arith) c.loop-i.invariant.1)
