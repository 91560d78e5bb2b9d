-- `putting_back::plan_fits`: the entries, then the pairs. Assumes nothing.
use mathlib.Core.Path.{sym, ◌∙◌}
use Rattle.bounded.proofs.Truth.{T_of}
use Rattle.bounded.proofs.Loops.{all_each}
use Rattle.problem.proofs.HeldTable.{held_few}
use Rattle.putting_back.proofs.Plan.{plan_pairs, plan_entries}
use native.Mathlib.Omega.{arith}
use Rattle.putting_back.proofs.plan_fits.Goals as goal

pub entries_fit-requires : goal.entries_fit-requires
entries_fit-requires c = let p = c.requires in let h = held_few c.args.view.table.now in let e = p in (c.args.view.ready.proper, omega arith)

pub pairs_fit-requires : goal.pairs_fit-requires
pairs_fit-requires c = let p = c.requires in let h = held_few c.args.view.table.now in let e = p in (record { few = omega arith; each = λ i l. T_of (all_each _ _ (sym c.entries_fit.ensures ∙ c.if-entries_fit.true) i l) }, p)

pub returns-then-entries_fit : goal.returns-then-entries_fit
returns-then-entries_fit c = let p = c.requires in c.pairs_fit.ensures ∙ plan_pairs c.args.view.ready.fits c.args.plan.now p (sym c.entries_fit.ensures ∙ c.if-entries_fit.true)

pub returns-else-entries_fit : goal.returns-else-entries_fit
returns-else-entries_fit c = let p = c.requires in plan_entries c.args.view.ready.fits c.args.plan.now p (sym c.entries_fit.ensures ∙ c.if-entries_fit.false)
