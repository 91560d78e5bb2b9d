-- `putting_back::finish`: the plan against the last state, then undoing from the first. Assumes nothing.
use mathlib.Core.Path.{sym, ap, ◌∙◌}
use Rattle.put_back.specs.PutBack.{PutBackResult}
use Rattle.held.proofs.First.{ready_full}
use Rattle.putting_back.proofs.Job.{ready_last, plan_refused, undoable_all, put_done}
use Rattle.putting_back.proofs.finish.Goals as goal

pub plan_fits-requires : goal.plan_fits-requires
plan_fits-requires c = c.requires.1.1.1.0

pub invariant_of-left : goal.invariant_of-left
invariant_of-left c = let p = c.requires in let a = c.args in record { ready = ready_last p.0 a.trace.now a.plan.now a.out.now a.last p.1.1.0 }

pub invariant_of-whole : goal.invariant_of-whole
invariant_of-whole c = let p = c.requires in record { ready = (ready_full p.0 c.args.first p.1.0).0 }

pub returns-then-not-plan_fits : goal.returns-then-not-plan_fits
returns-then-not-plan_fits c = let p = c.requires in let a = c.args in let E = p.1.1.0 in let g = plan_refused p.0 a.trace.now a.plan.now a.out.now a.last E (sym c.plan_fits.ensures ∙ c.if-not-plan_fits.true) in (ap (λ (r : PutBackResult). r.answer) g, ap (λ (r : PutBackResult). r.result) g)

pub copy-requires : goal.copy-requires
copy-requires c = let p = c.requires in p.1.1.1.0 ∙ sym p.1.1.1.1

pub undo_all-requires : goal.undo_all-requires
undo_all-requires c = let p = c.requires in let a = c.args in let E = p.1.1.0 in undoable_all p.0 a.trace.now a.plan.now a.out.now a.last E a.first p.1.0 (sym c.plan_fits.ensures ∙ c.if-not-plan_fits.false) _ c.copy.ensures p.1.1.1.0

pub returns : goal.returns
returns c = let p = c.requires in let a = c.args in let E = p.1.1.0 in put_done p.0 a.trace.now a.plan.now a.out.now a.last E a.first p.1.0 (sym c.plan_fits.ensures ∙ c.if-not-plan_fits.false) _ _ c.copy.ensures c.undo_all.ensures
