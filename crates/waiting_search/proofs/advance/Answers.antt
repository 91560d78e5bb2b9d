-- `waiting_search::advance`: the step, and what is known in the state after it. Assumes nothing.
use mathlib.Core.Path.{sym, ap, ◌∙◌, subst}
use Rattle.problem.specs.Masks.{state_of}
use Rattle.problem.specs.declared.Masks.{Masks}
use Rattle.problem.proofs.HeldTable.{held_few}
use Rattle.held.specs.Ready.{Ready}
use Rattle.steps.proofs.States.{after_state, after_ready, holds_within}
use Rattle.waiting_search.specs.Known.{Mendable}
use Rattle.waiting_search.proofs.Known.{step_holds, known_after, holds_mendable}
use Rattle.waiting_search.proofs.advance.Goals as goal

pub apply-state-requires : goal.apply-state-requires
apply-state-requires c = let R = c.args.view.ready in holds_within R _ (step_holds R.fits _ c.requires.2).1

pub mend-requires : goal.mend-requires
mend-requires c =
    let R = c.args.view.ready in
    subst (λ (m : Masks). Mendable c.args.view.table.now m c.args.r) (sym c.apply-state.ensures) (holds_mendable R _ (step_holds R.fits _ c.requires.2).1)

pub invariant_of-reached : goal.invariant_of-reached
invariant_of-reached c = record { ready = subst (Ready c.args.view.table.now) (sym c.apply-state.ensures) (after_ready c.args.view.ready _) }

pub returns : goal.returns
returns c =
    let R = c.args.view.ready in
    let q = c.requires in
    let e = c.apply-state.ensures in
    let k = known_after R.fits _ q.2 (held_few c.args.view.table.now) q.0 q.1 (ap state_of e ∙ after_state R _) c.mend.ensures in
    record { is = e; words = k.0; waits = k.1 }
