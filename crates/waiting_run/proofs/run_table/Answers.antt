-- `waiting_run::run_table`: the loop of the run. Each turn uses up a value, which is the measure. Assumes nothing.
use mathlib.Core.Path.{sym, ap, ◌∙◌}
use native.Mathlib.Omega.{arith}
use lib.ListN.{length, length-set}
use Rattle.held.proofs.Full.{full_ready}
use Rattle.waiting.proofs.Waiting.{waits_fresh}
use Rattle.steps.proofs.States.{after_state}
use Rattle.waiting_run.proofs.Running.{first_lasts, running_start, running_next, same_length as kept_length, falls, record_room, step_counts, record_small, done_buffer, done_answer}
use Rattle.waiting_run.proofs.run_table.Goals as goal

pub write_version-requires : goal.write_version-requires
write_version-requires c = omega (arith, c.requires.1)

pub first_unsupported-requires : goal.first_unsupported-requires
first_unsupported-requires c =
    let R = c.requires.0 in
    rw c.full_masks-state.ensures (first_lasts R)

pub invariant_of-first : goal.invariant_of-first
invariant_of-first c = record { ready = rw c.full_masks-state.ensures (full_ready c.requires.0) }

pub loop-r-init : goal.loop-r-init
loop-r-init c =
    (rw (c.full_masks-state.ensures, c.write_version.ensures) (running_start _ c.args.b.now c.requires.0 c.requires.1), c.first_unsupported.ensures, waits_fresh _ _)

pub invariant_of-view : goal.invariant_of-view
invariant_of-view c = record { ready = c.loop-r.invariant.0.ready }

pub next_step-requires : goal.next_step-requires
next_step-requires c = let i = c.loop-r.invariant in (i.1, i.2)

pub write_record-at-requires : goal.write_record-at-requires
write_record-at-requires c =
    let w = c.loop-r in
    let e = sym c.next_step.ensures.is ∙ c.in-Some.is in
    (record_room _ _ _ _ _ _ w.invariant.0 _ e, record_small _ _ _ _ _ _ w.invariant.0 _ e)

pub advance-state-requires : goal.advance-state-requires
advance-state-requires c =
    let w = c.loop-r in
    let e = sym c.next_step.ensures.is ∙ c.in-Some.is in
    (w.invariant.1, c.next_step.ensures.waits, e)

pub overflow_add-steps : goal.overflow_add-steps
overflow_add-steps c =
    let w = c.loop-r in
    let e = sym c.next_step.ensures.is ∙ c.in-Some.is in
    omega (arith, step_counts _ _ _ _ _ _ w.invariant.0 _ e, kept_length _ _ _ _ _ _ w.invariant.0, ap length c.write_version.ensures, length-set c.args.b.now 0 1)

pub loop-r-smaller : goal.loop-r-smaller
loop-r-smaller c =
    let w = c.loop-r in
    let e = sym c.next_step.ensures.is ∙ c.in-Some.is in
    rw (c.advance-state.ensures.is, after_state w.invariant.0.ready) (falls _ _ _ _ _ _ w.invariant.0 _ e)

pub loop-r-preserved : goal.loop-r-preserved
loop-r-preserved c =
    let w = c.loop-r in
    let e = sym c.next_step.ensures.is ∙ c.in-Some.is in
    let p = c.write_record-at.ensures in
    let a = c.advance-state.ensures in
    rw (p.0, p.1, a.is, after_state w.invariant.0.ready) (running_next _ _ _ _ _ _ w.invariant.0 _ e, a.words, a.waits)

pub shape_of-b-in-None : goal.shape_of-b-in-None
shape_of-b-in-None c = kept_length _ _ _ _ _ _ c.loop-r.invariant.0 ∙ ap length c.write_version.ensures ∙ simp length-set

pub returns-in-None : goal.returns-in-None
returns-in-None c =
    let w = c.loop-r in
    let e = sym c.next_step.ensures.is ∙ c.in-None.is in
    rw c.end_of-end.ensures (done_answer _ _ _ _ _ _ w.invariant.0 e _, done_buffer _ _ _ _ _ _ w.invariant.0 e _ c.write_version.ensures)
