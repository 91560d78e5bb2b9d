-- `pick::pick_sized`: the run is never refused here, and its trace stands at the buffer's front. Assumes nothing.
use mathlib.Core.Path.{ap}
use Rattle.problem.specs.Held.{held}
use Rattle.pick.specs.Pick.{PickResult}
use Rattle.pick.proofs.Job.{not_refused, state_left, trace_room, pick_trace_left, trace_count, picked_done}
use Rattle.pick.proofs.pick_sized.Goals as goal

pub slice_bounds-put_first-end : goal.slice_bounds-put_first-end
slice_bounds-put_first-end c =
    let x = c.run_table-done.ensures in
    trace_room (held c.args.t.now) c.args.trace.now c.requires.1.0 _ x.0 _ _ _ c.in-Ok.is _ x.1

pub slice_bounds-put_first-end-in-Ok : goal.slice_bounds-put_first-end-in-Ok
slice_bounds-put_first-end-in-Ok c =
    let x = c.run_table-done.ensures in
    trace_count (held c.args.t.now) c.args.trace.now c.requires.1.0 _ x.0 _ _ _ c.in-Ok.is _ x.1

pub put_first-plan-requires : goal.put_first-plan-requires
put_first-plan-requires c =
    let x = c.run_table-done.ensures in (
      c.requires.0,
      (
        state_left (held c.args.t.now) c.args.trace.now c.requires.1.0 _ x.0,
        (pick_trace_left (held c.args.t.now) c.args.trace.now c.requires.1.0 _ x.0 _ _ _ c.in-Ok.is _ x.1, c.requires.1.1),
      ),
    )

pub returns-in-Err : goal.returns-in-Err
returns-in-Err c =
    absurd (not_refused (held c.args.t.now) c.args.trace.now c.requires.1.0 _ c.run_table-done.ensures.0 _ c.in-Err.is)

pub returns-in-Ok : goal.returns-in-Ok
returns-in-Ok c =
    let x = c.run_table-done.ensures in
    let f = c.put_first-plan.ensures in
    let q = picked_done (held c.args.t.now) c.args.trace.now c.requires.1.0 _ x.0 _ _ _ c.in-Ok.is _ x.1 c.args.plan.now _ _ f.0 f.1 in
    record {
      answer = ap (λ (y : PickResult). y.answer) q;
      trace = ap (λ (y : PickResult). y.trace) q;
      plan = ap (λ (y : PickResult). y.plan) q;
    }
