-- `undo::undo_triangle`: i gets the lowest value that serves for j's. Assumes nothing.
use Rattle.problem.specs.PutBack.{plan_of}
use Rattle.problem.specs.Held.{held}
use Rattle.problem.specs.Masks.{state_of}
use Rattle.problem.proofs.Trace.{lawful_iff}
use Rattle.held.proofs.Laws.{live_value, active_32}
use Rattle.problem.specs.declared.Record.TheVariants.{Triangle}
use Rattle.undo.proofs.Undo.{triangle_left, triangle_store}
use native.Mathlib.Omega.{arith}
use Rattle.undo.proofs.undo_triangle.Goals as goal

pub bounds-out-j : goal.bounds-out-j
bounds-out-j c = let a = c.args in let p = c.requires in let F = c.args.view.ready.fits in let x = triangle_left F a.i a.j (plan_of a.out.now) ((lawful_iff (held a.view.table.now) (state_of a.view.state.now) (Triangle a.i a.j)).0 p.lawfully).1 p.solved in let e = p.long in let n = F.active_lt a.j x.1.1.0 in omega arith

pub lowest_triangle-requires : goal.lowest_triangle-requires
lowest_triangle-requires c = let a = c.args in let p = c.requires in let F = c.args.view.ready.fits in let x = triangle_left F a.i a.j (plan_of a.out.now) ((lawful_iff (held a.view.table.now) (state_of a.view.state.now) (Triangle a.i a.j)).0 p.lawfully).1 p.solved in let e = p.long in ((live_value c.args.view.ready a.j _ x.0, (active_32 c.args.view.ready a.i x.1.0, x.1.1.1)))

pub overflow_cast-out-2 : goal.overflow_cast-out-2
overflow_cast-out-2 c = let h = c.lowest_triangle.ensures.below in omega arith

pub bounds-out-i : goal.bounds-out-i
bounds-out-i c = let a = c.args in let p = c.requires in let F = c.args.view.ready.fits in let x = triangle_left F a.i a.j (plan_of a.out.now) ((lawful_iff (held a.view.table.now) (state_of a.view.state.now) (Triangle a.i a.j)).0 p.lawfully).1 p.solved in let e = p.long in let n = F.active_lt a.i x.1.0 in omega arith

pub returns : goal.returns
returns c = let a = c.args in let p = c.requires in let F = c.args.view.ready.fits in let x = triangle_left F a.i a.j (plan_of a.out.now) ((lawful_iff (held a.view.table.now) (state_of a.view.state.now) (Triangle a.i a.j)).0 p.lawfully).1 p.solved in let e = p.long in let n = F.active_lt a.i x.1.0 in triangle_store (held a.view.table.now) (state_of a.view.state.now) a.i a.j _ a.out.now e n c.lowest_triangle.ensures.is
