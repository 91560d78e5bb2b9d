-- `undo::undo_snake`: the others repaired, and i set. Assumes nothing.
use Rattle.problem.specs.PutBack.{plan_of}
use Rattle.problem.specs.Held.{held}
use Rattle.problem.specs.Masks.{state_of}
use Rattle.problem.proofs.Trace.{lawful_iff}
use Rattle.held.proofs.Laws.{live_value}
use Rattle.problem.specs.declared.Record.TheVariants.{Snake}
use Rattle.undo.proofs.Undo.{snake_live, snake_left, snake_store}
use native.Mathlib.Omega.{arith}
use Rattle.undo.proofs.undo_snake.Goals as goal

pub repair-requires : goal.repair-requires
repair-requires c = let a = c.args in let p = c.requires in let F = c.args.view.ready.fits in let h = ((lawful_iff (held a.view.table.now) (state_of a.view.state.now) (Snake a.i a.v)).0 p.lawfully).1 in let o = snake_live F a.i a.v h in let y = live_value c.args.view.ready a.i a.v o in ((y, record { long = p.long; live = snake_left F a.i a.v (plan_of a.out.now) p.solved }))

pub overflow_cast-out : goal.overflow_cast-out
overflow_cast-out c = let a = c.args in let p = c.requires in let F = c.args.view.ready.fits in let h = ((lawful_iff (held a.view.table.now) (state_of a.view.state.now) (Snake a.i a.v)).0 p.lawfully).1 in let o = snake_live F a.i a.v h in let y = live_value c.args.view.ready a.i a.v o in let v = y.value in omega arith

pub bounds-out-i : goal.bounds-out-i
bounds-out-i c = let a = c.args in let p = c.requires in let F = c.args.view.ready.fits in let h = ((lawful_iff (held a.view.table.now) (state_of a.view.state.now) (Snake a.i a.v)).0 p.lawfully).1 in let o = snake_live F a.i a.v h in let y = live_value c.args.view.ready a.i a.v o in let n = F.active_lt a.i (F.live_active a.i a.v o) in let e = p.long in omega arith

pub returns : goal.returns
returns c = let a = c.args in let p = c.requires in let F = c.args.view.ready.fits in let h = ((lawful_iff (held a.view.table.now) (state_of a.view.state.now) (Snake a.i a.v)).0 p.lawfully).1 in let o = snake_live F a.i a.v h in let y = live_value c.args.view.ready a.i a.v o in let n = F.active_lt a.i (F.live_active a.i a.v o) in snake_store (held a.view.table.now) (state_of a.view.state.now) a.i a.v a.out.now _ n c.repair.ensures
