-- `undo::undo_record`: each arm undoes its kind. Assumes nothing.
use mathlib.Core.Path.{subst}
use Rattle.problem.specs.PutBack.{undo}
use Rattle.problem.specs.declared.Record.{Record}
use Rattle.undo.specs.Undone.{Undoable}
use Rattle.undo.proofs.Undo.{tab_back}
use Rattle.undo.proofs.undo_record.Goals as goal

pub undo_snake-requires : goal.undo_snake-requires
undo_snake-requires c = let p = c.requires in let a = c.args in (subst (λ (x : Record). Undoable a.view.table.now a.view.state.now x a.out.now) c.in-Snake.is p)

pub undo_triangle-requires : goal.undo_triangle-requires
undo_triangle-requires c = let p = c.requires in let a = c.args in (subst (λ (x : Record). Undoable a.view.table.now a.view.state.now x a.out.now) c.in-Triangle.is p)

pub returns-in-Unsupported : goal.returns-in-Unsupported
unfolding undo
returns-in-Unsupported c = rw c.in-Unsupported.is (tab_back _ _ c.requires.long)

pub returns-in-Snake : goal.returns-in-Snake
returns-in-Snake c = rw c.in-Snake.is c.undo_snake.ensures

pub returns-in-Triangle : goal.returns-in-Triangle
returns-in-Triangle c = rw c.in-Triangle.is c.undo_triangle.ensures

pub returns-in-Neighbourhood : goal.returns-in-Neighbourhood
unfolding undo
returns-in-Neighbourhood c = rw c.in-Neighbourhood.is (tab_back _ _ c.requires.long)

pub returns-in-SnakeSubstitution : goal.returns-in-SnakeSubstitution
unfolding undo
returns-in-SnakeSubstitution c = rw c.in-SnakeSubstitution.is (tab_back _ _ c.requires.long)
