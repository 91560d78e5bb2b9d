-- `waiting_search::mend`: each arm by itself. Assumes nothing.
use mathlib.Core.Path.{refl, subst}
use Rattle.waiting_search.specs.Known.{Mendable}
use Rattle.waiting_search.proofs.mend.Goals as goal

pub remove_known-requires : goal.remove_known-requires
remove_known-requires c = let w = subst (Mendable _ c.args.view.state.now) c.in-Unsupported.is c.requires in (w.0, w.1)

pub wake-requires : goal.wake-requires
wake-requires c = let w = subst (Mendable _ c.args.view.state.now) c.in-Snake.is c.requires in w

pub wake-requires-in-Triangle : goal.wake-requires-in-Triangle
wake-requires-in-Triangle c = let w = subst (Mendable _ c.args.view.state.now) c.in-Triangle.is c.requires in w

pub wake_value-requires : goal.wake_value-requires
wake_value-requires c = let w = subst (Mendable _ c.args.view.state.now) c.in-Neighbourhood.is c.requires in (w.0.variable, w.0.value)

pub remove_known-requires-in-SnakeSubstitution : goal.remove_known-requires-in-SnakeSubstitution
remove_known-requires-in-SnakeSubstitution c = let w = subst (Mendable _ c.args.view.state.now) c.in-SnakeSubstitution.is c.requires in (w.0, w.1)

pub returns-in-Unsupported : goal.returns-in-Unsupported
returns-in-Unsupported c = rw c.in-Unsupported.is (c.remove_known.ensures.words, c.remove_known.ensures.wakes)

pub returns-in-Snake : goal.returns-in-Snake
returns-in-Snake c = rw c.in-Snake.is (refl, c.wake.ensures)

pub returns-in-Triangle : goal.returns-in-Triangle
returns-in-Triangle c = rw c.in-Triangle.is (refl, c.wake-in-Triangle.ensures)

pub returns-in-Neighbourhood : goal.returns-in-Neighbourhood
returns-in-Neighbourhood c = rw c.in-Neighbourhood.is (refl, c.wake_value.ensures)

pub returns-in-SnakeSubstitution : goal.returns-in-SnakeSubstitution
returns-in-SnakeSubstitution c = rw c.in-SnakeSubstitution.is (c.remove_known-in-SnakeSubstitution.ensures.words, c.remove_known-in-SnakeSubstitution.ensures.wakes)
