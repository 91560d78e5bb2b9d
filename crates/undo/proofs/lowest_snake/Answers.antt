-- `undo::lowest_snake`: the lowest of those that serve. Assumes nothing.
use mathlib.Core.Path.{◌∙◌}
use Rattle.undo.proofs.Lowest.{passing_values, passing_lowest}
use Rattle.undo.proofs.lowest_snake.Goals as goal

pub snake_servers-requires : goal.snake_servers-requires
snake_servers-requires c = let p = c.requires in (p.0, p.1.0, p.1.1)

pub lowest_of-requires : goal.lowest_of-requires
lowest_of-requires c =
    let p = c.requires in
    (c.args.view.ready.table, rw c.snake_servers.ensures (passing_values c.args.view.ready _ _), p.1.0.variable)

pub returns : goal.returns
returns c =
    let p = c.requires in
    let r = rw c.snake_servers.ensures at c.lowest_of.ensures in
    record { is = r.is ∙ passing_lowest c.args.view.ready _ _; below = r.below }
