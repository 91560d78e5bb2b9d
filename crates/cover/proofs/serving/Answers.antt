-- `cover::serving`: at a variable that is no neighbour each value covers. Assumes nothing.
use mathlib.Core.Path.{◌∙◌}
use Rattle.cover.proofs.Laws.{part_out}
use Rattle.cover.proofs.Servers.{near_servers, part_broken}
use Rattle.cover.proofs.serving.Goals as goal

pub serving_in-requires : goal.serving_in-requires
serving_in-requires c = let p = c.requires in let a = c.args in (p.0, p.1, part_out a.rest _ a.i p.2, part_out a.rest _ a.j p.3, p.4)

pub returns : goal.returns
returns c =
    let p = c.requires in
    let found = c.serving_in.ensures in
    record { is = found.is ∙ near_servers c.args.view.ready _ _ _ _ _ _ p.0 c.neighbours.ensures p.2; shown = part_broken c.args.rest _ found.shown }
