-- `cover::first_break`: what breaks the cover is a neighbour. Assumes nothing.
use mathlib.Core.Path.{◌∙◌}
use Rattle.cover.proofs.Laws.{part_out, near_break}
use Rattle.cover.proofs.first_break.Goals as goal

pub break_in-requires : goal.break_in-requires
break_in-requires c = let p = c.requires in let a = c.args in (p.0, p.1, part_out a.rest _ a.i p.2, part_out a.rest _ a.j p.3)

pub returns : goal.returns
returns c = let p = c.requires in c.break_in.ensures ∙ near_break c.args.view.ready _ _ _ _ _ _ p.0 c.neighbours.ensures p.2
