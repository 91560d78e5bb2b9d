-- `snake::snake_servers`. Assumes nothing.
use mathlib.Core.Path.{◌∙◌}
use Rattle.held.proofs.Laws.{domain_values, word_among}
use Rattle.cover.proofs.Laws.{thirds_out}
use Rattle.snake.proofs.Laws.{servers_word}
use Rattle.snake.proofs.snake_servers.Goals as goal

pub row_among-good-requires : goal.row_among-good-requires
row_among-good-requires c = let p = c.requires in (c.args.view.ready.table, domain_values c.args.view.ready _ p.1.variable, p.0, p.1.variable, p.2)

pub serving-requires : goal.serving-requires
serving-requires c =
    let p = c.requires in
    let o = (thirds_out c.args.view.state.now.active _ _ p.0.variable p.1.variable).1 in
    (rw c.row_among-good.ensures (word_among c.args.view.ready _ _ _), p.1, rw c.third_set.ensures o, rw c.third_set.ensures o, p.1.variable)

pub returns : goal.returns
returns c =
    let p = c.requires in
    c.serving.ensures.is ∙ rw (c.third_set.ensures, c.row_among-good.ensures) (servers_word c.args.view.ready _ _ _ p.0.variable p.1.variable _)
