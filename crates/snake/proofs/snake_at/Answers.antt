-- `snake::snake_at`. Assumes nothing.
use Rattle.held.proofs.Laws.{domain_values, word_among, domain_among}
use Rattle.cover.proofs.Laws.{other_apart, others_out}
use Rattle.snake.proofs.Laws.{other_at}
use Rattle.snake.proofs.snake_at.Goals as goal

pub row_among-good-requires : goal.row_among-good-requires
row_among-good-requires c =
    let p = c.requires in
    let a = c.args in
    (c.args.view.ready.table, domain_values c.args.view.ready _ p.2, p.0, p.2, other_apart a.rest a.view.state.now.active _ _ p.1 p.0.variable p.3)

pub unserved-requires : goal.unserved-requires
unserved-requires c =
    let p = c.requires in
    let a = c.args in
    (rw c.row_among-good.ensures (word_among c.args.view.ready _ _ _), domain_among c.args.view.ready _, rw c.without.ensures (others_out a.rest _ p.2), p.2)

pub returns : goal.returns
returns c =
    let p = c.requires in
    let a = c.args in
    other_at c.args.view.ready _ _ _ p.0.variable p.2 _ (other_apart a.rest a.view.state.now.active _ _ p.1 p.0.variable p.3)
    (rw (c.without.ensures, p.1, c.row_among-good.ensures) at c.unserved.ensures)
