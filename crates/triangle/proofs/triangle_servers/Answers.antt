-- `triangle::triangle_servers`. Assumes nothing.
use mathlib.Core.Path.{sym}
use Rattle.held.proofs.Laws.{domain_values, word_among}
use Rattle.cover.proofs.Laws.{thirds_out}
use Rattle.triangle.proofs.Laws.{servers_mask}
use Rattle.triangle.proofs.triangle_servers.Goals as goal

pub row_among-good-requires : goal.row_among-good-requires
row_among-good-requires c =
    let p = c.requires in
    (c.args.view.ready.table, domain_values c.args.view.ready _ p.1, p.0, p.1, λ e. p.2 (sym e))

pub serving-requires : goal.serving-requires
serving-requires c =
    let a = c.args in
    let p = c.requires in
    let o = thirds_out a.view.state.now.active _ _ p.1 p.0.variable in
    (rw c.row_among-good.ensures (word_among c.args.view.ready _ _ _), p.0, rw c.third_set.ensures o.0, rw c.third_set.ensures o.1, p.1)

pub returns : goal.returns
returns c =
    let p = c.requires in
    rw (c.serving.ensures.is, c.third_set.ensures, c.row_among-good.ensures) (servers_mask c.args.view.ready _ _ p.1 p.0.variable _)
