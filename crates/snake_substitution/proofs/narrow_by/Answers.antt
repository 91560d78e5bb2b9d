-- `snake_substitution::narrow_by`. Assumes nothing.
use mathlib.Core.Path.{◌≡◌, sym}
use mathlib.Core.Bool.{false}
use Rattle.bounded.specs.Mask.{bit}
use Rattle.bounded.proofs.Truth.{T_true}
use Rattle.held.proofs.Laws.{domain_values, bit_value}
use Rattle.cover.proofs.Laws.{thirds_out}
use Rattle.snake_substitution.proofs.Goals.{servers_values, others_among, narrowed_idle, narrowed_limits}
use Rattle.snake_substitution.proofs.narrow_by.Goals as goal

pub row_among-set-requires : goal.row_among-set-requires
row_among-set-requires c =
    let p = c.requires in
    (c.args.view.ready.table, domain_values c.args.view.ready _ p.1, bit_value c.args.view.ready _ _ (T_true _ p.5), p.1, λ e. p.4 (sym e))

pub returns-then-not-asks : goal.returns-then-not-asks
returns-then-not-asks c =
    let p = c.requires in
    narrowed_idle c.args.view.ready _ _ _ _ p.2 p.1 p.3 p.4 p.5 c.row_among-set.ensures p.0 (c.asks.ensures (c.if-not-asks.true))

pub without-requires : goal.without-requires
without-requires c = let p = c.requires in (bit_value c.args.view.ready _ _ (T_true _ p.5)).value

pub serving-found-requires : goal.serving-found-requires
serving-found-requires c =
    let p = c.requires in
    let a = c.args in
    let out : bit a.rest a.k ≡ false = rw p.2 (thirds_out a.view.state.now.active a.i a.k p.1 p.3).1 in
    (rw c.without.ensures (others_among c.args.view.ready _ _), bit_value c.args.view.ready _ _ (T_true _ p.5), out, out, p.3)

pub reached-requires : goal.reached-requires
reached-requires c =
    let p = c.requires in
    (c.args.view.ready.table, domain_values c.args.view.ready _ p.1, servers_values c.args.view.ready _ _ _ _ (rw c.without.ensures (others_among c.args.view.ready _ _)) c.serving-found.ensures.is, p.3, p.1, λ e. p.4 (sym e))

pub returns : goal.returns
returns c =
    let p = c.requires in
    let found = c.serving-found.ensures in
    rw c.with.ensures
    (narrowed_limits c.args.view.ready _ _ _ _ p.2 p.1 p.3 p.4 p.5 c.row_among-set.ensures p.0
    c.without.ensures found.is found.shown c.reached.ensures c.keep.ensures)
