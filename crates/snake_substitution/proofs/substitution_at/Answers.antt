-- `snake_substitution::substitution_at`. Assumes nothing.
use mathlib.Core.Path.{ap, ◌∙◌}
use Prim.Native.Nat.{ℕ}
use Rattle.cover.specs.Words.{others}
use Rattle.cover.proofs.Laws.{other_apart, others_out}
use Rattle.snake_substitution.proofs.Laws.{unserved_test, substitution_word}
use Rattle.held.proofs.Laws.{domain_values, word_among}
use Rattle.snake_substitution.proofs.substitution_at.Goals as goal

pub row_among-good-requires : goal.row_among-good-requires
row_among-good-requires c =
    let p = c.requires in
    let a = c.args in
    (c.args.view.ready.table, domain_values c.args.view.ready _ p.3, p.1, p.3, other_apart a.rest a.view.state.now.active _ _ p.2 p.0.variable p.4)

pub row_among-bad-requires : goal.row_among-bad-requires
row_among-bad-requires c =
    let p = c.requires in
    let a = c.args in
    (c.args.view.ready.table, domain_values c.args.view.ready _ p.3, p.0, p.3, other_apart a.rest a.view.state.now.active _ _ p.2 p.0.variable p.4)

pub unserved-requires : goal.unserved-requires
unserved-requires c =
    let p = c.requires in
    let a = c.args in (
      rw c.row_among-good.ensures (word_among c.args.view.ready _ _ _),
      rw c.row_among-bad.ensures (word_among c.args.view.ready _ _ _),
      rw c.without.ensures (others_out a.rest _ p.3),
      p.3,
    )

pub returns : goal.returns
returns c =
    let p = c.requires in
    let a = c.args in
    let spared = c.without.ensures ∙ ap (λ (x : ℕ). others x a.k) p.2 in
    rw p.4 (unserved_test c.args.view.ready.fits c.unserved.ensures ∙ (rw (spared, c.row_among-bad.ensures, c.row_among-good.ensures) (substitution_word c.args.view.ready _ _ _ _ p.0.variable p.3)))
