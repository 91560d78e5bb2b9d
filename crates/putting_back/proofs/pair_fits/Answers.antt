-- `putting_back::pair_fits`: active variables whose entries fit have values of the problem. Assumes nothing.
use mathlib.Core.Path.{sym, ◌∙◌}
use Rattle.bounded.proofs.Truth.{T_of}
use Rattle.problem.specs.Masks.{state_of}
use Rattle.held.proofs.Laws.{live_value}
use Rattle.bounded.proofs.Guard.{guard, met, unmet}
use Rattle.putting_back.proofs.Plan.{entry_iff}
use Rattle.putting_back.proofs.pair_fits.Goals as goal

pub pair_allowed-requires : goal.pair_allowed-requires
unfolding state_of
pair_allowed-requires c = let a = c.args in let p = c.requires in let g = guard c.has.result c.has-2.result a.i a.j c.if-has-i.true in (c.args.view.ready.table, live_value c.args.view.ready a.i _ (((entry_iff _ a.i _).0 (p.0.each a.i p.1.0)).0 (T_of (sym c.has.ensures ∙ g.0))), live_value c.args.view.ready a.j _ (((entry_iff _ a.j _).0 (p.0.each a.j p.1.1)).0 (T_of (sym c.has-2.ensures ∙ g.1))))

pub returns-then-has-i : goal.returns-then-has-i
unfolding state_of
returns-then-has-i c = c.pair_allowed.ensures ∙ met _ _ c.has.ensures c.has-2.ensures c.if-has-i.true

pub returns-else-has-i : goal.returns-else-has-i
unfolding state_of
returns-else-has-i c = unmet _ _ c.has.ensures c.has-2.ensures c.if-has-i.false
