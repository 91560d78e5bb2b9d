-- `undo::mended`: only an active variable other than i is read. Assumes nothing.
use mathlib.Core.Path.{sym, ◌∙◌}
use Rattle.bounded.proofs.Truth.{T_of}
use Rattle.problem.specs.Masks.{state_of}
use Rattle.held.proofs.Laws.{live_value}
use Rattle.undo.proofs.Undo.{other_active, mended_out}
use Rattle.undo.proofs.mended.Goals as goal

pub mended_other-requires : goal.mended_other-requires
unfolding state_of
mended_other-requires c = let p = c.requires in let a = c.args in let x = other_active c.has.result a.j a.i c.if-has-j.true in let h = sym c.has.ensures ∙ x.0 in (p.0, (live_value c.args.view.ready a.j a.w (p.1.1 (T_of h) x.1), (h, x.1)))

pub returns-else-has-j : goal.returns-else-has-j
unfolding state_of
returns-else-has-j c = mended_out _ _ _ _ _ _ c.has.ensures c.if-has-j.false
