-- `unsupported::unsupported`. Assumes nothing.
use mathlib.Core.Path.{sym, ◌∙◌}
use Rattle.problem.specs.Problem.{unsupported}
use Rattle.problem.specs.Masks.{state_of}
use Rattle.held.proofs.Laws.{bit_value}
use Rattle.bounded.proofs.Guard.{guard, guard_met, guard_left}
use Rattle.unsupported.proofs.unsupported.Goals as goal

pub unsupported_at-requires : goal.unsupported_at-requires
unsupported_at-requires c =
    let p = c.requires in
    let h = guard c.has.result c.has-2.result c.args.k c.args.i c.if-has-k.true in
    (bit_value c.args.view.ready _ _ (sym c.has.ensures ∙ h.0), p.2, h.2)

pub returns-then-has-k : goal.returns-then-has-k
unfolding unsupported state_of
returns-then-has-k c = c.unsupported_at.ensures ∙ sym (guard_met _ _ c.has.ensures c.has-2.ensures c.if-has-k.true)

pub returns-else-has-k : goal.returns-else-has-k
unfolding unsupported state_of
returns-else-has-k c = sym (guard_left _ _ c.has.ensures c.has-2.ensures c.if-has-k.false)
