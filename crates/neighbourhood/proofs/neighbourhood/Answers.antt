-- `neighbourhood::neighbourhood`. Assumes nothing.
use Rattle.std.specs.Prelude.{Option, Some, None, ℕ, Bool, true, false, not, is_some}
use mathlib.Core.Path.{◌≡◌, refl, sym, ap, ◌∙◌}
use Rattle.problem.specs.Problem.{neighbourhood, unbroken}
use Rattle.problem.specs.Masks.{state_of}
use Rattle.held.proofs.Laws.{bit_value}
use Rattle.cover.proofs.Laws.{cover_word, break_word}
use Rattle.bounded.proofs.Guard.{guard, guard_met, guard_left}
use Rattle.neighbourhood.proofs.neighbourhood.Goals as goal

-- there is no break where no value is answered
unbroken_none : (x : Option (ℕ × ℕ)) (b : Bool) → is_some x ≡ not b → b ≡ unbroken x
unbroken_none x b e = sym (twice b) ∙ sym (ap not e) ∙ none x
  where
    twice : (b : Bool) → not (not b) ≡ b
    twice true = refl
    twice false = refl

    none : (x : Option (ℕ × ℕ)) → not (is_some x) ≡ unbroken x
    none None = refl
    none (Some (l, c)) = refl

pub first_break-requires : goal.first_break-requires
first_break-requires c =
    let h = guard c.has.result c.has-2.result c.args.a c.args.b c.if-has-a.true in (
      bit_value c.args.view.ready _ _ (sym c.has-2.ensures ∙ h.1),
      bit_value c.args.view.ready _ _ (sym c.has.ensures ∙ h.0),
    )

pub returns-then-has-a : goal.returns-then-has-a
unfolding neighbourhood state_of
returns-then-has-a c =
    let p = c.requires in
    rw (unbroken_none _ _ c.is_none.ensures, c.first_break.ensures, ← break_word c.args.view.ready _ _ _ p.0)
    (cover_word c.args.view.ready _ _ _ _ _ p.0 ∙ sym (guard_met _ _ c.has.ensures c.has-2.ensures c.if-has-a.true))

pub returns-else-has-a : goal.returns-else-has-a
unfolding neighbourhood state_of
returns-else-has-a c = sym (guard_left _ _ c.has.ensures c.has-2.ensures c.if-has-a.false)
