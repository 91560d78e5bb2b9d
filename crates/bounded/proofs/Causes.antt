-- Answers and their causes: an answer is given for its cause and for no other, and a number tells the answer that it stands for. Assumes
-- nothing.
use mathlib.Core.Path.{◌≡◌, sym, ap, ◌∙◌, subst}
use mathlib.Core.Logic.{◌↔◌}
use Prim.Native.Nat.{ℕ}

module _ {A : Type 0} (a : A) (Cause : A → Type 0) where
  -- where each cause has its answer, and some cause speaks
  pub cause_iff : ((x : A) → Cause x → a ≡ x) → (x : A) × Cause x → (x : A) → (a ≡ x) ↔ Cause x
  cause_iff answers some x = (λ e. subst Cause (sym (answers some.0 some.1) ∙ e) some.1, answers x)

  -- where each number of N has one answer, `numbered`, its cause is that answer's
  pub number_iff : ((x : A) → (a ≡ x) ↔ Cause x) → (number : A → ℕ) (numbered : ℕ → A) (N : ℕ → Type 0)
      → ((x : A) → N (number x) → numbered (number x) ≡ x) → (x : A) → N (number x) → (number a ≡ number x) ↔ Cause x
  number_iff told number numbered N back x h = (λ e. (told x).0 (sym (back a (subst N (sym e) h)) ∙ ap numbered e ∙ back x h), λ c. ap number ((told x).1 c))
