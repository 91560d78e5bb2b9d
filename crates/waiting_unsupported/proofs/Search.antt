-- The search for an unsupported value by the words. Assumes nothing.
use Rattle.std.specs.Prelude.{Option, Some, None}
use mathlib.Core.Path.{◌≡◌, refl, sym, ◌∙◌, subst}
use mathlib.Core.Bool.{true, false}
use mathlib.Core.Logic.{◌≢◌, ◌↔◌}
use mathlib.Core.List.{List}
use Prim.Native.Nat.{ℕ, ◌<◌}
use native.Mathlib.Nat.{lt_of_le_of_lt}
use native.Mathlib.Omega.{arith}
use lib.Dec.{T}
use lib.Bits.{bit_and, and_le_r}
use lib.ListN.{get_or}
use Rattle.bounded.specs.Quantifiers.{lowest}
use Rattle.bounded.specs.Mask.{bit}
use Rattle.bounded.proofs.Truth.{T_of, and_iff}
use Rattle.bounded.proofs.Quantifiers.{lowest_least}
use Rattle.bounded.proofs.Mask.{bit_and_lem, member_some}
use Rattle.bounded.proofs.Members.{lowest_member}
use Rattle.problem.specs.declared.Record.{Record}
use Rattle.problem.specs.Problem.{Problem, State, none_empty, unsupported}
use Rattle.problem.specs.Held.{held}
use Rattle.problem.specs.Masks.{state_of}
use Rattle.problem.specs.Run.{step_if, first}
use Rattle.problem.specs.declared.Masks.{Masks}
use Rattle.problem.specs.declared.Record.TheVariants.{Unsupported as step}
use Rattle.problem.proofs.Reflect.{unsupported_iff}
use Rattle.problem.specs.Sentences.{Unsupported}
use Rattle.problem.proofs.Run.{first_each, step_if_none}
use Rattle.problem.proofs.Search.{first_off, first_at, outside}
use Rattle.held.specs.Ready.{Ready}
use Rattle.held.proofs.Laws.{active_32}
use Rattle.held.proofs.Bounds.{not_live}
use Rattle.search_order.specs.Lowest.{step_at, step_from}
use Rattle.waiting_unsupported.specs.Words.{AllUnsupported}

module _ {t : List ℕ} {m : Masks} (R : Ready t m) where
  abbrev P : Problem
  P = held t

  abbrev s : State
  s = state_of m

  -- a value with a support everywhere makes no step
  supported_nothing : (i b : ℕ) → ((k : ℕ) → Unsupported P s i b k → ⊥) → step_at P s 1 i b ≡ None
  unfolding step_at
  supported_nothing i b h = first_off 32 _ (λ k l. outside _ _ (λ x. h k ((unsupported_iff R.fits i b k).0 x)))

  pub value_off : (i b : ℕ) → bit (get_or m.domains i 0) b ≡ false → step_at P s 1 i b ≡ None
  value_off i b e = supported_nothing i b (λ k u. not_live R i b e u.0)

  module _ (i : ℕ) (l : i < 32) (words : List ℕ) (B : AllUnsupported P s words) (lasts : none_empty P s ≡ true) where
    -- the unsupported values that are in the domain
    abbrev pub known : ℕ
    known = bit_and (get_or words i 0) (get_or m.domains i 0)

    known_iff : (b : ℕ) → T (bit known b) ↔ ((k : ℕ) × Unsupported P s i b k)
    unfolding state_of
    known_iff b = (
      λ h. let y = simp (bit_and_lem, and_iff) at h in (B.exact (T_of lasts) i b y.1).0 y.0,
      λ u. simp (bit_and_lem, and_iff) ((B.exact (T_of lasts) i b u.1.0).1 u, u.1.0),
    )

    not_known : (b : ℕ) → (T (bit known b) → ⊥) → step_at P s 1 i b ≡ None
    not_known b h = supported_nothing i b (λ k u. h ((known_iff b).1 (k, u)))

    pub known_none : known ≡ 0 → step_from P s 1 i ≡ None
    unfolding step_from
    known_none e = first_off 16 _ (λ b k. not_known b (λ h. member_some known b h e))

    pub known_lowest : (b : ℕ) → known ≢ 0 → b ≡ lowest 16 (bit known) → (b < 16) × (step_at P s 1 i b ≡ step_from P s 1 i)
    unfolding step_from step_at
    known_lowest b d e = (p, go (step_at P s 1 i b) refl)
      where
        here : (lowest 16 (bit known) < 16) × T (bit known (lowest 16 (bit known)))
        here = lowest_member 16 known (lt_of_le_of_lt (and_le_r (get_or words i 0) _) (R.proper.domain_lt i l)) d

        p : b < 16
        p = omega (arith, here.0)

        go : (y : Option Record) → step_at P s 1 i b ≡ y → step_at P s 1 i b ≡ first 16 (step_at P s 1 i)
        go (Some r) q = q ∙ sym (first_at 16 (step_at P s 1 i) b r p (λ c k. not_known c (λ h. lowest_least 16 (bit known) c (omega arith) h)) q)
        go None q =
            let y = (known_iff b).0 (subst (λ (z : ℕ). T (bit known z)) (sym e) here.1) in
            absurd (step_if_none _ (step i b y.0) (first_each 32 (λ k. step_if (unsupported P s i b k) (step i b k)) q y.0 (active_32 R y.0 y.1.1)) ((unsupported_iff R.fits i b y.0).1 y.1))
