-- Whether a variable is active, told by the mask. Assumes nothing.
use mathlib.Core.Path.{◌≡◌, ap, ◌∙◌, subst}
use mathlib.Core.Bool.{Bool, true, false, not}
use mathlib.Core.List.{List}
use Prim.Native.Nat.{ℕ}
use lib.Dec.{T, eqb}
use Rattle.bounded.specs.Quantifiers.{any_below}
use Rattle.bounded.specs.Mask.{bit}
use Rattle.bounded.proofs.Truth.{T_ext, T_not, not_iff, eqb_iff}
use Rattle.bounded.proofs.Quantifiers.{any_iff}
use Rattle.bounded.proofs.Mask.{bit_none, zero_bits}
use Rattle.problem.specs.Held.{held}
use Rattle.problem.specs.Masks.{state_of}
use Rattle.problem.specs.declared.Masks.{Masks}
use Rattle.held.specs.Ready.{Ready}

module _ {t : List ℕ} {m : Masks} (R : Ready t m) where
  -- some variable is active where the mask is not 0
  pub some_active : not (eqb m.active 0) ≡ any_below (held t).n (state_of m).active
  unfolding state_of
  some_active =
      T_ext (
        λ h. let x = (any_iff 32 (bit m.active)).0 (T_true' h) in (any_iff (held t).n _).1 (x.0, R.fits.active_lt x.0 x.2, x.2),
        λ h. let x = (any_iff (held t).n _).0 h in (not_iff (eqb m.active 0)).1 (λ e. T_not (zero_bit x.0 ((eqb_iff m.active 0).0 e)) x.2),
      )
    where
      zero_bit : (i : ℕ) → m.active ≡ 0 → bit m.active i ≡ false
      zero_bit i e = ap (λ (x : ℕ). bit x i) e ∙ bit_none i

      T_true' : T (not (eqb m.active 0)) → T (any_below 32 (bit m.active))
      T_true' h = go (any_below 32 (bit m.active)) (subst (λ (b : Bool). T (not b)) (zero_bits 32 m.active R.proper.active_lt) h)
        where
          go : (b : Bool) → T (not (not b)) → T b
          go true k = tt
          go false k = absurd k
