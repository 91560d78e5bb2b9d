-- The two steps over masks: a value removed, and a variable eliminated. Assumes nothing.
use mathlib.Core.Path.{◌≡◌, refl, sym, ap, ◌∙◌, subst}
use mathlib.Core.Bool.{Bool, true, false, not, ◌&&◌, ◌||◌, and-true}
use mathlib.Core.Logic.{◌≢◌, ⊎_elim}
use mathlib.Core.List.{List}
use Prim.Native.Nat.{ℕ, ◌<◌}
use native.Mathlib.Omega.{arith}
use native.Mathlib.Nat.{lt_of_le_of_lt}
use lib.Dec.{T, eqb}
use lib.Bits.{bit_and, and_le_l}
use lib.ListN.{get_or}
use borrow.Author.Tests.{eq-eqb, ne_eqb}
use Rattle.bounded.specs.Quantifiers.{any_below, lowest}
use Rattle.bounded.specs.Mask.{bit, mask_of, without}
use Rattle.bounded.proofs.Truth.{T_ext, T_of, T_false, and_iff, or_iff, eqb_iff}
use Rattle.bounded.proofs.Quantifiers.{any_iff}
use Rattle.bounded.proofs.Mask.{bit_and_lem, bit_none, bit_mask, bit_without16, bit_without32, mask_is}
use Rattle.bounded.proofs.Members.{lowest_member}
use Rattle.problem.specs.Problem.{remove, eliminate}
use Rattle.problem.specs.Held.{held}
use Rattle.problem.specs.Masks.{state_of, masks_of}
use Rattle.problem.specs.declared.Masks.{Masks}
use Rattle.problem.proofs.Reflect.{turn, eliminate_live}
use Rattle.problem.proofs.Bridge.{put_domain, masks_put}
use Rattle.held.specs.Ready.{Ready, Near}
use Rattle.cover.specs.Words.{others}
use Rattle.steps.specs.Words.{domain_after}
use Rattle.support.specs.Words.{supported_by, partners_of}
use Rattle.held.proofs.Laws.{near_free, live_value, word_lt}

module _ {t : List ℕ} {m : Masks} (R : Ready t m) where
  -- ---- a value removed

  pub remove_masks : (i b : ℕ) → i < 32 → b < 16 → put_domain m i (without 16 (get_or m.domains i 0) b) ≡ masks_of (remove (held t) (state_of m) i b)
  unfolding remove state_of
  remove_masks i b p q =
      masks_put m (remove (held t) (state_of m) i b) i (without 16 (get_or m.domains i 0) b) R.proper p (word_lt R i _ p) (λ k l. refl)
      (λ a l. bit_without16 (get_or m.domains i 0) b a q l ∙ ap (λ (z : Bool). bit (get_or m.domains i 0) a && not (z && eqb a b)) (sym (eq-eqb i i refl)))
      (λ j a d. sym (and-true (bit (get_or m.domains j 0) a)) ∙ ap (λ (z : Bool). bit (get_or m.domains j 0) a && not (z && eqb a b)) (sym (ne_eqb j i d)))

  -- ---- a variable eliminated

  pub active_after : (i : ℕ) → i < 32 → others m.active i ≡ mask_of 32 (eliminate (held t) (state_of m) i).active
  unfolding eliminate state_of
  active_after i p =
      mask_is 32 (others m.active i) (eliminate (held t) (state_of m) i).active (lt_of_le_of_lt (and_le_l m.active _) R.proper.active_lt)
      (λ c k. bit_without32 m.active i c p k)

  -- i's own domain goes empty, and an empty domain stays so
  pub domain_gone : (i j : ℕ) → (eqb j i || eqb (get_or m.domains j 0) 0) ≡ true → 0 ≡ domain_after (held t) (state_of m) i j
  unfolding domain_after state_of
  domain_gone i j h =
      mask_is 16 0 ((eliminate (held t) (state_of m) i).live j) (omega arith)
      (λ c k. bit_none c ∙ sym (T_false _ (λ l. let x = (eliminate_live (held t) (state_of m) R.fits i j c).0 l in
      ⊎_elim
      (λ e. x.1.0 ((eqb_iff j i).0 e))
      (λ e. subst T (ap (λ (y : ℕ). bit y c) ((eqb_iff (get_or m.domains j 0) 0).0 e) ∙ bit_none c) x.0)
      ((or_iff (eqb j i) (eqb (get_or m.domains j 0) 0)).0 (T_of h)))))

  -- the values of j with a support at i stay
  pub domain_word : (i j : ℕ) → j < 32 → j ≢ i → bit_and (get_or m.domains j 0) (partners_of (held t) (get_or m.domains i 0) i j) ≡ domain_after (held t) (state_of m) i j
  unfolding domain_after partners_of state_of
  domain_word i j q d =
      mask_is 16 (bit_and (get_or m.domains j 0) partners) ((eliminate (held t) (state_of m) i).live j) (word_lt R j _ q)
      (λ c k. bit_and_lem (get_or m.domains j 0) partners c ∙ ap (λ (z : Bool). bit (get_or m.domains j 0) c && z) (bit_mask 16 (λ c. any_below 16 (supported_by (held t) (get_or m.domains i 0) i j c)) c k)
      ∙ T_ext (
        λ h. let x = simp (and_iff, any_iff) at h in
            let v = x.1.0 in
            (eliminate_live (held t) (state_of m) R.fits i j c).1 (x.0, (d, (v, x.1.2.0, turn (held t) i v j c x.1.2.1))),
        λ h. let x = (eliminate_live (held t) (state_of m) R.fits i j c).0 h in
            let y = x.1.1 in
            let v = y.0 in
            simp (and_iff, any_iff) (x.0, (v, (live_value R i v y.1).value, (y.1, turn (held t) j c i v y.2))),
      ))
    where
      partners : ℕ
      partners = mask_of 16 (λ c. any_below 16 (supported_by (held t) (get_or m.domains i 0) i j c))

  -- all values of j stay where i has a value and j has no block with it
  pub domain_free : (i j near : ℕ) → Near t i near → i < 32 → j < 32 → j ≢ i → get_or m.domains i 0 ≢ 0 → bit near j ≡ false → get_or m.domains j 0 ≡ domain_after (held t) (state_of m) i j
  unfolding domain_after state_of
  domain_free i j near N p q d some far =
      mask_is 16 (get_or m.domains j 0) ((eliminate (held t) (state_of m) i).live j) (R.proper.domain_lt j q)
      (λ c k. T_ext (
        λ h. (eliminate_live (held t) (state_of m) R.fits i j c).1 (h, (d, (v, v_live, turn (held t) i v j c (near_free R.table i v j near (live_value R i v v_live) N q d far c (R.fits.live_lt j c h))))),
        λ h. ((eliminate_live (held t) (state_of m) R.fits i j c).0 h).0,
      ))
    where
      v : ℕ
      v = lowest 16 (bit (get_or m.domains i 0))

      v_live : T (bit (get_or m.domains i 0) v)
      v_live = (lowest_member 16 (get_or m.domains i 0) (R.proper.domain_lt i p) some).1
