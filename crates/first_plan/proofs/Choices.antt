-- A choice made, in code: the sets of the variables passed are those of the state with that choice. Assumes nothing.
use mathlib.Core.Path.{◌≡◌, sym, ap, ◌∙◌}
use mathlib.Core.Bool.{false}
use mathlib.Core.List.{List}
use mathlib.Core.Logic.{◌⊎◌, inl, inr, ◌≢◌}
use Prim.Native.Nat.{ℕ, ◌<◌}
use native.Mathlib.Nat.{lt_of_le_of_lt}
use native.Mathlib.Omega.{arith}
use lib.Bits.{bit_and, and_le_l}
use lib.Dec.{T}
use lib.ListN.{length, get_or, set, length-set}
use lib.Seq.{get_or-set_same, get_or-set_other, ext_get_or}
use Rattle.bounded.specs.Mask.{bit, mask_of, without}
use Rattle.bounded.specs.Table.{tab}
use Rattle.bounded.proofs.Truth.{T_not, T_false, T_ext, eq_dec}
use Rattle.bounded.proofs.Mask.{bit_none, bit_without32, mask_is}
use Rattle.bounded.proofs.Members.{without_gone}
use Rattle.bounded.proofs.Table.{length_tab, get_d_tab}
use Rattle.problem.specs.Held.{held, row_word}
use Rattle.problem.specs.Masks.{state_of}
use Rattle.problem.specs.declared.Masks.{Masks}
use Rattle.problem.specs.Sentences.{Active}
use Rattle.held.specs.Ready.{Ready}
use Rattle.held.proofs.Laws.{word_iff, word_lt}
use Rattle.first_plan.specs.Steps.{choose}
use Rattle.first_plan.proofs.Prune.{choose_active, choose_live}

-- the set of k in the state with the choice made
abbrev pub chosen : List ℕ → Masks → (i v k : ℕ) → ℕ
chosen t m i v k = mask_of 16 ((choose (held t) (state_of m) i v).live k)

-- the sets of the variables but those of `rest` are so
pub record Passed (t : List ℕ) (m : Masks) (i v rest : ℕ) (on : List ℕ) : Type 0 where
  pub long : length on ≡ 32
  pub done : (k : ℕ) → k < 32 → (T (bit rest k) → ⊥) → get_or on k 0 ≡ chosen t m i v k

module _ {t : List ℕ} {m : Masks} (R : Ready t m) (i v : ℕ) where
  word : (k : ℕ) → k < 32 → k ≢ i → bit_and (get_or m.domains k 0) (row_word (held t) i k v) ≡ chosen t m i v k
  word k l d =
      mask_is 16 _ ((choose (held t) (state_of m) i v).live k) (word_lt R k _ l)
      (λ c j. T_ext (
        λ h. let x = (word_iff R i v k c).0 h in (choose_live R.fits i v k c).1 (x.0, (d, x.1)),
        λ h. let x = (choose_live R.fits i v k c).0 h in (word_iff R i v k c).1 (x.0, x.1.1),
      ))

  -- i itself, and a variable that is not active
  pub no_word : (k : ℕ) → (Active (choose (held t) (state_of m) i v) k → ⊥) → 0 ≡ chosen t m i v k
  no_word k n =
      mask_is 16 0 ((choose (held t) (state_of m) i v).live k) (omega arith)
      (λ c j. bit_none c ∙ sym (T_false _ (λ h. let x = (choose_live R.fits i v k c).0 h in n ((choose_active R.fits i v k).1 (R.fits.live_active k c x.0, x.1.0)))))

  no_set : (k : ℕ) → k < 32 → (Active (state_of m) k → ⊥) → get_or m.domains k 0 ≡ 0
  unfolding state_of
  no_set k l n =
      mask_is 16 (get_or m.domains k 0) (λ c. false) (R.proper.domain_lt k l) (λ c j. T_false _ (λ h. n (R.fits.live_active k c h)))
      ∙ sym (mask_is 16 0 (λ c. false) (omega arith) (λ c j. bit_none c))

  pub choose_rest : i < 32 → without 32 m.active i ≡ mask_of 32 (choose (held t) (state_of m) i v).active
  unfolding choose state_of
  choose_rest p =
      mask_is 32 (without 32 m.active i) (choose (held t) (state_of m) i v).active (lt_of_le_of_lt (and_le_l m.active _) R.proper.active_lt)
      (λ c k. bit_without32 m.active i c p k)

  -- ---- the loop

  pub passed_none : i < 32 → Passed t m i v (without 32 m.active i) (set m.domains i 0)
  unfolding state_of
  passed_none p = record { long = length-set m.domains i 0 ∙ R.proper.length_is; done = done }
    where
      done : (k : ℕ) → k < 32 → (T (bit (without 32 m.active i) k) → ⊥) → get_or (set m.domains i 0) k 0 ≡ chosen t m i v k
      done k l n = go (eq_dec k i)
        where
          go : (k ≡ i) ⊎ (k ≢ i) → get_or (set m.domains i 0) k 0 ≡ chosen t m i v k
          go (inl e) = ap (λ (x : ℕ). get_or (set m.domains i 0) x 0) e ∙ get_or-set_same m.domains i 0 0 (omega (arith, R.proper.length_is)) ∙ no_word k (λ h. ((choose_active R.fits i v k).0 h).1 e)
          go (inr d) =
              let off : Active (state_of m) k → ⊥ = λ h. d (without_gone 32 bit_without32 m.active i p k l h n) in
              get_or-set_other m.domains i k 0 0 d ∙ no_set k l off ∙ no_word k (λ h. off ((choose_active R.fits i v k).0 h).0)

  pub passed_more : (rest j : ℕ) (on : List ℕ) → j < 32 → j ≢ i → Passed t m i v rest on → Passed t m i v (without 32 rest j) (set on j (bit_and (get_or m.domains j 0) (row_word (held t) i j v)))
  passed_more rest j on p d W = record { long = length-set on j x ∙ W.long; done = done }
    where
      x : ℕ
      x = bit_and (get_or m.domains j 0) (row_word (held t) i j v)

      done : (k : ℕ) → k < 32 → (T (bit (without 32 rest j) k) → ⊥) → get_or (set on j x) k 0 ≡ chosen t m i v k
      done k l n = go (eq_dec k j)
        where
          go : (k ≡ j) ⊎ (k ≢ j) → get_or (set on j x) k 0 ≡ chosen t m i v k
          go (inl e) =
              ap (λ (y : ℕ). get_or (set on j x) y 0) e ∙ get_or-set_same on j x 0 (omega (arith, W.long))
              ∙ word j p d ∙ ap (chosen t m i v) (sym e)
          go (inr f) = get_or-set_other on j k x 0 f ∙ W.done k l (λ h. f (without_gone 32 bit_without32 rest j p k l h n))

  pub passed_all : (rest : ℕ) (on : List ℕ) → rest ≡ 0 → Passed t m i v rest on → on ≡ tab 32 (chosen t m i v)
  passed_all rest on e W =
      ext_get_or 0 on (tab 32 (chosen t m i v)) (W.long ∙ sym (length_tab 32 (chosen t m i v)))
      (λ k l. W.done k (omega (arith, W.long)) (λ h. T_not (ap (λ (x : ℕ). bit x k) e ∙ bit_none k) h) ∙ sym (get_d_tab 32 (chosen t m i v) k 0 (omega (arith, W.long))))
