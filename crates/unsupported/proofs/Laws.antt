-- The test for a support, over words. Assumes nothing.
use mathlib.Core.Path.{◌≡◌, sym, subst}
use mathlib.Core.Bool.{not}
use mathlib.Core.Logic.{◌↔◌}
use mathlib.Core.List.{List}
use Prim.Native.Nat.{ℕ, ◌^◌, ◌<◌}
use native.Mathlib.Nat.{lt_of_le_of_lt}
use lib.Dec.{T, eqb}
use lib.Bits.{bit_and, and_le_l}
use lib.ListN.{get_or}
use Rattle.bounded.specs.Mask.{bit}
use Rattle.bounded.proofs.Truth.{T_ext, and_iff, not_iff, eqb_iff}
use Rattle.bounded.proofs.Quantifiers.{any_iff}
use Rattle.bounded.proofs.Mask.{zero_bits, bit_and_lem, member_some}
use Rattle.problem.specs.Problem.{all_live}
use Rattle.problem.specs.Held.{row_word, held, RowTable}
use Rattle.problem.specs.Masks.{state_of}
use Rattle.problem.specs.declared.Masks.{Masks}
use Rattle.problem.proofs.Reflect.{all_live_iff}
use Rattle.problem.specs.Sentences.{Allowed}
use Rattle.held.specs.Ready.{Ready}
use Rattle.held.proofs.Laws.{row_says}

-- no value of a set of k supports value b of i, as one comparison
pub unbacked_word : {t : List ℕ} → RowTable t → (domain i b k : ℕ) → domain < 2 ^ 16 → T (eqb (bit_and domain (row_word (held t) i k b)) 0) ↔ ((c : ℕ) → T (bit domain c) → Allowed (held t) i b k c → ⊥)
unbacked_word {t} R domain i b k small = (
  λ h c on al. member_some word c (subst T (sym (bit_and_lem domain (row_word (held t) i k b) c)) ((and_iff (bit domain c) _).1 (on, subst T (sym (row_says R i k b c)) al))) ((eqb_iff word 0).0 h),
  λ h. subst T (sym (zero_bits 16 word (lt_of_le_of_lt (and_le_l domain _) small)))
      (simp (not_iff, any_iff) (λ x. let y = (and_iff (bit domain x.0) _).0 (subst T (bit_and_lem domain (row_word (held t) i k b) x.0) x.2) in h x.0 y.0 (subst T (row_says R i k b x.0) y.1))),
)
  where
    word : ℕ
    word = bit_and domain (row_word (held t) i k b)

module _ {t : List ℕ} {m : Masks} (R : Ready t m) where
  -- unsupported, as one comparison
  pub unsupported_word : (i b k : ℕ) → k < 32 → eqb (bit_and (get_or m.domains k 0) (row_word (held t) i k b)) 0 ≡ all_live (held t) (state_of m) k (λ c. not ((held t).allowed i b k c))
  unfolding state_of
  unsupported_word i b k q =
      let same = unbacked_word R.table (get_or m.domains k 0) i b k (R.proper.domain_lt k q) in
      T_ext (λ h. simp (all_live_iff R.fits, not_iff) (same.0 h), λ h. same.1 (simp (all_live_iff R.fits, not_iff) at h))
