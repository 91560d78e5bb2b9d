-- The lowest member of a set of values, and of those in a domain that pass a test. Assumes nothing.
use mathlib.Core.Path.{◌≡◌, sym, ap, fun_ext, subst}
use mathlib.Core.Bool.{Bool, ◌&&◌}
use mathlib.Core.Logic.{◌≢◌}
use mathlib.Core.List.{List}
use Prim.Native.Nat.{ℕ}
use native.Mathlib.Omega.{arith}
use lib.Dec.{T}
use Rattle.bounded.specs.Quantifiers.{lowest}
use Rattle.bounded.specs.Mask.{bit, mask_of}
use Rattle.bounded.proofs.Truth.{and_iff}
use Rattle.bounded.proofs.Quantifiers.{lowest_least, lowest_unique}
use Rattle.bounded.proofs.Mask.{member_some, mask_lt, bit_mask_all}
use Rattle.bounded.proofs.Members.{lowest_member}
use Rattle.problem.specs.Problem.{lowest_live}
use Rattle.problem.specs.Held.{held, RowTable}
use Rattle.problem.specs.Masks.{state_of}
use Rattle.problem.specs.declared.Masks.{Masks}
use Rattle.problem.proofs.HeldTable.{held_narrow}
use Rattle.held.specs.Ready.{Ready, Values}
use Rattle.held.proofs.Laws.{live_value}
use Rattle.buffers.specs.Bytes.{Is}

-- the lowest member of a set of values, or the size where it has none
module _ {t : List ℕ} (R : RowTable t) (i set : ℕ) (own : Values t i set) where
  pub lowest_none : set ≡ 0 → Is (lowest ((held t).size i) (bit set)) 17 ((held t).size i)
  lowest_none e =
      let n = held_narrow R i in
      record { is = sym (lowest_unique ((held t).size i) (bit set) ((held t).size i) (omega arith) (λ k l h. member_some set k h e) (λ l. absurd (omega arith))); below = omega arith }

  pub lowest_some : set ≢ 0 → Is (lowest ((held t).size i) (bit set)) 17 (lowest 16 (bit set))
  lowest_some d =
      let m = lowest_member 16 set own.small d in
      let l = own.within _ m.1 in
      record { is = sym (lowest_unique ((held t).size i) (bit set) (lowest 16 (bit set)) (omega arith) (lowest_least 16 (bit set)) (λ h. m.1)); below = omega (arith, m.0) }

module _ {t : List ℕ} {m : Masks} (R : Ready t m) (i : ℕ) (f : ℕ → Bool) where
  -- the values in the domain of i that pass
  abbrev passing : ℕ
  passing = mask_of 16 (λ c. (state_of m).live i c && f c)

  bit_passing : (c : ℕ) → bit passing c ≡ ((state_of m).live i c && f c)
  bit_passing = bit_mask_all 16 (λ c. (state_of m).live i c && f c) (λ c h. (live_value R i c ((and_iff ((state_of m).live i c) (f c)).0 h).0).value)

  pub passing_values : Values t i passing
  passing_values = record { small = mask_lt 16 _; within = λ c h. R.fits.live_lt i c ((and_iff ((state_of m).live i c) (f c)).0 (subst T (bit_passing c) h)).0 }

  pub passing_lowest : lowest ((held t).size i) (bit passing) ≡ lowest_live (held t) (state_of m) i f
  unfolding lowest_live
  passing_lowest = ap (lowest ((held t).size i)) (fun_ext bit_passing)
