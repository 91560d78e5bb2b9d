-- A choice made, in code: every set is met with the line of the value. Assumes nothing.
use mathlib.Core.Path.{◌≡◌, sym, ap, subst, ◌∙◌}
use mathlib.Core.List.{List}
use mathlib.Core.Logic.{◌⊎◌, inl, inr, ◌≢◌}
use Prim.Native.Nat.{ℕ, ◌<◌, ◌≤◌}
use native.Mathlib.Omega.{arith}
use lib.Bits.{bit_and}
use lib.Dec.{T}
use lib.ListN.{get_or, set, length-set}
use lib.Seq.{get_or-set_same, get_or-set_other, ext_get_or}
use Rattle.bounded.specs.Mask.{bit}
use Rattle.bounded.specs.Table.{tab}
use Rattle.bounded.proofs.Truth.{T_ext, and_iff, eq_dec}
use Rattle.bounded.proofs.Mask.{bit_and_lem, mask_is}
use Rattle.bounded.proofs.Table.{length_tab, get_d_tab}
use Rattle.problem.specs.Held.{held}
use Rattle.problem.specs.Masks.{state_of}
use Rattle.problem.specs.declared.Masks.{Masks}
use Rattle.problem.specs.Sentences.{Live}
use Rattle.held.specs.Ready.{Ready}
use Rattle.held.proofs.Laws.{word_lt}
use Rattle.lines.specs.Lines.{line_start, line_word, Drawn}
use Rattle.any_plan.proofs.Laws.{MetTo}
use Rattle.first_plan.specs.Steps.{choose}
use Rattle.first_plan.proofs.Choices.{chosen, no_word}
use Rattle.first_plan.proofs.Prune.{choose_active, choose_live}

module _ {t : List ℕ} {m : Masks} (R : Ready t m) (i v : ℕ) where
  -- another variable: what is left of its set by the line of v
  module _ {lines : List ℕ} (o : Live (state_of m) i v) (D : Drawn (held t) (state_of m) lines) where
    line_word_lem : (j : ℕ) → j < 32 → j ≢ i → bit_and (get_or m.domains j 0) (line_word lines i v j) ≡ chosen t m i v j
    unfolding state_of
    line_word_lem j l d =
        mask_is 16 _ ((choose (held t) (state_of m) i v).live j) (word_lt R j _ l)
        (λ c k. bit_and_lem (get_or m.domains j 0) (line_word lines i v j) c ∙ T_ext (
          λ h.
              let x = (and_iff (bit (get_or m.domains j 0) c) (bit (line_word lines i v j) c)).0 h in
              (choose_live R.fits i v j c).1 (x.0, (d, subst T (D.says i v j c o x.0 (λ e. d (sym e))) x.1)),
          λ h.
              let x = (choose_live R.fits i v j c).0 h in
              (and_iff (bit (get_or m.domains j 0) c) (bit (line_word lines i v j) c)).1 (x.0, subst T (sym (D.says i v j c o x.0 (λ e. d (sym e)))) x.1.1),
        ))

    pub chosen_all : (n : ℕ) (on : List ℕ) → i < 32 → 32 ≤ n → MetTo lines m.domains (line_start i v) n on → set on i 0 ≡ tab 32 (chosen t m i v)
    chosen_all n on p l M =
        ext_get_or 0 (set on i 0) (tab 32 (chosen t m i v)) (length-set on i 0 ∙ M.long ∙ sym (length_tab 32 (chosen t m i v)))
        (λ j h. let k : j < 32 = omega (arith, length-set on i 0, M.long) in at j k (eq_dec j i) ∙ sym (get_d_tab 32 (chosen t m i v) j 0 k))
      where
        at : (j : ℕ) → j < 32 → (j ≡ i) ⊎ (j ≢ i) → get_or (set on i 0) j 0 ≡ chosen t m i v j
        at j k (inl e) = ap (λ (x : ℕ). get_or (set on i 0) x 0) e ∙ get_or-set_same on i 0 0 (omega (arith, M.long)) ∙ no_word R i v j (λ h. ((choose_active R.fits i v j).0 h).1 e)
        at j k (inr d) = get_or-set_other on i j 0 0 d ∙ M.done j (omega arith) ∙ line_word_lem j k d
