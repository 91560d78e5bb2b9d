-- What the search in code concludes at the next variable, once it is settled whether a plan goes on from its lowest value. Assumes nothing.
use mathlib.Core.Path.{◌≡◌, refl, sym, ap, subst, ◌∙◌, fun_ext}
use mathlib.Core.List.{List}
use mathlib.Core.Logic.{◌≢◌}
use Prim.Native.Nat.{ℕ, ◌≤◌, ◌<◌}
use native.Mathlib.Omega.{arith}
use lib.Dec.{T}
use lib.ListN.{length, get_or, set}
use Rattle.std.specs.Prelude.{Option, None, Some}
use Rattle.bounded.specs.Quantifiers.{lowest}
use Rattle.bounded.specs.Mask.{bit}
use Rattle.bounded.proofs.Truth.{T_not}
use Rattle.bounded.proofs.Quantifiers.{lowest_least, lowest_passes}
use Rattle.bounded.proofs.Mask.{bit_none, member_some}
use Rattle.bounded.proofs.Members.{lowest_member, part_le, part_lt}
use Rattle.problem.specs.Problem.{State, remove}
use Rattle.problem.specs.Held.{held}
use Rattle.problem.specs.Masks.{state_of, masks_of}
use Rattle.problem.specs.declared.Masks.{Masks}
use Rattle.problem.proofs.Reflect.{remove_live, remove_fits}
use Rattle.problem.specs.Sentences.{Active, Live}
use Rattle.problem.proofs.HeldTable.{held_few}
use Rattle.held.specs.Ready.{Ready}
use Rattle.held.proofs.After.{state_held, ready_held}
use Rattle.lines.specs.Lines.{Drawn}
use Rattle.lines.proofs.Laws.{drawn_less}
use Rattle.any_plan.specs.Question.{lowest_of}
use Rattle.first_plan.specs.First.{found, first_plan}
use Rattle.first_plan.specs.Steps.{choose, NextChoice}
use Rattle.asked_plan.specs.Steps.{Knows, GoesOn}
use Rattle.first_plan.specs.declared.Found.{Found}
use Rattle.first_plan.proofs.Prune.{remove_keeps, first_refuted, first_done, first_taken, choose_active}
use Rattle.asked_plan.proofs.Questions.{next_says, next_ready, next_keeps}

-- ---- the ends

module _ {t : List ℕ} {m : Masks} (R : Ready t m) where
  -- no variable is active
  pub none_active : m.active ≡ 0 → (w : List ℕ) → found w ≡ first_plan (held t) (state_of m) w
  unfolding state_of
  none_active e w = sym (first_done R.fits (λ j h. T_not (ap (λ (x : ℕ). bit x j) e ∙ bit_none j) h) w)

-- ---- the next variable

module _ {t : List ℕ} {m : Masks} (R : Ready t m) (i v : ℕ) (X : NextChoice m i) where
  next_active : Active (state_of m) i
  unfolding state_of
  next_active = subst (λ (j : ℕ). T (bit m.active j)) (sym X.lowest) (lowest_passes 32 (bit m.active) (omega (arith, X.lowest, X.variable)))

  low : (j : ℕ) → j < i → Active (state_of m) j → ⊥
  unfolding state_of
  low j l h = lowest_least 32 (bit m.active) j (omega (arith, X.lowest)) h

  -- its lowest value: there is one, since the known plan has a value there
  module _ {known : List ℕ} (K : Knows (held t) (state_of m) known) (e : v ≡ lowest 16 (bit (get_or m.domains i 0))) where
    member : (lowest 16 (bit (get_or m.domains i 0)) < 16) × T (bit (get_or m.domains i 0) (lowest 16 (bit (get_or m.domains i 0))))
    unfolding state_of
    member = lowest_member 16 (get_or m.domains i 0) (R.proper.domain_lt i X.variable) (member_some (get_or m.domains i 0) (lowest_of known i) (K.plan.live i next_active))

    pub value_lt : v < 16
    value_lt = omega (arith, member.0)

    pub value_live : Live (state_of m) i v
    unfolding state_of
    value_live = subst (λ (c : ℕ). T (bit (get_or m.domains i 0) c)) (sym e) member.1

    least : (u : ℕ) → u < v → Live (state_of m) i u → ⊥
    unfolding state_of
    least u l h = lowest_least 16 (bit (get_or m.domains i 0)) u (omega arith) h

    -- ---- a plan goes on from it

    module _ {next : Masks} (is : next ≡ masks_of (choose (held t) (state_of m) i v)) where
      says : state_of next ≡ choose (held t) (state_of m) i v
      says = next_says R i v value_live is

      -- a variable fewer is active
      pub fewer : next.active < m.active
      unfolding state_of
      fewer = part_lt 32 next.active m.active i (next_ready R i v value_live is).proper.active_lt (λ c k h. (kept c h).0) next_active (λ h. (kept i h).1 refl)
        where
          kept : (c : ℕ) → T (bit next.active c) → Active (state_of m) c × (c ≢ i)
          kept c h = (choose_active R.fits i v c).0 (subst T (ap (λ (s : State). s.active c) says) h)

      pub taken_known : {r : Option Masks} {after : List ℕ} → GoesOn (held t) (state_of m) i v r after → r ≡ Some next → Knows (held t) (state_of next) after
      taken_known {after = after} G y = record { long = G.knows.long; plan = next_keeps R i v value_live is (lowest_of after) (G.yes next y).1 G.knows.plan }

      -- the first plan with it is the first
      pub taken : (w x : List ℕ) → length w ≡ 32 → found x ≡ first_plan (held t) (state_of next) (set w i v) → found x ≡ first_plan (held t) (state_of m) w
      taken w x long a =
          let b : found x ≡ first_plan (held t) (choose (held t) (state_of m) i v) (set w i v) = subst (λ (s : State). found x ≡ first_plan (held t) s (set w i v)) says a in
          b ∙ sym (first_taken R.fits i v value_live low w (omega (arith, held_few t)) least (ap (λ (f : Found). f.ok) (sym b)))

    -- ---- none does: the values after it

    module _ {rest : Masks} (is : rest ≡ masks_of (remove (held t) (state_of m) i v)) where
      left_says : state_of rest ≡ remove (held t) (state_of m) i v
      left_says = ap state_of is ∙ state_held R.table (remove_fits (held t) (state_of m) R.fits i v)

      pub left_ready : Ready t rest
      left_ready = subst (Ready t) (sym is) (ready_held R.table (remove_fits (held t) (state_of m) R.fits i v))

      part : (j c : ℕ) → Live (state_of rest) j c → Live (state_of m) j c × ((j ≡ i × c ≡ v) → ⊥)
      part j c h = (remove_live (held t) (state_of m) i v j c).0 (subst T (ap (λ (s : State). s.live j c) left_says) h)

      same : (j : ℕ) → (state_of rest).active j ≡ (state_of m).active j
      unfolding remove
      same j = ap (λ (s : State). s.active j) left_says

      pub left_drawn : {lines : List ℕ} → Drawn (held t) (state_of m) lines → Drawn (held t) (state_of rest) lines
      left_drawn D = drawn_less (λ j c h. (part j c h).0) D

      pub no_more : rest.active ≤ m.active
      unfolding state_of
      no_more = part_le 32 rest.active m.active left_ready.proper.active_lt (λ c k h. subst T (same c) h)

      pub less : get_or rest.domains i 0 < get_or m.domains i 0
      unfolding state_of
      less = part_lt 16 (get_or rest.domains i 0) (get_or m.domains i 0) v (left_ready.proper.domain_lt i X.variable) (λ c k h. (part i c h).0) value_live (λ h. (part i v h).1 (refl, refl))

      pub still_next : NextChoice rest i
      unfolding state_of
      still_next = record { variable = X.variable; lowest = X.lowest ∙ ap (lowest 32) (fun_ext (λ j. sym (same j))) }

      module _ {r : Option Masks} {after : List ℕ} (G : GoesOn (held t) (state_of m) i v r after) (n : r ≡ None) where
        pub left_known : Knows (held t) (state_of rest) after
        left_known = record { long = G.knows.long; plan = rw left_says (remove_keeps R.fits i v (lowest_of after) (G.no n (lowest_of after) G.knows.plan) G.knows.plan) }

        -- the first plan among them is the first
        pub passed : (w x : List ℕ) → found x ≡ first_plan (held t) (state_of rest) w → found x ≡ first_plan (held t) (state_of m) w
        passed w x a = subst (λ (s : State). found x ≡ first_plan (held t) s w) left_says a ∙ sym (first_refuted R.fits i v (G.no n) w)
