-- What the search in code concludes from a value that was tried, over a table and a state as masks. Assumes nothing.
use mathlib.Core.Path.{◌≡◌, refl, sym, ap, subst, ◌∙◌, fun_ext}
use mathlib.Core.Bool.{Bool, true, false}
use mathlib.Core.List.{List}
use mathlib.Core.Logic.{◌⊎◌, inl, inr, ◌≢◌}
use Prim.Native.Nat.{ℕ, ◌≤◌, ◌<◌}
use native.Mathlib.Omega.{arith}
use lib.Dec.{T}
use lib.ListN.{length, get_or, set, length-set}
use lib.Seq.{get_or-set_same, get_or-set_other, ext_get_or}
use Rattle.std.specs.Prelude.{Option, None}
use Rattle.bounded.specs.Quantifiers.{lowest}
use Rattle.bounded.specs.Mask.{bit}
use Rattle.bounded.proofs.Truth.{T_not, eq_dec}
use Rattle.bounded.proofs.Quantifiers.{lowest_least, lowest_passes}
use Rattle.bounded.proofs.Mask.{bit_none}
use Rattle.bounded.proofs.Members.{lowest_member, part_le, part_lt}
use Rattle.problem.specs.Problem.{Problem, State, remove}
use Rattle.problem.specs.Held.{held, RowTable}
use Rattle.problem.specs.Masks.{state_of, masks_of}
use Rattle.problem.specs.declared.Masks.{Masks}
use Rattle.problem.proofs.Reflect.{remove_live, remove_fits}
use Rattle.problem.specs.Sentences.{Active, Live, Fits, Solution, Solvable}
use Rattle.problem.proofs.HeldTable.{held_few}
use Rattle.held.specs.Ready.{Ready}
use Rattle.held.proofs.Laws.{active_32}
use Rattle.held.proofs.After.{state_held}
use Rattle.first_plan.specs.First.{found, none, first_plan}
use Rattle.first_plan.specs.Steps.{answer, choose, NextChoice, Pruned, Emptied, Opens}
use Rattle.first_plan.specs.declared.Found.{Found}
use Rattle.first_plan.proofs.Meaning.{first_none_keeps}
use Rattle.first_plan.proofs.Prune.{first_unsolved, first_narrowed, first_refuted, first_done, first_taken, never, choose_active, choose_fits, choose_keeps}

-- ---- a state without a solution

pub unsolved_first : {P : Problem} {s : State} → Fits P s → (Solvable P s → ⊥) → (w : List ℕ) → none w ≡ first_plan P s w
unsolved_first F h w = sym (first_unsolved F (λ q A. h (q, A)) w)

-- ---- a state narrowed

-- what is said of the masks of a state is said of the state
pub opens_state : {t : List ℕ} {m : Masks} (s : State) {o : Option Masks} → RowTable t → Fits (held t) s → m ≡ masks_of s → Opens t (state_of m) o → Opens t s o
opens_state {t} s {o} R F e O = subst (λ (x : State). Opens t x o) (ap state_of e ∙ state_held R F) O

emptied_unsolved : (t : List ℕ) {m : Masks} → Emptied m → (q : ℕ → ℕ) → Solution (held t) (state_of m) q → ⊥
unfolding state_of
emptied_unsolved t E q A = T_not (ap (λ (x : ℕ). bit x (q E.variable)) E.empty ∙ bit_none (q E.variable)) (A.live E.variable E.active)

module _ {t : List ℕ} {s : State} (F : Fits (held t) s) where
  pub opened_first : {m : Masks} → Pruned t s m → (w : List ℕ) → first_plan (held t) s w ≡ first_plan (held t) (state_of m) w
  opened_first N =
      first_narrowed F N.ready.fits N.active
      (λ q. (N.keeps q, λ A. record { live = λ j h. N.within j (q j) (A.live j (subst T (N.active j) h)); ok = λ j k hj hk d. A.ok j k (subst T (N.active j) hj) (subst T (N.active k) hk) d }))

  module _ {o : Option Masks} (O : Opens t s o) (c : o ≡ None) where
    closed_unsolved : (q : ℕ → ℕ) → Solution (held t) s q → ⊥
    closed_unsolved q A = let x = O.closed c in emptied_unsolved t x.2 q (x.1.keeps q A)

    pub closed_first : (w : List ℕ) → none w ≡ first_plan (held t) s w
    closed_first w = sym (first_unsolved F closed_unsolved w)

-- ---- the lent plan

-- what was at i is put back where there is no plan with v there
pub put_back : {t : List ℕ} {m : Masks} (i v : ℕ) (w x : List ℕ) (ok : Bool) → Ready t m → i < length w → answer ok x ≡ first_plan (held t) (state_of m) (set w i v) → ok ≡ false → set x i (get_or w i 0) ≡ w
put_back {t} {m} i v w x ok R l e n =
    let a : x ≡ set w i v = ap (λ (r : Found). r.plan) e ∙ first_none_keeps R.fits (set w i v) (ap (λ (r : Found). r.ok) (sym e) ∙ n) in
    ap (λ (y : List ℕ). set y i (get_or w i 0)) a ∙ again
  where
    long : length (set (set w i v) i (get_or w i 0)) ≡ length w
    long = length-set (set w i v) i (get_or w i 0) ∙ length-set w i v

    at : (k : ℕ) → (k ≡ i) ⊎ (k ≢ i) → get_or (set (set w i v) i (get_or w i 0)) k 0 ≡ get_or w k 0
    at k (inl g) = subst (λ (z : ℕ). get_or (set (set w i v) i (get_or w i 0)) z 0 ≡ get_or w z 0) (sym g) (get_or-set_same (set w i v) i (get_or w i 0) 0 (omega (arith, length-set w i v)))
    at k (inr d) = get_or-set_other (set w i v) i k (get_or w i 0) 0 d ∙ get_or-set_other w i k v 0 d

    again : set (set w i v) i (get_or w i 0) ≡ w
    again = ext_get_or 0 _ w long (λ k h. at k (eq_dec k i))

-- ---- the next variable

module _ {t : List ℕ} {m : Masks} (R : Ready t m) where
  -- a domain that is empty
  pub tries_none : Emptied m → (w : List ℕ) → none w ≡ first_plan (held t) (state_of m) w
  tries_none E w = sym (first_unsolved R.fits (emptied_unsolved t E) w)

  -- no variable is active
  pub pick_done : (i : ℕ) → i ≡ lowest 32 (bit m.active) → 32 ≤ i → (w : List ℕ) → found w ≡ first_plan (held t) (state_of m) w
  unfolding state_of
  pick_done i e l w = sym (first_done R.fits (λ j h. let k : j < 32 = active_32 R j h in lowest_least 32 (bit m.active) j (omega arith) h) w)

module _ {t : List ℕ} {m : Masks} (R : Ready t m) (i : ℕ) (X : NextChoice m i) where
  next_active : Active (state_of m) i
  unfolding state_of
  next_active = subst (λ (j : ℕ). T (bit m.active j)) (sym X.lowest) (lowest_passes 32 (bit m.active) (omega (arith, X.lowest, X.variable)))

  pub next_emptied : get_or m.domains i 0 ≡ 0 → Emptied m
  next_emptied e = record { variable = i; active = next_active; empty = e }

module _ {t : List ℕ} {m : Masks} (R : Ready t m) (i v : ℕ) (X : NextChoice m i) where
  low : (j : ℕ) → j < i → Active (state_of m) j → ⊥
  unfolding state_of
  low j l h = lowest_least 32 (bit m.active) j (omega (arith, X.lowest)) h

  module _ (d : get_or m.domains i 0 ≢ 0) (e : v ≡ lowest 16 (bit (get_or m.domains i 0))) where
    -- ---- its lowest value

    pub value_lt : v < 16
    value_lt = omega (arith, (lowest_member 16 (get_or m.domains i 0) (R.proper.domain_lt i X.variable) d).0)

    pub value_live : Live (state_of m) i v
    unfolding state_of
    value_live = subst (λ (c : ℕ). T (bit (get_or m.domains i 0) c)) (sym e) (lowest_member 16 (get_or m.domains i 0) (R.proper.domain_lt i X.variable) d).1

    least : (u : ℕ) → u < v → Live (state_of m) i u → ⊥
    unfolding state_of
    least u l h = lowest_least 16 (bit (get_or m.domains i 0)) u (omega arith) h

    fits : Fits (held t) (choose (held t) (state_of m) i v)
    fits = choose_fits R.fits i v

    -- no solution has the value, where the state with it is closed
    pub shut : {o : Option Masks} → Opens t (choose (held t) (state_of m) i v) o → o ≡ None → (q : ℕ → ℕ) → Solution (held t) (state_of m) q → q i ≢ v
    shut O c q A g = closed_unsolved fits O c q (choose_keeps R.fits i v value_live q g A)

    module _ {next : Masks} (N : Pruned t (choose (held t) (state_of m) i v) next) where
      -- a variable fewer is active
      pub fewer : next.active < m.active
      unfolding state_of
      fewer =
          part_lt 32 next.active m.active i N.ready.proper.active_lt
          (λ c k h. ((choose_active R.fits i v c).0 (subst T (sym (N.active c)) h)).0) (next_active R i X)
          (λ h. ((choose_active R.fits i v i).0 (subst T (sym (N.active i)) h)).1 refl)

      module _ (w : List ℕ) (long : length w ≡ 32) (r : Found) (a : r ≡ first_plan (held t) (state_of next) (set w i v)) where
        room : (held t).n ≤ length w
        room = omega (arith, held_few t)

        same : r ≡ first_plan (held t) (choose (held t) (state_of m) i v) (set w i v)
        same = a ∙ sym (opened_first fits N (set w i v))

        -- nor where that state has no plan
        pub missed : r.ok ≡ false → (q : ℕ → ℕ) → Solution (held t) (state_of m) q → q i ≢ v
        missed n = never R.fits i v value_live low w room (ap (λ (x : Found). x.ok) (sym same) ∙ n)

        -- where it has one, that is the first
        pub taken : r.ok ≡ true → r ≡ first_plan (held t) (state_of m) w
        taken y = same ∙ sym (first_taken R.fits i v value_live low w room least (ap (λ (x : Found). x.ok) (sym same) ∙ y))

    -- ---- the values after it

    module _ {rest : Masks} (N : Pruned t (remove (held t) (state_of m) i v) rest) where
      pub no_more : rest.active ≤ m.active
      unfolding state_of remove
      no_more = part_le 32 rest.active m.active N.ready.proper.active_lt (λ c k h. subst T (sym (N.active c)) h)

      pub less : get_or rest.domains i 0 < get_or m.domains i 0
      unfolding state_of
      less =
          part_lt 16 (get_or rest.domains i 0) (get_or m.domains i 0) v (N.ready.proper.domain_lt i X.variable)
          (λ c k h. ((remove_live (held t) (state_of m) i v i c).0 (N.within i c h)).0) value_live
          (λ h. ((remove_live (held t) (state_of m) i v i v).0 (N.within i v h)).1 (refl, refl))

      pub still_next : NextChoice rest i
      unfolding state_of remove
      still_next = record { variable = X.variable; lowest = X.lowest ∙ ap (lowest 32) (fun_ext N.active) }

    module _ (n : (q : ℕ → ℕ) → Solution (held t) (state_of m) q → q i ≢ v) (w x : List ℕ) (g : x ≡ w) where
      without : first_plan (held t) (state_of m) w ≡ first_plan (held t) (remove (held t) (state_of m) i v) w
      without = first_refuted R.fits i v n w

      pub on_with : {rest : Masks} → Pruned t (remove (held t) (state_of m) i v) rest → (r : Found) → r ≡ first_plan (held t) (state_of rest) x → r ≡ first_plan (held t) (state_of m) w
      on_with {rest} N r a =
          a ∙ ap (first_plan (held t) (state_of rest)) g ∙ sym (without ∙ opened_first (remove_fits (held t) (state_of m) R.fits i v) N w)

      pub all_shut : {o : Option Masks} → Opens t (remove (held t) (state_of m) i v) o → o ≡ None → none x ≡ first_plan (held t) (state_of m) w
      all_shut O c = ap none g ∙ closed_first (remove_fits (held t) (state_of m) R.fits i v) O c w ∙ sym without
