-- Values without a support go off: every solution stays, whatever order they go in and wherever it stops. Assumes nothing.
use mathlib.Core.Path.{◌≡◌, refl, sym, ap, subst, ◌∙◌}
use mathlib.Core.Bool.{true}
use mathlib.Core.List.{List}
use mathlib.Core.Logic.{◌⊎◌, inl, inr, ◌≢◌}
use Prim.Native.Nat.{ℕ, ◌^◌, ◌<◌}
use native.Mathlib.Omega.{arith}
use lib.Bits.{bit_and}
use lib.Dec.{T}
use lib.ListN.{length, get_or, set, length-set}
use lib.Seq.{get_or-set_same, get_or-set_other}
use Rattle.bounded.specs.Mask.{bit, without}
use Rattle.bounded.proofs.Truth.{T_true, T_of, and_iff, eq_dec}
use Rattle.bounded.proofs.Quantifiers.{any_iff}
use Rattle.bounded.proofs.Mask.{bit_and_lem, bit_mask, member_lt}
use Rattle.bounded.proofs.Members.{Left, without_part}
use Rattle.problem.specs.Problem.{Problem, State}
use Rattle.problem.specs.Held.{held}
use Rattle.problem.specs.Masks.{state_of, sets}
use Rattle.problem.specs.declared.Masks.{Masks}
use Rattle.problem.specs.Sentences.{Active, Live, Solution}
use Rattle.held.specs.Ready.{Ready}
use Rattle.support.specs.Words.{supported_by, partners_of}
use Rattle.first_plan.specs.Steps.{KeepsSupported, Pruned, Emptied}

-- ---- a union of rows

-- what a union of rows leaves of a set has all with a support
pub union_supports : {P : Problem} {was domain i j r : ℕ} → was < 2 ^ 16 → domain < 2 ^ 16 → r ≡ bit_and was (partners_of P domain i j) → KeepsSupported P was domain i j r
unfolding partners_of
union_supports {P} {was} {domain} {i} {j} {r} lw ld e =
    record {
      within = λ c h. (parts c (subst (λ (x : ℕ). T (bit x c)) e h)).0;
      keeps = λ c a w on h.
          subst (λ (x : ℕ). T (bit x c)) (sym e) (subst T (sym (bit_and_lem was union c)) ((and_iff (bit was c) (bit union c)).1
          (w, subst T (sym (bit_mask 16 _ c (member_lt 16 was c lw w))) ((any_iff 16 (supported_by P domain i j c)).1 (a, member_lt 16 domain a ld on, (and_iff (bit domain a) (P.allowed i a j c)).1 (on, h))))));
    }
  where
    union : ℕ
    union = partners_of P domain i j

    parts : (c : ℕ) → T (bit (bit_and was union) c) → T (bit was c) × T (bit union c)
    parts c h = (and_iff (bit was c) (bit union c)).0 (subst T (bit_and_lem was union c) h)

-- ---- a state

-- one domain revised; `domain` has all values of i that a solution can have
module _ {t : List ℕ} {s : State} {r : Masks} (N : Pruned t s r) (domain i j x : ℕ)
    (hi : Active s i) (d : j ≢ i) (p : j < 32) (lt : x < 2 ^ 16) (has : (a : ℕ) → Live s i a → T (bit domain a))
    (X : KeepsSupported (held t) (get_or r.domains j 0) domain i j x) where
  abbrev next : Masks
  next = record { active = r.active; domains = set r.domains j x }

  short : j < length r.domains
  short = omega (arith, N.ready.proper.length_is)

  here : get_or next.domains j 0 ≡ x
  here = get_or-set_same r.domains j x 0 short

  there : (k : ℕ) → k ≢ j → get_or next.domains k 0 ≡ get_or r.domains k 0
  there k d = get_or-set_other r.domains j k x 0 d

  within_next : (k a : ℕ) → Live (state_of next) k a → Live (state_of r) k a
  unfolding state_of
  within_next k a o = go (eq_dec k j)
    where
      go : (k ≡ j) ⊎ (k ≢ j) → T (bit (get_or r.domains k 0) a)
      go (inl e) = rw e (X.within a (subst (λ (y : ℕ). T (bit y a)) (ap (λ (z : ℕ). get_or next.domains z 0) e ∙ here) o))
      go (inr d) = subst (λ (y : ℕ). T (bit y a)) (there k d) o

  next_ready : Ready t next
  unfolding state_of
  next_ready =
      record {
        table = N.ready.table;
        proper = record { active_lt = N.ready.proper.active_lt; length_is = length-set r.domains j x ∙ N.ready.proper.length_is; domain_lt = λ k l. go k l (eq_dec k j) };
        fits = record {
          active_lt = N.ready.fits.active_lt;
          live_active = λ k a o. N.ready.fits.live_active k a (within_next k a o);
          live_lt = λ k a o. N.ready.fits.live_lt k a (within_next k a o);
        };
      }
    where
      go : (k : ℕ) → k < 32 → (k ≡ j) ⊎ (k ≢ j) → get_or next.domains k 0 < 2 ^ 16
      go k l (inl e) = rw (e, here) lt
      go k l (inr d) = rw (there k d) (N.ready.proper.domain_lt k l)

  next_keeps : (q : ℕ → ℕ) → Solution (held t) s q → Solution (held t) (state_of next) q
  unfolding state_of
  next_keeps q A = record { live = λ k h. go k h (eq_dec k j); ok = (N.keeps q A).ok }
    where
      go : (k : ℕ) → T (bit r.active k) → (k ≡ j) ⊎ (k ≢ j) → T (bit (get_or next.domains k 0) (q k))
      go k h (inr n) = subst (λ (y : ℕ). T (bit y (q k))) (sym (there k n)) ((N.keeps q A).live k h)
      go k h (inl e) =
          let hj : T (bit r.active j) = subst (λ (z : ℕ). T (bit r.active z)) e h in
          rw (e, here) (X.keeps (q j) (q i) ((N.keeps q A).live j hj) (has (q i) (A.live i hi)) (A.ok i j hi (subst T (sym (N.active j)) hj) (λ g. d (sym g))))

  pub narrowed_more : Pruned t s next
  unfolding state_of
  narrowed_more = record { ready = next_ready; active = N.active; within = λ k a o. N.within k a (within_next k a o); keeps = next_keeps }

pub narrowed_same : {t : List ℕ} {m : Masks} → Ready t m → Pruned t (state_of m) m
narrowed_same R = record { ready = R; active = λ j. refl; within = λ j a o. o; keeps = λ q A. A }

pub narrowed_trans : {t : List ℕ} {s : State} {r k : Masks} → Pruned t s r → Pruned t (state_of r) k → Pruned t s k
narrowed_trans N K = record { ready = K.ready; active = λ j. N.active j ∙ K.active j; within = λ j a o. N.within j a (K.within j a o); keeps = λ q A. K.keeps q (N.keeps q A) }

-- the active variables stay
pub still_active : {t : List ℕ} (m : Masks) {r : Masks} → Pruned t (state_of m) r → (j : ℕ) → T (bit m.active j) → bit r.active j ≡ true
unfolding state_of
still_active m N j h = T_true _ (subst T (N.active j) h)

-- ---- lent masks

module _ {t : List ℕ} (m : Masks) {left : Masks} (N : Pruned t (state_of m) left) (i j x : ℕ) where
  -- a variable revised from i
  pub swept : bit m.active i ≡ true → j ≢ i → j < 32 → x < 2 ^ 16 → KeepsSupported (held t) (get_or left.domains j 0) (get_or m.domains i 0) i j x → Pruned t (state_of m) (sets left.active (set left.domains j x))
  unfolding state_of
  swept hi d p lt X = narrowed_more N (get_or m.domains i 0) i j x (T_of hi) d p lt (λ a o. o) X

  -- its set is empty
  pub swept_empty : T (bit m.active j) → j < 32 → x ≡ 0 → Emptied (sets left.active (set left.domains j x))
  unfolding state_of
  swept_empty h p e = record { variable = j; active = subst T (N.active j) h; empty = get_or-set_same left.domains j x 0 (omega (arith, N.ready.proper.length_is)) ∙ e }

-- a variable to revise is active
pub swept_active : {set rest : ℕ} (near active i j : ℕ) → Left 32 set rest → set ≡ without 32 (bit_and near active) i → T (bit rest j) → T (bit active j)
swept_active near active i j L e t =
    let x = subst (λ (y : ℕ). T (bit y j)) e (L.part j t) in
    ((and_iff (bit near j) (bit active j)).0 (subst T (bit_and_lem near active j) (without_part 32 (bit_and near active) i j x))).1

pub some_emptied : {m : Masks} (i : ℕ) → bit m.active i ≡ true → get_or m.domains i 0 ≡ 0 → Emptied m
unfolding state_of
some_emptied i h e = record { variable = i; active = T_of h; empty = e }
