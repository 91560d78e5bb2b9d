-- A state as masks and as tests, both ways. Assumes nothing.
use mathlib.Core.Path.{◌≡◌, refl, sym, ap, ◌∙◌, fun_ext, subst}
use mathlib.Core.Logic.{◌⊎◌, inl, inr, ⊎_elim, ◌↔◌, ◌≢◌}
use Prim.Native.Nat.{ℕ, ◌^◌, ◌≤◌, ◌<◌}
use native.Mathlib.Nat.{not-le_of_lt}
use native.Mathlib.Omega.{arith}
use lib.Dec.{T}
use lib.ListN.{length, get_or, set, length-set, get_or-eq_default}
use lib.Seq.{ext_get_or, get_or-set_same, get_or-set_other}
use Rattle.bounded.specs.Mask.{bit, mask_of}
use Rattle.bounded.specs.Table.{tab}
use Rattle.bounded.proofs.Truth.{T_false, T_not, eq_dec, lt_dec}
use Rattle.bounded.proofs.Mask.{bit_high, bit_none, bit_mask, bit_mask_all, mask_lt, mask_ext}
use Rattle.bounded.proofs.Table.{length_tab, get_d_tab}
use Rattle.problem.specs.Problem.{Problem, State, state_fits}
use Rattle.problem.specs.Masks.{state_of, masks_of, Proper}
use Rattle.problem.specs.Held.{Bounded}
use Rattle.problem.specs.declared.Masks.{Masks}
use Rattle.problem.proofs.Reflect.{fits_says, fits_test}
use Rattle.problem.specs.Sentences.{Active, Live, Fits}

-- the struct's numbers are a state's masks where every bit says so
pub masks_is : (m : Masks) (s : State) → Proper m → ((i : ℕ) → i < 32 → (state_of m).active i ≡ s.active i) → ((i a : ℕ) → i < 32 → a < 16 → (state_of m).live i a ≡ s.live i a) → m ≡ masks_of s
unfolding state_of masks_of
masks_is m s R f g = λ t. record { active = actives t; domains = domains t }
  where
    actives : m.active ≡ mask_of 32 s.active
    actives = mask_ext 32 m.active (mask_of 32 s.active) R.active_lt (mask_lt 32 s.active) (λ c lt. f c lt ∙ sym (bit_mask 32 s.active c lt))

    domains : m.domains ≡ tab 32 (λ i. mask_of 16 (s.live i))
    domains =
        ext_get_or 0 m.domains (tab 32 (λ i. mask_of 16 (s.live i))) (R.length_is ∙ sym (length_tab 32 (λ i. mask_of 16 (s.live i))))
        (λ i lt. let l : i < 32 = omega (arith, R.length_is) in
        mask_ext 16 (get_or m.domains i 0) (mask_of 16 (s.live i)) (R.domain_lt i l) (mask_lt 16 (s.live i)) (λ c k. g i c l k ∙ sym (bit_mask 16 (s.live i) c k)) ∙ sym (get_d_tab 32 (λ i. mask_of 16 (s.live i)) i 0 l))

-- the masks of a state are numbers that the struct can hold
pub masks_proper : (s : State) → Proper (masks_of s)
unfolding masks_of
masks_proper s =
    record {
      active_lt = mask_lt 32 s.active;
      length_is = length_tab 32 (λ i. mask_of 16 (s.live i));
      domain_lt = λ i l. rw (get_d_tab 32 (λ i. mask_of 16 (s.live i)) i 0 l) (mask_lt 16 (s.live i));
    }

-- one domain stored: the masks of the state that has it, and the rest as it was
abbrev pub put_domain : Masks → (i x : ℕ) → Masks
put_domain m i x = record { active = m.active; domains = set m.domains i x }

pub masks_put : (m : Masks) (s : State) (i x : ℕ) → Proper m → i < 32 → x < 2 ^ 16 → ((k : ℕ) → k < 32 → (state_of m).active k ≡ s.active k) → ((a : ℕ) → a < 16 → bit x a ≡ s.live i a) → ((j a : ℕ) → j ≢ i → (state_of m).live j a ≡ s.live j a) → put_domain m i x ≡ masks_of s
unfolding state_of
masks_put m s i x R p l f here else =
    masks_is (put_domain m i x) s proper f
    (λ j a k q. ⊎_elim
    (λ e. ap (λ (z : ℕ). bit z a) (at j e) ∙ here a q ∙ ap (λ (z : ℕ). s.live z a) (sym e))
    (λ d. ap (λ (z : ℕ). bit z a) (get_or-set_other m.domains i j x 0 d) ∙ else j a d)
    (eq_dec j i))
  where
    at : (j : ℕ) → j ≡ i → get_or (set m.domains i x) j 0 ≡ x
    at j e = ap (λ (z : ℕ). get_or (set m.domains i x) z 0) e ∙ get_or-set_same m.domains i x 0 (omega (arith, R.length_is))

    proper : Proper (put_domain m i x)
    proper =
        record {
          active_lt = R.active_lt;
          length_is = length-set m.domains i x ∙ R.length_is;
          domain_lt = λ j k. ⊎_elim (λ e. subst (λ (z : ℕ). z < 2 ^ 16) (sym (at j e)) l) (λ d. rw (get_or-set_other m.domains i j x 0 d) (R.domain_lt j k)) (eq_dec j i);
        }

-- masks of a proper struct, read and packed again, are the same
pub masks_back : (m : Masks) → Proper m → masks_of (state_of m) ≡ m
masks_back m R = sym (masks_is m (state_of m) R (λ i l. refl) (λ i a l k. refl))

-- the masks of a state that fits a problem of at most 32 variables of at most 16 values say the state
pub state_within : (P : Problem) → P.n ≤ 32 → ((i : ℕ) → P.size i ≤ 16) → {s : State} → Fits P s → state_of (masks_of s) ≡ s
unfolding state_of masks_of
state_within P few narrow {s} F = λ t. record { active = actives t; live = lives t }
  where
    actives : (λ i. bit (mask_of 32 s.active) i) ≡ s.active
    actives = fun_ext (bit_mask_all 32 s.active (λ k t. omega (arith, F.active_lt k t, few)))

    lives : (λ i a. bit (get_or (tab 32 (λ i. mask_of 16 (s.live i))) i 0) a) ≡ s.live
    lives = fun_ext λ i. fun_ext λ a. go i a (lt_dec i 32)
      where
        go : (i a : ℕ) → (i < 32) ⊎ (32 ≤ i) → bit (get_or (tab 32 (λ i. mask_of 16 (s.live i))) i 0) a ≡ s.live i a
        go i a (inl l) = rw (get_d_tab 32 (λ i. mask_of 16 (s.live i)) i 0 l) (bit_mask_all 16 (s.live i) (λ c t. omega (arith, F.live_lt i c t, narrow i)) a)
        go i a (inr l) =
            let q : length (tab 32 (λ i. mask_of 16 (s.live i))) ≤ i = omega (arith, length_tab 32 (λ i. mask_of 16 (s.live i))) in
            rw (get_or-eq_default (tab 32 (λ i. mask_of 16 (s.live i))) 0 q)
            (bit_none a ∙ sym (T_false (s.live i a) (λ t. not-le_of_lt (F.active_lt i (F.live_active i a t)) (omega (arith, few)))))

pub state_back : (P : Problem) → Bounded P → {s : State} → Fits P s → state_of (masks_of s) ≡ s
state_back P B F = state_within P B.few B.narrow F

-- a struct's state fits at every number where it fits at the numbers that the struct can name
pub fits_iff : (P : Problem) (m : Masks) → Proper m → T (state_fits P (state_of m)) ↔ Fits P (state_of m)
unfolding state_of
fits_iff P m R = (λ t. record { active_lt = active_lt t; live_active = λ i a o. (at t i a o).0; live_lt = λ i a o. (at t i a o).1 }, fits_test)
  where
    S : State
    S = state_of m

    active_lt : T (state_fits P S) → (i : ℕ) → Active S i → i < P.n
    active_lt t i h = go (lt_dec i 32)
      where
        go : (i < 32) ⊎ (32 ≤ i) → i < P.n
        go (inl l) = ((fits_says P S).0 t).0 i l h
        go (inr l) = absurd (T_not (bit_high 32 m.active i R.active_lt l) h)

    at : T (state_fits P S) → (i a : ℕ) → Live S i a → Active S i × (a < P.size i)
    at t i a o = go (lt_dec i 32) (lt_dec a 16)
      where
        go : (i < 32) ⊎ (32 ≤ i) → (a < 16) ⊎ (16 ≤ a) → Active S i × (a < P.size i)
        go (inl l) (inl k) = ((fits_says P S).0 t).1 i l a k o
        go (inl l) (inr k) = absurd (T_not (bit_high 16 (get_or m.domains i 0) a (R.domain_lt i l) k) o)
        go (inr l) k =
            let q : length m.domains ≤ i = omega (arith, R.length_is) in
            absurd (T_not (ap (λ (x : ℕ). bit x a) (get_or-eq_default m.domains 0 q) ∙ bit_none a) o)
