-- A union of rows has the values with a support, and what every neighbour's union has is left by a sweep. Assumes nothing.
use mathlib.Core.Path.{◌≡◌, refl, sym, ap, ◌∙◌, subst}
use mathlib.Core.Bool.{Bool, true, false, cond, not, ◌&&◌, ◌||◌}
use mathlib.Core.Logic.{inl, inr, ⊎_elim, ◌≢◌}
use mathlib.Core.List.{List}
use Prim.Native.Nat.{ℕ, ◌+◌, ◌<◌}
use native.Mathlib.Nat.{lt_of_le_of_lt}
use lib.Bits.{bit_and, and_le_l, bit_or}
use lib.Dec.{T, eqb}
use lib.ListN.{get_or}
use Rattle.bounded.specs.Quantifiers.{any_below}
use Rattle.bounded.specs.Mask.{bit, mask_of, without}
use Rattle.bounded.proofs.Truth.{T_ext, T_of, T_not, T_dec, split, and_iff, not_iff, eqb_iff}
use Rattle.bounded.proofs.Quantifiers.{any_iff}
use Rattle.bounded.proofs.Loops.{any_next}
use Rattle.bounded.proofs.Mask.{bit_and_lem, bit_or_lem, bit_none, bit_mask, mask_ext, mask_is, bit_without32}
use Rattle.bounded.proofs.Members.{Left, without_gone, without_part}
use Rattle.problem.specs.Problem.{Problem, State, none_empty}
use Rattle.problem.specs.Hand.{supported, prune}
use Rattle.problem.specs.Held.{rows_at, held, RowTable}
use Rattle.problem.specs.Masks.{state_of}
use Rattle.problem.specs.declared.Masks.{Masks}
use Rattle.problem.proofs.Reflect.{turn, supported_iff, none_empty_iff}
use Rattle.problem.specs.Sentences.{Active, Live, Allowed}
use Rattle.problem.proofs.HeldTable.{held_row_tells, held_value_lem}
use Rattle.held.specs.Ready.{Ready, Values, Near}
use Rattle.held.proofs.Laws.{near_free, part_values, live_value, active_32, domain_values}
use Rattle.support.specs.Words.{supported_by, partners_of, domain_left}

-- ---- a union of rows

-- the union so far has the values of j with a support among the values of i that were passed
pub record Gathered (P : Problem) (domain i j a x : ℕ) : Type 0 where
  pub has : (c : ℕ) → c < P.size j → bit x c ≡ any_below a (supported_by P domain i j c)

module _ {t : List ℕ} (R : RowTable t) (domain i j : ℕ) (own : Values t i domain) (d : j ≢ i) where
  -- a row that is taken where its value is in the set
  row_where : (a c : ℕ) → c < (held t).size j → bit (cond (bit domain a) (get_or t (rows_at i j + a) 0) 0) c ≡ supported_by (held t) domain i j c a
  row_where a c l =
      ⊎_elim
      (λ e. rw e (held_row_tells R i a j (held_value_lem R i a (own.within a (T_of e))) (λ q. d (sym q)) c (held_value_lem R j c l)))
      (λ e. rw e (bit_none c))
      (split (bit domain a))

  pub gather_more : (a x y : ℕ) → y ≡ cond (bit domain a) (get_or t (rows_at i j + a) 0) 0 → Gathered (held t) domain i j a x → Gathered (held t) domain i j (a + 1) (bit_or x y)
  gather_more a x y e g =
      record {
        has = λ c l. bit_or_lem x y c ∙ ap (λ (b : Bool). b || bit y c) (g.has c l) ∙ ap (λ (b : Bool). any_below a (supported_by (held t) domain i j c) || b) (ap (λ (z : ℕ). bit z c) e ∙ row_where a c l)
            ∙ sym (any_next (supported_by (held t) domain i j c) a);
      }

  pub gathered : (was x a : ℕ) → Values t j was → a ≡ 16 → Gathered (held t) domain i j a x → bit_and was x ≡ bit_and was (partners_of (held t) domain i j)
  unfolding partners_of
  gathered was x a vs e g =
      mask_ext 16 (bit_and was x) (bit_and was (partners_of (held t) domain i j)) (lt_of_le_of_lt (and_le_l was _) vs.small) (lt_of_le_of_lt (and_le_l was _) vs.small)
      (λ c k. bit_and_lem was x c ∙ ⊎_elim
      (λ h. ap (λ (b : Bool). bit was c && b) (g.has c (vs.within c (T_of h)) ∙ ap (λ (n : ℕ). any_below n (supported_by (held t) domain i j c)) e ∙ sym (bit_mask 16 (λ c. any_below 16 (supported_by (held t) domain i j c)) c k)))
      (λ h. rw h)
      (split (bit was c)) ∙ sym (bit_and_lem was (partners_of (held t) domain i j) c))

pub gather_none : {P : Problem} {domain i j : ℕ} → Gathered P domain i j 0 0
unfolding any_below
gather_none = record { has = λ c l. bit_none c }

-- ---- every other variable

-- value c of i has a support at k
abbrev pub Backed : (P : Problem) (s : State) (i c k : ℕ) → Type 0
Backed P s i c k = (b : ℕ) × Live s k b × Allowed P i c k b

-- x has the values of i that have a support at each other active variable but those in `rest`
pub record Kept (t : List ℕ) (m : Masks) (i rest x : ℕ) : Type 0 where
  pub values : Values t i x
  pub live : (c : ℕ) → T (bit x c) → Live (state_of m) i c
  pub backed : (c : ℕ) → T (bit x c) → (k : ℕ) → Active (state_of m) k → k ≢ i → (T (bit rest k) → ⊥) → Backed (held t) (state_of m) i c k
  pub all : (c : ℕ) → Live (state_of m) i c → ((k : ℕ) → Active (state_of m) k → k ≢ i → (T (bit rest k) → ⊥) → Backed (held t) (state_of m) i c k) → T (bit x c)

-- a variable to look at is an active neighbour
pub kept_active : {rest : ℕ} (k active near i : ℕ) → Left 32 (without 32 (bit_and active near) i) rest → T (bit rest k) → T (bit active k)
kept_active {rest} k active near i L h = ((and_iff (bit active k) (bit near k)).0 (subst T (bit_and_lem active near k) (without_part 32 (bit_and active near) i k (L.part k h)))).0

module _ {t : List ℕ} {m : Masks} (R : Ready t m) (i : ℕ) where
  abbrev P : Problem
  P = held t

  abbrev s : State
  s = state_of m

  -- at first those that have no block with i are passed: each of them has a value, and supports all of i's
  pub kept_first : i < 32 → none_empty P s ≡ true → (near : ℕ) → Near t i near → Kept t m i (without 32 (bit_and m.active near) i) (get_or m.domains i 0)
  unfolding state_of
  kept_first p lasts near N =
      record {
        values = domain_values R i p;
        live = λ c h. h;
        backed = λ c h k a d out.
            let x = (none_empty_iff R.fits).0 (T_of lasts) k a in
            (x.0, x.1, near_free R.table i c k near (live_value R i c h) N (small k a) d (far k a d out) x.0 (R.fits.live_lt k x.0 x.1));
        all = λ c h f. h;
      }
    where
      small : (k : ℕ) → Active s k → k < 32
      small k a = active_32 R k a

      far : (k : ℕ) → T (bit m.active k) → k ≢ i → (T (bit (without 32 (bit_and m.active near) i) k) → ⊥) → bit near k ≡ false
      far k a d out =
          ⊎_elim
          (λ e. absurd (out (subst T (sym (bit_without32 (bit_and m.active near) i k p (active_32 R k a))) ((and_iff (bit (bit_and m.active near) k) (not (eqb k i))).1 (simp (bit_and_lem, and_iff) (a, T_of e), (not_iff (eqb k i)).1 (λ q. d ((eqb_iff k i).0 q)))))))
          (λ e. e)
          (split (bit near k))

  -- one variable more
  pub kept_next : (rest x k : ℕ) → k < 32 → Active s k → k ≢ i → Kept t m i rest x → Kept t m i (without 32 rest k) (bit_and x (partners_of P (get_or m.domains k 0) k i))
  unfolding partners_of state_of
  kept_next rest x k l a d K =
      record {
        values = part_values K.values _;
        live = λ c h. K.live c (both c h).0;
        backed = λ c h j aj dj out. elim (T_dec (bit rest j)) [
          | inl y ↦ subst (λ (z : ℕ). Backed P s i c z) (sym (without_gone 32 bit_without32 rest k l j (active_32 R j aj) y out)) (backing c h)
          | inr n ↦ K.backed c (both c h).0 j aj dj n
        ];
        all = λ c h f.
            let y = f k a d (λ u. (not_iff (eqb k k)).0 (simp (bit_without32 rest k k l l, and_iff) at u).1 ((eqb_iff k k).1 refl)) in
            let v = y.0 in
            simp (bit_and_lem, and_iff) (
              K.all c h (λ j aj dj out. f j aj dj (λ u. out (without_part 32 rest k j u))),
              subst T (sym (bit_mask 16 (λ c. any_below 16 (supported_by P (get_or m.domains k 0) k i c)) c (live_value R i c h).value))
                  (simp (any_iff, and_iff) (v, (live_value R k v y.1).value, (y.1, turn P i c k v y.2))),
            );
      }
    where
      both : (c : ℕ) → T (bit (bit_and x (mask_of 16 (λ c. any_below 16 (supported_by P (get_or m.domains k 0) k i c)))) c) → T (bit x c) × T (bit (mask_of 16 (λ c. any_below 16 (supported_by P (get_or m.domains k 0) k i c))) c)
      both c h = simp (bit_and_lem, and_iff) at h

      backing : (c : ℕ) → T (bit (bit_and x (mask_of 16 (λ c. any_below 16 (supported_by P (get_or m.domains k 0) k i c)))) c) → Backed P s i c k
      backing c h =
          let q = both c h in
          let y = simp (any_iff, and_iff) at (subst T (bit_mask 16 (λ c. any_below 16 (supported_by P (get_or m.domains k 0) k i c)) c (live_value R i c (K.live c q.0)).value) q.1) in
          (y.0, y.2.0, turn P k y.0 i c y.2.1)

  -- none left: it is what a sweep leaves
  pub kept_end : (rest x : ℕ) → rest ≡ 0 → Kept t m i rest x → x ≡ domain_left P s i
  unfolding domain_left prune
  kept_end rest x e K =
      mask_is 16 x ((prune P s).live i) K.values.small
      (λ c l. T_ext (
        λ h. (and_iff (s.live i c) (supported P s i c)).1 (K.live c h, (supported_iff R.fits i c).1 (λ k a d. K.backed c h k a d (none k))),
        λ h. let y = (and_iff (s.live i c) (supported P s i c)).0 h in K.all c y.0 (λ k a d n. (supported_iff R.fits i c).0 y.1 k a d),
      ))
    where
      none : (k : ℕ) → T (bit rest k) → ⊥
      none k h = T_not (ap (λ (z : ℕ). bit z k) e ∙ bit_none k) h
