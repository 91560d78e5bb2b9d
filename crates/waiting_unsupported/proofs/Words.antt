-- The words of unsupported values as the code fills them, and as it mends them once a value is gone. Assumes nothing.
use mathlib.Core.Path.{◌≡◌, refl, sym, ap, ◌∙◌, subst}
use mathlib.Core.Bool.{not, true, false, ◌||◌}
use mathlib.Core.Logic.Iff
use mathlib.Core.Logic.{◌⊎◌, inl, inr, ⊎_elim, ◌≢◌, ◌↔◌}
use mathlib.Core.List.{List}
use Prim.Native.Nat.{ℕ, ◌+◌, ◌-◌, ◌^◌, ◌<◌, ◌≤◌}
use native.Mathlib.Omega.{arith}
use lib.Bits.{bit_and, bit_or, or_lt}
use lib.Dec.{T, eqb}
use lib.ListN.{length, get_or, set, length-set}
use lib.Seq.{get_or-set_same, get_or-set_other}
use Rattle.bounded.specs.Quantifiers.{lowest}
use Rattle.bounded.specs.Mask.{bit, mask_of, without}
use Rattle.bounded.proofs.Truth.{T_of, T_not, T_dec, split, eq_dec, and_iff, or_iff, not_iff, eqb_iff}
use Rattle.bounded.proofs.Mask.{bit_and_lem, bit_or_lem, bit_none, bit_not16, bit_mask, bit_without32, member_lt, member_some}
use Rattle.bounded.proofs.Members.{Left, left_lowest, left_other, lowest_member, without_gone, without_part, without_other}
use Rattle.problem.specs.Problem.{Problem, State, none_empty}
use Rattle.problem.specs.Held.{row_word, rows_at, held, RowTable}
use Rattle.problem.specs.Masks.{state_of}
use Rattle.problem.specs.declared.Masks.{Masks}
use Rattle.problem.proofs.Reflect.{turn, none_empty_iff}
use Rattle.problem.specs.Sentences.{Active, Live, Allowed, Unsupported}
use Rattle.problem.proofs.HeldTable.{held_row_tells, row_met, held_value_lem}
use Rattle.held.specs.Ready.{Ready, Values, Near}
use Rattle.held.proofs.Laws.{row_says, near_free, live_value, active_32}
use Rattle.waiting_unsupported.specs.Words.{AllUnsupported, UnsupportedOf, Alone, Mended}
use Rattle.unsupported.proofs.Laws.{unbacked_word}

-- the variable of a turn, among the active neighbours of i that are left
pub at_lowest : {x k rest : ℕ} (active near i : ℕ) → i < 32 → rest ≢ 0 → k ≡ lowest 32 (bit rest) → x ≡ without 32 (bit_and active near) i → Left 32 x rest → (k < 32) × (k ≢ i) × T (bit rest k) × (without 32 rest k < rest) × T (bit active k)
at_lowest {x} {k} {rest} active near i p d e w L =
    let l = left_lowest 32 bit_without32 L d e in (
      l.0,
      left_other 32 bit_without32 (bit_and active near) i L w p l.0 l.1,
      l.1,
      l.2,
      ((and_iff (bit active k) (bit near k)).0 (subst T (bit_and_lem active near k) (without_part 32 (bit_and active near) i k (subst (λ (y : ℕ). T (bit y k)) w (L.part k l.1))))).0,
    )

-- ---- values without a support in a set

-- nothing is lost
pub alone_nothing : {P : Problem} {lost : ℕ} (domain l i : ℕ) → lost ≡ 0 → Alone P lost domain l i 0
alone_nothing domain l i e = record { exact = λ c. (λ h. absurd (T_not (bit_none c) h), λ x. absurd (member_some _ c x.0 e)) }

module _ {t : List ℕ} (R : RowTable t) (lost domain l i : ℕ) (own : Values t i lost) (there : Values t l domain) (apart : i ≢ l) where
  -- the word that the loop collects, of the values that were passed
  abbrev passed : ℕ → ℕ
  passed u = mask_of u (λ u. eqb (bit_and domain (get_or t (rows_at i l + u) 0)) 0)

  -- at a value of i the word of the table tells what its row does
  pub alone_met : (word u : ℕ) → u ≡ 16 → word ≡ passed u → Alone (held t) lost domain l i (bit_and lost word)
  alone_met word u e h =
      record {
        exact = λ c. (
          λ x. let y = (and_iff (bit lost c) (bit word c)).0 (subst T (bit_and_lem lost word c) x) in
              (y.0, λ d on al. (unbacked_word R domain i c l there.small).0 (subst T (says c y.0) y.1) d on (turn (held t) l d i c al)),
          λ y. subst T (sym (bit_and_lem lost word c)) ((and_iff (bit lost c) (bit word c)).1 (
            y.0,
            subst T (sym (says c y.0)) ((unbacked_word R domain i c l there.small).1 (λ d on al. y.1 d on (turn (held t) i c l d al))),
          )),
        );
      }
    where
      says : (c : ℕ) → T (bit lost c) → bit word c ≡ eqb (bit_and domain (row_word (held t) i l c)) 0
      says c on =
          ap (λ (y : ℕ). bit y c) (h ∙ ap passed e)
          ∙ bit_mask 16 (λ u. eqb (bit_and domain (get_or t (rows_at i l + u) 0)) 0) c (member_lt 16 lost c own.small on)
          ∙ ap (λ (y : ℕ). eqb y 0) (row_met R i c l (held_value_lem R i c (own.within c on)) apart domain there.small there.within)

  -- value c of i is one of them, and no value of the set supports it
  abbrev Unbacked : ℕ → Type 0
  Unbacked c = T (bit lost c) × ((d : ℕ) → T (bit domain d) → Allowed (held t) l d i c → ⊥)

  -- what two rows of the set do not allow
  module _ (at lo hi : ℕ) (place : at ≡ rows_at l i) (on-lo : T (bit domain lo)) (on-hi : T (bit domain hi)) (small-lo : get_or t (at + lo) 0 < 2 ^ 16) (small-hi : get_or t (at + hi) 0 < 2 ^ 16) where
    abbrev unmet : ℕ
    unmet = bit_and lost (65535 - bit_or (get_or t (at + lo) 0) (get_or t (at + hi) 0))

    -- the row of a value of the set
    row_of : (d c : ℕ) → T (bit domain d) → T (bit lost c) → bit (get_or t (at + d) 0) c ≡ (held t).allowed l d i c
    row_of d c on h = ap (λ (x : ℕ). bit (get_or t (x + d) 0) c) place ∙ held_row_tells R l d i (held_value_lem R l d (there.within d on)) (λ e. apart (sym e)) c (held_value_lem R i c (own.within c h))

    unbacked_unmet : (c : ℕ) → Unbacked c → T (bit unmet c)
    unbacked_unmet c x =
        subst T (sym (bit_and_lem lost _ c)) ((and_iff (bit lost c) _).1 (
          x.0,
          subst T (sym (bit_not16 (bit_or (get_or t (at + lo) 0) (get_or t (at + hi) 0)) c (or_lt 16 _ _ small-lo small-hi) (member_lt 16 lost c own.small x.0)))
              ((not_iff (bit (bit_or (get_or t (at + lo) 0) (get_or t (at + hi) 0)) c)).1 (λ h. ⊎_elim
              (λ y. x.1 lo on-lo (subst T (row_of lo c on-lo x.0) y))
              (λ y. x.1 hi on-hi (subst T (row_of hi c on-hi x.0) y))
              ((or_iff (bit (get_or t (at + lo) 0) c) (bit (get_or t (at + hi) 0) c)).0 (subst T (bit_or_lem _ _ c) h)))),
        ))

    pub alone_none : unmet ≡ 0 → Alone (held t) lost domain l i 0
    alone_none e = record { exact = λ c. (λ h. absurd (T_not (bit_none c) h), λ x. absurd (member_some unmet c (unbacked_unmet c x) e)) }

    -- only those need be looked at
    pub alone_rest : {r : ℕ} → Alone (held t) unmet domain l i r → Alone (held t) lost domain l i r
    alone_rest A =
        record {
          exact = λ c. (
            λ h. let y = (A.exact c).0 h in (((and_iff (bit lost c) _).0 (subst T (bit_and_lem lost _ c) y.0)).0, y.1),
            λ x. (A.exact c).1 (unbacked_unmet c x, x.1),
          );
        }

-- ---- a word for each variable

-- of the domain of i, x has the values without a support at some other active variable that is not in `rest`
pub record Seen (P : Problem) (s : State) (i rest x : ℕ) : Type 0 where
  pub exact : (b : ℕ) → Live s i b → T (bit x b) ↔ ((k : ℕ) × (T (bit rest k) → ⊥) × Unsupported P s i b k)

-- none left
pub seen_end : {P : Problem} {s : State} {i rest x : ℕ} → rest ≡ 0 → Seen P s i rest x → UnsupportedOf P s i x
seen_end {rest = rest} e S = record { exact = λ b o. (λ h. let u = (S.exact b o).0 h in (u.0, u.2), λ u. (S.exact b o).1 (u.0, λ h. member_some rest u.0 h e, u.1)) }

-- the words of the variables below i are filled
pub record Filling (P : Problem) (s : State) (i : ℕ) (words : List ℕ) : Type 0 where
  pub long : length words ≡ 32
  pub done : (j : ℕ) → j < i → UnsupportedOf P s j (get_or words j 0)

pub filling_none : {P : Problem} {s : State} {words : List ℕ} → length words ≡ 32 → Filling P s 0 words
filling_none n = record { long = n; done = λ j l. absurd (omega arith) }

pub filling_more : {P : Problem} {s : State} {words : List ℕ} (i x : ℕ) → i < 32 → UnsupportedOf P s i x → Filling P s i words → Filling P s (i + 1) (set words i x)
filling_more {P} {s} {words} i x k here F =
    record {
      long = length-set words i x ∙ F.long;
      done = λ j l. elim (eq_dec j i) [
        | inl e ↦ subst (λ (z : ℕ). UnsupportedOf P s z (get_or (set words i x) z 0)) (sym e) (subst (UnsupportedOf P s i) (sym (get_or-set_same words i x 0 (omega (arith, F.long)))) here)
        | inr n ↦ subst (UnsupportedOf P s j) (sym (get_or-set_other words i j x 0 n)) (F.done j (omega arith))
      ];
    }

-- ---- once a value is gone

-- value b of i had the support c at l, and has none there now
abbrev pub Last : (P : Problem) (s : State) (l c i b : ℕ) → Type 0
Last P s l c i b = (i ≢ l) × Allowed P l c i b × ((d : ℕ) → Live s l d → Allowed P l d i b → ⊥)

-- the words are mended but for the variables in `left`
pub record Mending (P : Problem) (s : State) (l c left : ℕ) (before now : List ℕ) : Type 0 where
  pub long : length now ≡ 32
  pub todo : (i : ℕ) → i < 32 → T (bit left i) → get_or now i 0 ≡ get_or before i 0
  pub done : (i b : ℕ) → Live s i b → (T (bit left i) → ⊥) → T (bit (get_or now i 0) b) ↔ (T (bit (get_or before i 0) b) ⊎ Last P s l c i b)

-- none left
pub mending_end : {P : Problem} {s : State} {l c left : ℕ} {before now : List ℕ} → left ≡ 0 → Mending P s l c left before now → Mended P s l c before now
mending_end {left = left} e M = record { long = M.long; exact = λ lasts i b o. M.done i b o (λ h. member_some left i h e) }

module _ {t : List ℕ} {m : Masks} (R : Ready t m) where
  abbrev P : Problem
  P = held t

  abbrev s : State
  s = state_of m

  -- what is no neighbour of i, seen from the neighbours to look at
  far : (i k near : ℕ) → i < 32 → Active s k → k ≢ i → (T (bit (without 32 (bit_and m.active near) i) k) → ⊥) → bit near k ≡ false
  unfolding state_of
  far i k near p a d out =
      ⊎_elim
      (λ e. absurd (out (subst T (sym (bit_without32 (bit_and m.active near) i k p (active_32 R k a))) ((and_iff (bit (bit_and m.active near) k) (not (eqb k i))).1 (simp (bit_and_lem, and_iff) (a, T_of e), (not_iff (eqb k i)).1 (λ q. d ((eqb_iff k i).0 q)))))))
      (λ e. e)
      (split (bit near k))

  -- ---- as they are filled

  module _ (i : ℕ) where
    -- at first those that have no block with i are passed: each of them has a value, and supports all of i's
    pub seen_first : i < 32 → none_empty P s ≡ true → (near : ℕ) → Near t i near → Seen P s i (without 32 (bit_and m.active near) i) 0
    seen_first p lasts near N =
        record {
          exact = λ b o. (
            λ h. absurd (T_not (bit_none b) h),
            λ u. absurd (let k = u.0 in
                let x = (none_empty_iff R.fits).0 (T_of lasts) k u.2.1 in
                u.2.3 x.0 x.1 (near_free R.table i b k near (live_value R i b o) N (active_32 R k u.2.1) u.2.2 (far i k near p u.2.1 u.2.2 u.1) x.0 (R.fits.live_lt k x.0 x.1))),
          );
        }

    -- one variable more
    pub seen_next : {rest x r : ℕ} (k : ℕ) → k < 32 → T (bit m.active k) → k ≢ i → Alone P (get_or m.domains i 0) (get_or m.domains k 0) k i r → Seen P s i rest x → Seen P s i (without 32 rest k) (bit_or x r)
    unfolding state_of
    seen_next {rest} {x} {r} k l a d A S =
        record {
          exact = λ b o. (
            λ h. ⊎_elim
                (λ y. let u = (S.exact b o).0 y in (u.0, λ q. u.1 (without_part 32 rest k u.0 q), u.2))
                (λ y. (k, λ q. without_other 32 bit_without32 rest k l k l q refl, (o, a, d, λ c live al. ((A.exact b).0 y).1 c live (turn P i b k c al))))
                ((or_iff (bit x b) (bit r b)).0 (subst T (bit_or_lem x r b) h)),
            λ u. subst T (sym (bit_or_lem x r b)) ((or_iff (bit x b) (bit r b)).1 (elim (T_dec (bit rest u.0)) [
              | inl y ↦ inr ((A.exact b).1 (
                o,
                λ c live al.
                    let e = without_gone 32 bit_without32 rest k l u.0 (active_32 R u.0 u.2.1) y u.1 in
                    u.2.3 c (subst (λ (z : ℕ). Live s z c) (sym e) live) (subst (λ (z : ℕ). Allowed P i b z c) (sym e) (turn P k c i b al)),
              ))
              | inr n ↦ inl ((S.exact b o).1 (u.0, n, u.2))
            ])),
          );
        }

  -- every variable has its word
  pub filling_end : {n : ℕ} {words : List ℕ} → 32 ≤ n → Filling P s n words → AllUnsupported P s words
  filling_end l F = record { long = F.long; exact = λ lasts i b o. (F.done i (omega (arith, (live_value R i b o).variable))).exact b o }

  -- ---- as they are mended

  module _ (l c : ℕ) where
    -- where l is emptied there is nothing to show
    pub mended_empty : {before : List ℕ} → length before ≡ 32 → bit m.active l ≡ true → get_or m.domains l 0 ≡ 0 → Mended P s l c before before
    unfolding state_of
    mended_empty n a e = record { long = n; exact = λ lasts i b o. absurd (let x = (none_empty_iff R.fits).0 lasts l (T_of a) in member_some (get_or m.domains l 0) x.0 x.1 e) }

    -- at first: l has a value, which supports all values of what has no block with l
    pub mending_first : {before : List ℕ} (near : ℕ) → l < 32 → length before ≡ 32 → get_or m.domains l 0 ≢ 0 → Near t l near → Mending P s l c (without 32 (bit_and m.active near) l) before before
    unfolding state_of
    mending_first {before} near p n d N =
        record {
          long = n;
          todo = λ i k h. refl;
          done = λ i b o out. (λ h. inl h, λ x. ⊎_elim (λ h. h) (λ (w : Last P s l c i b). absurd (w.2 here.0 here.1 (free i b o w.0 out))) x);
        }
      where
        here : (d : ℕ) × Live s l d
        here = let x = lowest_member 16 (get_or m.domains l 0) (R.proper.domain_lt l p) d in (lowest 16 (bit (get_or m.domains l 0)), x.1)

        free : (i b : ℕ) → Live s i b → i ≢ l → (T (bit (without 32 (bit_and m.active near) l) i) → ⊥) → Allowed P l here.0 i b
        free i b o e out = near_free R.table l here.0 i near (live_value R l here.0 here.1) N (live_value R i b o).variable e (far l i near p (R.fits.live_active i b o) e out) b (R.fits.live_lt i b o)

    -- one variable more
    pub mending_next : {left i own lost r : ℕ} {before now : List ℕ} → i < 32 → i ≢ l → T (bit left i) → get_or now i 0 < 65536 → own ≡ bit_and (get_or m.domains i 0) (65535 - get_or now i 0) → lost ≡ bit_and own (row_word P l i c) → Alone P lost (get_or m.domains l 0) l i r → Mending P s l c left before now → Mending P s l c (without 32 left i) before (set now i (bit_or (get_or now i 0) r))
    unfolding state_of
    mending_next {left} {i} {own} {lost} {r} {before} {now} k d on small new is A M =
        record {
          long = length-set now i x ∙ M.long;
          todo = λ j q h. get_or-set_other now i j x 0 (without_other 32 bit_without32 left i k j q h) ∙ M.todo j q (without_part 32 left i j h);
          done = λ j b o out. one j b o out (eq_dec j i);
        }
      where
        x : ℕ
        x = bit_or (get_or now i 0) r

        says : (b : ℕ) → bit (get_or (set now i x) i 0) b ≡ (bit (get_or before i 0) b || bit r b)
        says b = ap (λ (y : ℕ). bit y b) (get_or-set_same now i x 0 (omega (arith, M.long))) ∙ bit_or_lem (get_or now i 0) r b ∙ ap (λ (y : ℕ). bit y b || bit r b) (M.todo i k on)

        -- what is not known to be unsupported, and is allowed with c
        lost_iff : (b : ℕ) → b < 16 → T (bit lost b) ↔ ((T (bit (get_or m.domains i 0) b) × (T (bit (get_or now i 0) b) → ⊥)) × Allowed P l c i b)
        lost_iff b q = rw (is, bit_and_lem own (row_word P l i c) b, new, bit_and_lem (get_or m.domains i 0) (65535 - get_or now i 0) b, bit_not16 (get_or now i 0) b small q, row_says R.table l i c b) (simp (and_iff, not_iff) Iff.rfl)

        here : (b : ℕ) → Live s i b → T (bit (get_or (set now i x) i 0) b) ↔ (T (bit (get_or before i 0) b) ⊎ Last P s l c i b)
        here b o =
            let q = (live_value R i b o).value in (
              λ h. ⊎_elim (λ y. inl y) (λ y. let z = (A.exact b).0 y in inr (d, ((lost_iff b q).0 z.0).1, z.1)) ((or_iff (bit (get_or before i 0) b) (bit r b)).0 (subst T (says b) h)),
              λ y. subst T (sym (says b)) ((or_iff (bit (get_or before i 0) b) (bit r b)).1 (⊎_elim (λ h. inl h) (λ (w : Last P s l c i b). elim (T_dec (bit (get_or before i 0) b)) [
                | inl h ↦ inl h
                | inr n ↦ inr ((A.exact b).1 ((lost_iff b q).1 ((o, λ h. n (subst (λ (z : ℕ). T (bit z b)) (M.todo i k on) h)), w.1), w.2))
              ]) y)),
            )

        one : (j b : ℕ) → Live s j b → (T (bit (without 32 left i) j) → ⊥) → (j ≡ i) ⊎ (j ≢ i) → T (bit (get_or (set now i x) j 0) b) ↔ (T (bit (get_or before j 0) b) ⊎ Last P s l c j b)
        one j b o out (inl e) = subst (λ (z : ℕ). T (bit (get_or (set now i x) z 0) b) ↔ (T (bit (get_or before z 0) b) ⊎ Last P s l c z b)) (sym e) (here b (subst (λ (z : ℕ). Live s z b) e o))
        one j b o out (inr n) =
            subst (λ (z : ℕ). T (bit z b) ↔ (T (bit (get_or before j 0) b) ⊎ Last P s l c j b)) (sym (get_or-set_other now i j x 0 n))
            (M.done j b o (λ h. n (without_gone 32 bit_without32 left i k j (live_value R j b o).variable h out)))
