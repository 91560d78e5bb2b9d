-- Values that cover, found a variable at a time: those left cover at each variable passed, and each of the others breaks at one of them.
-- Assumes nothing.
use Rattle.std.specs.Prelude.{None}
use mathlib.Core.Path.{◌≡◌, refl, sym, ap, ◌∙◌, subst}
use mathlib.Core.Bool.{Bool, true, false, cond, not, ◌&&◌}
use mathlib.Core.Logic.Iff
use mathlib.Core.Logic.{inl, inr, ⊎_elim, ◌≢◌, ◌↔◌}
use mathlib.Core.List.{List}
use Prim.Native.Nat.{ℕ, ◌+◌, ◌-◌, ◌^◌, ◌<◌}
use native.Mathlib.Nat.{lt_of_le_of_lt}
use lib.Bits.{bit_and, bit_or, and_le_l}
use lib.Dec.{T, eqb}
use lib.ListN.{get_or}
use lib.Pow.{pow_pos}
use borrow.Author.Tests.{ne_eqb}
use Rattle.bounded.specs.Quantifiers.{imp, all_below}
use Rattle.bounded.specs.Mask.{bit, mask_of, without}
use Rattle.bounded.proofs.Truth.{T_ext, T_of, T_dec, T_true, T_false, split, clash, and_iff, imp_iff, not_iff}
use Rattle.bounded.proofs.Quantifiers.{all_iff}
use Rattle.bounded.proofs.Mask.{bit_and_lem, bit_not16, bit_mask, bit_without32, mask_ext, member_lt, member_some, with_keeps, with_has, with_lt, within}
use Rattle.bounded.proofs.Members.{Sought, sought_all, sought_none, without_gone}
use Rattle.problem.specs.Problem.{Problem, State}
use Rattle.problem.specs.Held.{row_word, rows_at, held, RowTable}
use Rattle.problem.specs.Masks.{state_of}
use Rattle.problem.specs.declared.Masks.{Masks}
use Rattle.problem.specs.Sentences.{Fits, Substitutes}
use Rattle.problem.proofs.Spoiler.{spoiler_iff}
use Rattle.problem.proofs.HeldTable.{row_met, held_value_lem}
use Rattle.held.specs.Ready.{Ready, Values, Near, Among}
use Rattle.held.proofs.Laws.{row_says, part_values, live_value, word_iff, word_lt}
use Rattle.cover.specs.Words.{allowed_with, servers_in, served_in, all_served_in}
use Rattle.cover.specs.Broken.{BrokenIn, UnservedIn}
use Rattle.cover.proofs.Laws.{apart, near_covers, servers_lt, servers_some, servers_in_iff, served_in_iff, broken_at}

-- ---- the values allowed with a whole set

module _ {t : List ℕ} (R : RowTable t) (x i l : ℕ) (vs : Values t l x) (d : l ≢ i) where
  -- the word that the loop collects, of the values that were passed
  abbrev pub passed : ℕ → ℕ
  passed u = mask_of u (λ u. eqb (bit_and x (get_or t (rows_at i l + u) 0)) x)

  -- at a value of i the word of the table tells what its row does
  pub allowed_met : (some word u : ℕ) → Values t i some → u ≡ 16 → word ≡ passed u → bit_and some word ≡ bit_and some (allowed_with (held t) x i l)
  unfolding allowed_with
  allowed_met some word u own e h =
      mask_ext 16 (bit_and some word) (bit_and some (allowed_with (held t) x i l)) (lt_of_le_of_lt (and_le_l some _) own.small) (lt_of_le_of_lt (and_le_l some _) own.small)
      (λ c k. bit_and_lem some word c ∙ ⊎_elim
      (λ on. ap (λ (b : Bool). bit some c && b) (ap (λ (y : ℕ). bit y c) (h ∙ ap passed e) ∙ bit_mask 16 (λ u. eqb (bit_and x (get_or t (rows_at i l + u) 0)) x) c k ∙ same c (own.within c (T_of on)) ∙ sym (bit_mask 16 (λ u. eqb (bit_and x (row_word (held t) i l u)) x) c k)))
      (λ off. rw off)
      (split (bit some c)) ∙ sym (bit_and_lem some (allowed_with (held t) x i l) c))
    where
      same : (c : ℕ) → c < (held t).size i → eqb (bit_and x (get_or t (rows_at i l + c) 0)) x ≡ eqb (bit_and x (row_word (held t) i l c)) x
      same c k = ap (λ (y : ℕ). eqb y x) (row_met R i c l (held_value_lem R i c k) (λ q. d (sym q)) x vs.small vs.within)

-- ---- the values left

-- of the set `good` of values of i, those left cover w of j at each variable of `rest` but those in `left`, and the others break
pub record Serving (t : List ℕ) (m : Masks) (rest good i j w left some broken : ℕ) : Type 0 where
  pub values : Values t i some
  pub part : (u : ℕ) → T (bit some u) → T (bit good u)
  pub covers : (u : ℕ) → T (bit some u) → (l : ℕ) → l < 32 → T (bit rest l) → (T (bit left l) → ⊥) → Substitutes (held t) (state_of m) i u j w l
  pub shown : BrokenIn (held t) (state_of m) rest good some broken i j w

module _ {t : List ℕ} {m : Masks} (R : Ready t m) where
  abbrev P : Problem
  P = held t

  abbrev s : State
  s = state_of m

  -- a value of i covers w of j at l where it is allowed with all that w is allowed with there
  covers_iff : (i u j w l : ℕ) → l < 32 → T (eqb (bit_and (bit_and (get_or m.domains l 0) (row_word P j l w)) (row_word P i l u)) (bit_and (get_or m.domains l 0) (row_word P j l w))) ↔ Substitutes P s i u j w l
  covers_iff i u j w l k = (
    λ h c o al. subst T (row_says R.table i l u c) ((simp (all_iff, imp_iff) at (subst T asked h)) c (live_value R l c o).value ((word_iff R j w l c).1 (o, al))),
    λ h. subst T (sym asked) (simp (all_iff, imp_iff) (λ c q y. let z = (word_iff R j w l c).0 y in subst T (sym (row_says R.table i l u c)) (h c z.0 z.1))),
  )
    where
      asked : eqb (bit_and (bit_and (get_or m.domains l 0) (row_word P j l w)) (row_word P i l u)) (bit_and (get_or m.domains l 0) (row_word P j l w)) ≡ all_below 16 (λ c. imp (bit (bit_and (get_or m.domains l 0) (row_word P j l w)) c) (bit (row_word P i l u) c))
      asked = within 16 (bit_and (get_or m.domains l 0) (row_word P j l w)) (row_word P i l u) (word_lt R l _ k)

  pub serving_first : (rest good i j w : ℕ) → good < 2 ^ 16 → Among m i good → Serving t m rest good i j w rest good 0
  serving_first rest good i j w small among =
      record {
        values = record { small = small; within = λ u h. R.fits.live_lt i u (among.live u h) };
        part = λ u h. h;
        covers = λ u h l k on off. absurd (off on);
        shown = record { small = pow_pos 32; at = λ u on off. absurd (off on) };
      }

  -- one variable more
  module _ (rest good i j w left some broken l : ℕ) (k : l < 32) (here : T (bit rest l)) where
    -- what w is allowed with there
    abbrev word : ℕ
    word = bit_and (get_or m.domains l 0) (row_word P j l w)

    abbrev next : ℕ
    next = bit_and some (allowed_with P word i l)

    abbrev test : ℕ → Bool
    test u = eqb (bit_and word (row_word P i l u)) word

    next_iff : Values t i some → (u : ℕ) → T (bit next u) ↔ (T (bit some u) × Substitutes P s i u j w l)
    unfolding allowed_with
    next_iff vs u = (
      λ h. let y = (and_iff (bit some u) (bit (mask_of 16 test) u)).0 (subst T (bit_and_lem some (mask_of 16 test) u) h) in
          (y.0, (covers_iff i u j w l k).0 (subst T (bit_mask 16 test u (member_lt 16 some u vs.small y.0)) y.1)),
      λ y. subst T (sym (bit_and_lem some (mask_of 16 test) u)) ((and_iff (bit some u) (bit (mask_of 16 test) u)).1 (y.0, subst T (sym (bit_mask 16 test u (member_lt 16 some u vs.small y.0))) ((covers_iff i u j w l k).1 y.1))),
    )

    -- the variables where values broke: this one too, where one does
    abbrev more : ℕ
    more = cond (not (eqb next some)) (bit_or broken (2 ^ l)) broken

    more_keeps : (b : Bool) (n : ℕ) → T (bit broken n) → T (bit (cond b (bit_or broken (2 ^ l)) broken) n)
    more_keeps true n h = with_keeps broken l n h
    more_keeps false n h = h

    more_lt : (b : Bool) → broken < 2 ^ 32 → cond b (bit_or broken (2 ^ l)) broken < 2 ^ 32
    more_lt true h = with_lt 32 broken l h k
    more_lt false h = h

    more_has : (u : ℕ) → T (bit some u) → (T (bit next u) → ⊥) → T (bit more l)
    more_has u on off = rw (ne_eqb next some (λ e. off (subst (λ (x : ℕ). T (bit x u)) (sym e) on))) (with_has broken l)

    pub serving_next : Serving t m rest good i j w left some broken → Serving t m rest good i j w (without 32 left l) next more
    serving_next S =
        record {
          values = part_values S.values _;
          part = λ u h. S.part u ((next_iff S.values u).0 h).0;
          covers = λ u h n q on off. let y = (next_iff S.values u).0 h in elim (T_dec (bit left n)) [
            | inl z ↦ subst (λ (x : ℕ). Substitutes P s i u j w x) (sym (without_gone 32 bit_without32 left l k n q z off)) y.1
            | inr z ↦ S.covers u y.0 n q on z
          ];
          shown = record {
            small = more_lt (not (eqb next some)) S.shown.small;
            at = λ u on off. elim (T_dec (bit some u)) [
              | inl z ↦ (l, k, more_has u z off, here, λ h. off ((next_iff S.values u).1 (z, (spoiler_iff R.fits i u j w l None).0 h)))
              | inr z ↦ let y = S.shown.at u on z in (y.0, y.1, more_keeps (not (eqb next some)) y.0 y.2, y.3, y.4)
            ];
          };
        }

  -- none left to ask, or none of the values is left: those left are the ones that cover
  pub serving_end : (rest good i j w left some broken : ℕ) → (not (eqb left 0) && not (eqb some 0)) ≡ false → Serving t m rest good i j w left some broken → some ≡ servers_in P s rest good i j w
  serving_end rest good i j w left some broken e S =
      mask_ext 16 some (servers_in P s rest good i j w) S.values.small (servers_lt P s rest good i j w)
      (λ u k. T_ext (
        λ h. (servers_in_iff R.fits rest good i j w u).1 (k, S.part u h, λ l q on. S.covers u h l q on (none u h l)),
        λ h. let y = (servers_in_iff R.fits rest good i j w u).0 h in elim (T_dec (bit some u)) [ inl z ↦ z | inr z ↦ absurd (let b = broken_at R.fits S.shown u y.1 z in b.4 (y.2 b.0 b.1 b.3)) ],
      ))
    where
      none : (u : ℕ) → T (bit some u) → (l : ℕ) → T (bit left l) → ⊥
      none u h l y = clash {b = not (eqb left 0) && not (eqb some 0)} (rw (ne_eqb left 0 (member_some left l y), ne_eqb some 0 (member_some some u h))) e

-- ---- asked of the neighbours only

meet_iff : (x y l : ℕ) → T (bit (bit_and x y) l) ↔ (T (bit x l) × T (bit y l))
meet_iff x y l = rw (bit_and_lem x y l) (and_iff (bit x l) (bit y l))

-- the values that cover at the neighbours of i cover at any other variable too
pub near_servers : {t : List ℕ} {m : Masks} (R : Ready t m) (rest good i j w x : ℕ) → Among m i good → Near t i x → bit rest i ≡ false → servers_in (held t) (state_of m) (bit_and rest x) good i j w ≡ servers_in (held t) (state_of m) rest good i j w
near_servers {t} {m} R rest good i j w x among near out =
    mask_ext 16 _ _ (servers_lt P s (bit_and rest x) good i j w) (servers_lt P s rest good i j w)
    (λ u k. T_ext (
      λ h. let y = (servers_in_iff R.fits (bit_and rest x) good i j w u).0 h in
          (servers_in_iff R.fits rest good i j w u).1 (
            k,
            y.1,
            λ l q on. elim (T_dec (bit x l)) [
              | inl z ↦ y.2 l q ((meet_iff rest x l).1 (on, z))
              | inr z ↦ near_covers R i u j w x (live_value R i u (among.live u y.1)) near l q (apart rest l i (T_true _ on) out) (T_false _ z)
            ],
          ),
      λ h. let y = (servers_in_iff R.fits rest good i j w u).0 h in
          (servers_in_iff R.fits (bit_and rest x) good i j w u).1 (k, y.1, λ l q on. y.2 l q ((meet_iff rest x l).0 on).0),
    ))
  where
    P : Problem
    P = held t

    s : State
    s = state_of m

-- what breaks at some of a set breaks in the set
pub part_broken : {P : Problem} {s : State} (rest x : ℕ) {good left broken i j w : ℕ} → BrokenIn P s (bit_and rest x) good left broken i j w → BrokenIn P s rest good left broken i j w
part_broken rest x B = record { small = B.small; at = λ u on off. let y = B.at u on off in (y.0, y.1, y.2, ((meet_iff rest x y.0).0 y.3).0, y.4) }

-- ---- values to serve, one after another

module _ (P : Problem) (s : State) (rest good bad j : ℕ) where
  -- w is to be served by a value of `good`, and is not
  abbrev pub unserved_at : ℕ → Bool
  unserved_at w = (bit bad w && not (bit good w)) && not (served_in P s rest good j j w)

  unserved_iff : (w : ℕ) → T (unserved_at w) ↔ ((T (bit bad w) × (T (bit good w) → ⊥)) × (T (served_in P s rest good j j w) → ⊥))
  unserved_iff w = simp (and_iff, not_iff) Iff.rfl

  -- the values to serve
  pub asked_iff : good < 2 ^ 16 → (w : ℕ) → w < 16 → T (bit (bit_and bad (65535 - good)) w) ↔ (T (bit bad w) × (T (bit good w) → ⊥))
  asked_iff small w k = rw (bit_and_lem bad (65535 - good) w, bit_not16 good w small k) (simp (and_iff, not_iff) Iff.rfl)

  pub unserved_first : good < 2 ^ 16 → bad < 2 ^ 16 → Sought 16 unserved_at (bit_and bad (65535 - good)) (bit_and bad (65535 - good))
  unserved_first small narrow = sought_all 16 unserved_at _ (lt_of_le_of_lt (and_le_l bad _) narrow) (λ w k h. (asked_iff small w k).1 ((unserved_iff w).0 h).0)

  -- one that is served
  pub served_here : Fits P s → (w : ℕ) → servers_in P s rest good j j w ≢ 0 → unserved_at w ≡ false
  served_here F w d = T_false _ (λ h. ((unserved_iff w).0 h).1 ((served_in_iff F rest good j j w).1 (servers_some F rest good j j w d)))

  -- one that is not: each candidate breaks
  pub unserved_here : (w left broken : ℕ) → w < 16 → j < 32 → T (bit bad w) × (T (bit good w) → ⊥) → left ≡ 0 → BrokenIn P s rest good left broken j j w → UnservedIn P s rest good bad j (bit_or broken (2 ^ j))
  unserved_here w left broken k l asked e B =
      record {
        served = λ z. absurd (member_some _ j (with_has broken j) z);
        fails = λ d. record {
          w = w;
          small = k;
          asked = asked.0;
          other = asked.1;
          own = with_has broken j;
          broken = record {
            small = with_lt 32 broken j B.small l;
            at = λ u on off. let y = B.at u on (λ h. member_some left u h e) in (y.0, y.1, with_keeps broken j y.0 y.2, y.3, y.4);
          };
        };
      }

  -- none left
  pub unserved_end : (left : ℕ) → left ≡ 0 → Sought 16 unserved_at (bit_and bad (65535 - good)) left → UnservedIn P s rest good bad j 0
  unfolding all_served_in
  unserved_end left e S =
      record {
        served = λ z. simp (all_iff, imp_iff, and_iff, not_iff) (λ w k x. elim (T_dec (served_in P s rest good j j w)) [ inl t ↦ t | inr n ↦ absurd (sought_none S e w k ((unserved_iff w).1 (x, n))) ]);
        fails = λ d. absurd (d refl);
      }
