-- Covering over a table and a state that fits it, as the code tests it. Assumes nothing.
use Rattle.std.specs.Prelude.{Option, Some, None}
use mathlib.Core.Path.{◌≡◌, refl, sym, ap, ◌∙◌, subst}
use mathlib.Core.Bool.{Bool, true, false, not, ◌&&◌}
use mathlib.Core.Logic.Iff
use mathlib.Core.Logic.{◌⊎◌, inl, inr, ⊎_elim, ◌≢◌, ◌↔◌}
use mathlib.Core.List.{List}
use Prim.Native.Nat.{ℕ, ◌+◌, ◌-◌, ◌^◌, ◌<◌}
use lib.Dec.{T}
use native.Mathlib.Nat.{lt_trans, lt_of_le_of_lt}
use lib.Bits.{bit_and, and_le_l}
use lib.ListN.{get_or}
use Rattle.bounded.specs.Quantifiers.{imp, all_below, lowest, at_lowest}
use Rattle.bounded.specs.Mask.{bit, without}
use Rattle.bounded.proofs.Truth.{T_ext, T_not, T_false, T_true, split, clash, and_iff, imp_iff, imp_fails, not_iff, eqb_iff}
use Rattle.bounded.proofs.Quantifiers.{all_iff, any_iff}
use Rattle.bounded.proofs.Mask.{bit_and_lem, bit_not16, bit_mask, bit_without32, mask_lt, member_lt, without_met}
use Rattle.bounded.proofs.Members.{lowest_member}
use Rattle.bounded.proofs.Loops.{all_intro, all_fail, lowest_or, at_lowest_is, at_lowest_none, at_lowest_same, at_lowest_ext}
use Rattle.problem.specs.Problem.{Problem, State, all_other, unspoilt, break_at, unbroken, spoils, spoiler, breaks, first_break}
use Rattle.problem.specs.Held.{row_word, rows_at, held}
use Rattle.problem.specs.Masks.{state_of}
use Rattle.problem.specs.declared.Masks.{Masks}
use Rattle.problem.proofs.Reflect.{all_other_iff, spoils_iff, unspoilt_iff}
use Rattle.problem.specs.Sentences.{Fits, Substitutes}
use Rattle.problem.proofs.Spoiler.{spoiler_iff, breaks_iff}
use Rattle.problem.proofs.HeldTable.{row_lt, row_met}
use Rattle.held.specs.Ready.{Ready, Value, Near}
use Rattle.cover.specs.Words.{spoiler_in, first_break_in, covers_in, servers_in, served_in, all_served_in, others, thirds}
use Rattle.cover.specs.Broken.{BrokenIn}
use Rattle.held.proofs.Laws.{row_says, near_free, part_values, live_value, domain_values, active_32, word_iff, word_lt}

-- ---- the first break in a set

module _ (P : Problem) (s : State) (rest i a j b l : ℕ) where
  -- at a variable of the set, and at any other
  pub in_set : bit rest l ≡ true → spoiler_in P s rest i a j b l ≡ spoiler P s i a j b l
  unfolding spoiler_in
  in_set e = rw (e, spoiler_in)

  pub off_set : bit rest l ≡ false → spoiler_in P s rest i a j b l ≡ None
  unfolding spoiler_in
  off_set e = rw (e, spoiler_in)

  unspoilt_in : unspoilt (spoiler_in P s rest i a j b l) ≡ imp (bit rest l) (unspoilt (spoiler P s i a j b l))
  unspoilt_in = ⊎_elim (λ e. rw e (ap unspoilt (in_set e))) (λ e. rw e (ap unspoilt (off_set e))) (split (bit rest l))

-- a variable that breaks the cover is one of the set
pub break_member : (P : Problem) (s : State) (rest i a j b l : ℕ) → T (not (unspoilt (spoiler_in P s rest i a j b l))) → T (bit rest l)
break_member P s rest i a j b l h =
    (imp_fails (bit rest l) (unspoilt (spoiler P s i a j b l)) (λ u. (not_iff (unspoilt (spoiler_in P s rest i a j b l))).0 h (subst T (sym (unspoilt_in P s rest i a j b l)) u))).0

-- the test's answer, read as yes or no
holds_iff : (x : Option ℕ) → T (unspoilt x) ↔ (x ≡ None)
holds_iff x = (is x, λ e. subst (λ (y : Option ℕ). T (unspoilt y)) (sym e) tt)
  where
    is : (x : Option ℕ) → T (unspoilt x) → x ≡ None
    is (Some c) t = absurd t
    is None t = refl

-- the break that an answer tells of is one where the answer is spoilt
unbroken_at : (l : ℕ) (x : Option ℕ) → unbroken (break_at l x) ≡ unspoilt x
unbroken_at l (Some c) = refl
unbroken_at l None = refl

module _ (P : Problem) (s : State) (rest i a j b : ℕ) where
  -- there is none where a covers b at each variable of the set
  pub covers_all : covers_in P s rest i a j b ≡ all_below 32 (λ l. imp (bit rest l) (unspoilt (spoiler P s i a j b l)))
  unfolding first_break_in
  covers_all = go (lowest_or f 32) ∙ (λ t. all_below 32 (λ l. unspoilt_in P s rest i a j b l t))
    where
      x : ℕ → Option ℕ
      x = spoiler_in P s rest i a j b

      f : ℕ → Bool
      f l = not (unspoilt (x l))

      g : ℕ → Option (ℕ × ℕ)
      g l = break_at l (x l)

      go : ((l : ℕ) × (l < 32) × T (f l) × ((m : ℕ) → m < l → T (f m) → ⊥)) ⊎ ((l : ℕ) → l < 32 → T (f l) → ⊥) → covers_in P s rest i a j b ≡ all_below 32 (λ l. unspoilt (x l))
      go (inl (l, k, t, h)) =
          let e : unspoilt (x l) ≡ false = T_false (unspoilt (x l)) ((not_iff (unspoilt (x l))).0 t) in
          ap unbroken (at_lowest_is f g None 32 l k t h) ∙ unbroken_at l (x l) ∙ e ∙ sym (all_fail (λ l. unspoilt (x l)) 32 l k e)
      go (inr h) =
          ap unbroken (at_lowest_none f g None 32 h)
          ∙ sym (all_intro (λ l. unspoilt (x l)) 32 (λ l k. elim (split (unspoilt (x l))) [ inl e ↦ e | inr e ↦ absurd (h l k ((not_iff (unspoilt (x l))).1 (T_not e))) ]))

pub servers_lt : (P : Problem) (s : State) (rest good i j w : ℕ) → servers_in P s rest good i j w < 2 ^ 16
unfolding servers_in
servers_lt P s rest good i j w = mask_lt 16 (λ u. bit good u && covers_in P s rest i u j w)

module _ (P : Problem) (s : State) (rest i : ℕ) where
  covers_holds : (a j b : ℕ) → T (covers_in P s rest i a j b) ↔ ((l : ℕ) → l < 32 → T (bit rest l) → spoiler P s i a j b l ≡ None)
  covers_holds a j b = rw (covers_all P s rest i a j b) (simp (all_iff, imp_iff, holds_iff) Iff.rfl)

  -- Lane u is 1 exactly where u was asked and the cover test answers `Holds` at each variable of the set.
  pub lane_iff : (good j w u : ℕ) → T (bit (servers_in P s rest good i j w) u) ↔ ((u < 16) × T (bit good u) × ((l : ℕ) → l < 32 → T (bit rest l) → spoiler P s i u j w l ≡ None))
  unfolding servers_in
  lane_iff good j w u = (
    λ h. let k = member_lt 16 _ u (servers_lt P s rest good i j w) h in
        let y = (and_iff (bit good u) (covers_in P s rest i u j w)).0 (subst T (bit_mask 16 f u k) h) in
        (k, y.0, (covers_holds u j w).0 y.1),
    λ y. subst T (sym (bit_mask 16 f u y.0)) ((and_iff (bit good u) (covers_in P s rest i u j w)).1 (y.1, (covers_holds u j w).1 y.2)),
  )
    where
      f : ℕ → Bool
      f u = bit good u && covers_in P s rest i u j w

-- the same as sentences, of a state that fits
module _ {P : Problem} {s : State} (F : Fits P s) where
  pub covers_in_iff : (rest i a j b : ℕ) → T (covers_in P s rest i a j b) ↔ ((l : ℕ) → l < 32 → T (bit rest l) → Substitutes P s i a j b l)
  covers_in_iff rest i a j b = rw (covers_all P s rest i a j b) (simp (all_iff, imp_iff, unspoilt_iff F) Iff.rfl)

  pub served_in_iff : (rest good i j w : ℕ) → T (served_in P s rest good i j w) ↔ ((u : ℕ) × (u < 16) × (T (bit good u) × ((l : ℕ) → l < 32 → T (bit rest l) → Substitutes P s i u j w l)))
  unfolding served_in
  served_in_iff rest good i j w = simp (any_iff, and_iff, covers_in_iff) Iff.rfl

  pub servers_in_iff : (rest good i j w u : ℕ) → T (bit (servers_in P s rest good i j w) u) ↔ ((u < 16) × T (bit good u) × ((l : ℕ) → l < 32 → T (bit rest l) → Substitutes P s i u j w l))
  servers_in_iff rest good i j w u = (
    λ h. let y = (lane_iff P s rest i good j w u).0 h in (y.0, y.1, λ l k o. (spoiler_iff F i u j w l None).0 (y.2 l k o)),
    λ y. (lane_iff P s rest i good j w u).1 (y.0, y.1, λ l k o. (spoiler_iff F i u j w l None).1 (y.2 l k o)),
  )

  -- where the others break
  pub broken_at : {rest good left broken i j w : ℕ} → BrokenIn P s rest good left broken i j w → (u : ℕ) → T (bit good u) → (T (bit left u) → ⊥) → (l : ℕ) × (l < 32) × T (bit broken l) × T (bit rest l) × (Substitutes P s i u j w l → ⊥)
  broken_at B u on off = let y = B.at u on off in (y.0, y.1, y.2, y.3, λ h. y.4 ((spoiler_iff F _ u _ _ y.0 None).1 h))

  -- some left: one of the set covers
  pub servers_some : (rest good i j w : ℕ) → servers_in P s rest good i j w ≢ 0 → (u : ℕ) × (u < 16) × (T (bit good u) × ((l : ℕ) → l < 32 → T (bit rest l) → Substitutes P s i u j w l))
  servers_some rest good i j w d =
      let y = (servers_in_iff rest good i j w _).0 (lowest_member 16 (servers_in P s rest good i j w) (servers_lt P s rest good i j w) d).1 in
      (lowest 16 (bit (servers_in P s rest good i j w)), y.0, (y.1, y.2))

  pub all_served_in_iff : (rest good bad j : ℕ) → T (all_served_in P s rest good bad j) ↔ ((w : ℕ) → w < 16 → (T (bit bad w) × (T (bit good w) → ⊥)) → ((u : ℕ) × (u < 16) × (T (bit good u) × ((l : ℕ) → l < 32 → T (bit rest l) → Substitutes P s j u j w l))))
  unfolding all_served_in
  all_served_in_iff rest good bad j = simp (all_iff, imp_iff, and_iff, not_iff, served_in_iff) Iff.rfl

pub others_iff : (x i l : ℕ) → i < 32 → l < 32 → T (bit (others x i) l) ↔ (T (bit x l) × (l ≢ i))
others_iff x i l p k = rw (bit_without32 x i l p k) (simp (and_iff, not_iff, eqb_iff) Iff.rfl)

pub thirds_iff : (x i j l : ℕ) → i < 32 → j < 32 → l < 32 → T (bit (thirds x i j) l) ↔ ((T (bit x l) × (l ≢ i)) × (l ≢ j))
thirds_iff x i j l p q k = rw (bit_without32 (without 32 x i) j l q k, bit_without32 x i l p k) (simp (and_iff, not_iff, eqb_iff) Iff.rfl)

-- a member is not a variable that is left out
pub apart : (x l i : ℕ) → bit x l ≡ true → bit x i ≡ false → l ≢ i
apart x l i p q e = clash (ap (λ (k : ℕ). bit x k) (sym e) ∙ p) q

-- what is not in a set is not in a part of it
pub part_out : (x y i : ℕ) → bit x i ≡ false → bit (bit_and x y) i ≡ false
part_out x y i e = bit_and_lem x y i ∙ ap (λ (b : Bool). b && bit y i) e

pub others_out : (x i : ℕ) → i < 32 → bit (others x i) i ≡ false
others_out x i p = T_false _ (λ h. ((others_iff x i i p p).0 h).1 refl)

pub thirds_out : (x i j : ℕ) → i < 32 → j < 32 → (bit (thirds x i j) i ≡ false) × (bit (thirds x i j) j ≡ false)
thirds_out x i j p q = (T_false _ (λ h. ((thirds_iff x i j i p q p).0 h).0.1 refl), T_false _ (λ h. ((thirds_iff x i j j p q q).0 h).1 refl))

module _ {t : List ℕ} {m : Masks} (R : Ready t m) where
  module _ (i a j b l : ℕ) where
    -- the values that spoil the cover at l, as a word
    abbrev pub spoilers_word : ℕ
    spoilers_word = bit_and (bit_and (get_or m.domains l 0) (row_word (held t) j l b)) (65535 - row_word (held t) i l a)

    spoils_word : (c : ℕ) → ((c < 16) × T (bit spoilers_word c)) ↔ ((c < (held t).size l) × T (spoils (held t) (state_of m) i a j b l c))
    spoils_word c = (
      λ x. let y = (and_iff (bit w c) (not (P.allowed i a l c))).0 (subst T (says x.0) x.1) in
          let o = (word_iff R j b l c).0 y.0 in
          (R.fits.live_lt l c o.0, (spoils_iff P (state_of m) i a j b l c).1 (o.0, (o.1, (not_iff (P.allowed i a l c)).0 y.1))),
      λ x. let y = (spoils_iff P (state_of m) i a j b l c).0 x.1 in
          let v = (live_value R l c y.0).value in
          (v, subst T (sym (says v)) ((and_iff (bit w c) (not (P.allowed i a l c))).1 ((word_iff R j b l c).1 (y.0, y.1.0), (not_iff (P.allowed i a l c)).1 y.1.1))),
    )
      where
        P : Problem
        P = held t

        w : ℕ
        w = bit_and (get_or m.domains l 0) (row_word (held t) j l b)

        says : c < 16 → bit spoilers_word c ≡ (bit w c && not (P.allowed i a l c))
        says v =
            bit_and_lem w (65535 - row_word P i l a) c
            ∙ ap (λ (x : Bool). bit w c && x) (bit_not16 (row_word P i l a) c (row_lt P i l a) v ∙ ap not (row_says R.table i l a c))

    -- the same from the words of the table, which may have bits that l lacks
    pub spoilers_raw : (p q : ℕ) → p ≡ rows_at j l → q ≡ rows_at i l → get_or t (q + a) 0 < 2 ^ 16 → Value t i a → Value t j b → l < 32 → l ≢ i → l ≢ j
        → bit_and (bit_and (get_or m.domains l 0) (get_or t (p + b) 0)) (65535 - get_or t (q + a) 0) ≡ spoilers_word
    spoilers_raw p q ep eq small vi vj k di dj =
        let own = domain_values R l k in
        let e : bit_and (get_or m.domains l 0) (get_or t (p + b) 0) ≡ w = ap (λ (x : ℕ). bit_and (get_or m.domains l 0) (get_or t (x + b) 0)) ep ∙ row_met R.table j b l vj.listed (λ z. dj (sym z)) (get_or m.domains l 0) own.small own.within in
        let part = part_values own (row_word (held t) j l b) in
        let f : bit_and w (get_or t (q + a) 0) ≡ bit_and w (row_word (held t) i l a) = ap (λ (x : ℕ). bit_and w (get_or t (x + a) 0)) eq ∙ row_met R.table i a l vi.listed (λ z. di (sym z)) w part.small part.within in
        ap (λ (x : ℕ). bit_and x (65535 - get_or t (q + a) 0)) e ∙ sym (without_met 16 w (get_or t (q + a) 0) part.small small)
        ∙ ap (λ (x : ℕ). bit_and w (65535 - x)) f ∙ without_met 16 w (row_word (held t) i l a) part.small (row_lt (held t) i l a)
      where
        w : ℕ
        w = bit_and (get_or m.domains l 0) (row_word (held t) j l b)

    pub spoilers_lt : l < 32 → spoilers_word < 2 ^ 16
    spoilers_lt k = lt_of_le_of_lt (and_le_l _ (65535 - row_word (held t) i l a)) (word_lt R l _ k)

    -- the cover test: the lowest of them
    pub spoiler_word : at_lowest 16 (bit spoilers_word) Some None ≡ spoiler (held t) (state_of m) i a j b l
    unfolding spoiler
    spoiler_word = at_lowest_same 16 ((held t).size l) (bit spoilers_word) (spoils (held t) (state_of m) i a j b l) Some None spoils_word

  pub other_loop : (i : ℕ) → i < 32 → (f : ℕ → Bool) → all_below 32 (λ l. imp (bit (others m.active i) l) (f l)) ≡ all_other (held t) (state_of m) i f
  unfolding state_of
  other_loop i p f =
      T_ext (
        λ h. (all_other_iff R.fits i f).1 (λ l o d. (simp (all_iff, imp_iff) at h) l (active_32 R l o) ((others_iff m.active i l p (active_32 R l o)).1 (o, d))),
        λ h. simp (all_iff, imp_iff) (λ l k u. let x = (others_iff m.active i l p k).0 u in (all_other_iff R.fits i f).0 h l x.0 x.1),
      )

  -- covering at every other variable
  pub cover_word : (i j a k b : ℕ) → i < 32 → covers_in (held t) (state_of m) (others m.active i) j a k b ≡ all_other (held t) (state_of m) i (λ l. unspoilt (spoiler (held t) (state_of m) j a k b l))
  cover_word i j a k b p = covers_all (held t) (state_of m) (others m.active i) j a k b ∙ other_loop i p (λ l. unspoilt (spoiler (held t) (state_of m) j a k b l))

  -- the first break at the other variables
  pub break_word : (i b a : ℕ) → i < 32 → first_break_in (held t) (state_of m) (others m.active i) i a i b ≡ first_break (held t) (state_of m) i b a
  unfolding first_break_in first_break state_of
  break_word i b a p = go (lowest_or f 32)
    where
      P : Problem
      P = held t

      rest : ℕ
      rest = others m.active i

      x : ℕ → Option ℕ
      x = spoiler_in P (state_of m) rest i a i b

      f : ℕ → Bool
      f l = not (unspoilt (x l))

      g : ℕ → Option (ℕ × ℕ)
      g l = break_at l (x l)

      h : ℕ → Option (ℕ × ℕ)
      h l = break_at l (spoiler P (state_of m) i a i b l)

      held_at : ℕ → Bool
      held_at l = unspoilt (spoiler P (state_of m) i a i b l)

      in_rest : (l : ℕ) → T (f l) → T (bit rest l) × (T (held_at l) → ⊥)
      in_rest l t = imp_fails (bit rest l) (held_at l) (λ u. (not_iff (unspoilt (x l))).0 t (subst T (sym (unspoilt_in P (state_of m) rest i a i b l)) u))

      to : (l : ℕ) → l < 32 → T (f l) → T (breaks P (state_of m) i b a l)
      to l k t =
          let y = in_rest l t in
          let o = (others_iff m.active i l p k).0 y.0 in
          (breaks_iff R.fits i b a l).1 (o.0, (o.1, λ h. y.1 ((unspoilt_iff R.fits i a i b l).1 h)))

      of : (l : ℕ) → l < 32 → T (breaks P (state_of m) i b a l) → T (f l)
      of l k t =
          let y = (breaks_iff R.fits i b a l).0 t in
          (not_iff (unspoilt (x l))).1 (λ u. y.1.1 ((unspoilt_iff R.fits i a i b l).0 ((imp_iff (bit rest l) (held_at l)).0 (subst T (unspoilt_in P (state_of m) rest i a i b l) u) ((others_iff m.active i l p k).1 (y.0, y.1.0)))))

      go : ((l : ℕ) × (l < 32) × T (f l) × ((n : ℕ) → n < l → T (f n) → ⊥)) ⊎ ((l : ℕ) → l < 32 → T (f l) → ⊥) → first_break_in P (state_of m) rest i a i b ≡ first_break P (state_of m) i b a
      go (inl (l, k, t, least)) =
          at_lowest_is f g None 32 l k t least
          ∙ ap (break_at l) (in_set P (state_of m) rest i a i b l (T_true (bit rest l) (in_rest l t).0))
          ∙ sym (at_lowest_is (breaks P (state_of m) i b a) h None P.n l (R.fits.active_lt l ((others_iff m.active i l p k).0 (in_rest l t).0).0) (to l k t) (λ n q u. least n q (of n (lt_trans q k) u)))
      go (inr none) =
          at_lowest_none f g None 32 none
          ∙ sym (at_lowest_none (breaks P (state_of m) i b a) h None P.n (λ l q u. let k = active_32 R l ((breaks_iff R.fits i b a l).0 u).0 in none l k (of l k u)))

  -- at a variable that has no block with i every value of i covers
  pub near_covers : (i a j b x : ℕ) → Value t i a → Near t i x → (l : ℕ) → l < 32 → l ≢ i → bit x l ≡ false → Substitutes (held t) (state_of m) i a j b l
  near_covers i a j b x v near l k d e c o al = near_free R.table i a l x v near k d e c (R.fits.live_lt l c o)

  near_spoiler : (i a j b x : ℕ) → Value t i a → Near t i x → (l : ℕ) → l < 32 → l ≢ i → bit x l ≡ false → spoiler (held t) (state_of m) i a j b l ≡ None
  near_spoiler i a j b x v near l k d e = (spoiler_iff R.fits i a j b l None).1 (near_covers i a j b x v near l k d e)

  -- so the first break among the neighbours of i is the first break
  module _ (rest i a j b x : ℕ) (v : Value t i a) (near : Near t i x) (out : bit rest i ≡ false) where
    near_in : (l : ℕ) → l < 32 → spoiler_in (held t) (state_of m) (bit_and rest x) i a j b l ≡ spoiler_in (held t) (state_of m) rest i a j b l
    near_in l k =
        ⊎_elim
        (λ e. ⊎_elim
        (λ n. in_set _ _ _ _ _ _ _ _ (bit_and_lem rest x l ∙ (λ k. e k && n k)) ∙ sym (in_set _ _ _ _ _ _ _ _ e))
        (λ n. off_set _ _ _ _ _ _ _ _ (bit_and_lem rest x l ∙ (λ k. e k && n k)) ∙ sym (in_set _ _ _ _ _ _ _ _ e ∙ near_spoiler i a j b x v near l k (apart rest l i e out) n))
        (split (bit x l)))
        (λ e. off_set _ _ _ _ _ _ _ _ (bit_and_lem rest x l ∙ ap (λ (y : Bool). y && bit x l) e) ∙ sym (off_set _ _ _ _ _ _ _ _ e))
        (split (bit rest l))

    pub near_break : first_break_in (held t) (state_of m) (bit_and rest x) i a j b ≡ first_break_in (held t) (state_of m) rest i a j b
    unfolding first_break_in
    near_break = at_lowest_ext 32 _ _ _ _ None (λ l k. ap (λ (y : Option ℕ). not (unspoilt y)) (near_in l k)) (λ l k. ap (break_at l) (near_in l k))

  -- the same with a set that is known to be the others
  pub other_by : (rest i : ℕ) → rest ≡ others m.active i → i < 32 → (f : ℕ → Bool) → all_below 32 (λ l. imp (bit rest l) (f l)) ≡ all_other (held t) (state_of m) i f
  other_by rest i e p f = rw e (other_loop i p f)

-- a member of the others of i is not i
pub other_apart : (rest x i j : ℕ) → rest ≡ others x i → i < 32 → bit rest j ≡ true → j ≢ i
other_apart rest x i j e p h = apart rest j i h (ap (λ (k : ℕ). bit k i) e ∙ others_out x i p)
