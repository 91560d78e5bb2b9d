-- What is left of the goals of a variable once the values of others were asked, and that these are its slides. Assumes nothing.
use mathlib.Core.Path.{◌≡◌, sym, ap, ◌∙◌, subst}
use mathlib.Core.Bool.{Bool, false, not, ◌&&◌}
use mathlib.Core.List.{List}
use mathlib.Core.Logic.{◌⊎◌, inl, inr, ⊎_elim, ◌≢◌, ◌↔◌}
use Prim.Native.Nat.{ℕ, ◌^◌, ◌<◌}
use native.Mathlib.Nat.{lt_of_le_of_lt}
use lib.Bits.{bit_and, bit_or, and_le_l}
use lib.Dec.{T, eqb}
use lib.ListN.{get_or}
use lib.Pow.{pow_pos}
use borrow.Author.Tests.{ne_eqb}
use Rattle.bounded.specs.Quantifiers.{any_below}
use Rattle.bounded.specs.Mask.{bit, mask_of, without}
use Rattle.bounded.proofs.Truth.{T_of, T_dec, T_false, split, eq_dec, and_iff, or_iff}
use Rattle.bounded.proofs.Quantifiers.{any_iff}
use Rattle.bounded.proofs.Mask.{bit_and_lem, bit_or_lem, bit_none, bit_mask, bit_without16, bit_without32, mask_ext, member_lt, member_some, with_keeps, with_has}
use Rattle.bounded.proofs.Members.{without_part, without_gone}
use Rattle.problem.specs.Problem.{Problem, State, substitution_spares}
use Rattle.problem.specs.Held.{row_word, held}
use Rattle.problem.specs.Masks.{state_of}
use Rattle.problem.specs.declared.Masks.{Masks}
use Rattle.problem.proofs.Reflect.{turn}
use Rattle.problem.specs.Sentences.{Live, Allowed, SnakeSubstitution}
use Rattle.rests.specs.Rests.{Rests, Of, Broken}
use Rattle.rests.proofs.Rests.{rests_fails, rests_more, substitution_rests}
use Rattle.held.specs.Ready.{Ready, Values, Near, Among}
use Rattle.held.proofs.Laws.{near_free, live_value, active_32, word_iff, domain_among}
use Rattle.cover.specs.Words.{servers_in, others, thirds}
use Rattle.cover.specs.Broken.{BrokenIn}
use Rattle.cover.proofs.Laws.{servers_in_iff, servers_lt, broken_at, others_iff, thirds_iff}
use Rattle.support.specs.Words.{supported_by, partners_of}
use Rattle.snake_substitution.proofs.Words.{without_still}
use Rattle.snake_substitution.specs.Parts.{Goal, Goals, AllGoals, NoGoal, Closed, Limited, Served, Narrowed, AllTried}

-- ---- the values of i that are allowed with one of a set

module _ (P : Problem) (domain set k i : ℕ) (small : domain < 2 ^ 16) (narrow : set < 2 ^ 16) where
  abbrev reached_of : ℕ
  reached_of = bit_and domain (partners_of P set k i)

  reached_iff : (a : ℕ) → T (bit reached_of a) ↔ (T (bit domain a) × ((e : ℕ) × T (bit set e) × Allowed P k e i a))
  unfolding partners_of
  reached_iff a = (
    λ h. let y = (and_iff (bit domain a) (bit (mask_of 16 f) a)).0 (subst T (bit_and_lem domain (mask_of 16 f) a) h) in
        let z = (any_iff 16 (supported_by P set k i a)).0 (subst T (bit_mask 16 f a (member_lt 16 domain a small y.0)) y.1) in
        let w = (and_iff (bit set z.0) (P.allowed k z.0 i a)).0 z.2 in
        (y.0, (z.0, w.0, w.1)),
    λ y. let e = y.1.0 in
        subst T (sym (bit_and_lem domain (mask_of 16 f) a)) ((and_iff (bit domain a) (bit (mask_of 16 f) a)).1 (
          y.0,
          subst T (sym (bit_mask 16 f a (member_lt 16 domain a small y.0))) ((any_iff 16 (supported_by P set k i a)).1 (e, member_lt 16 set e narrow y.1.1, (and_iff (bit set e) (P.allowed k e i a)).1 (y.1.1, y.1.2))),
        )),
  )
    where
      f : ℕ → Bool
      f c = any_below 16 (supported_by P set k i c)

  -- with none of an empty one
  pub reached_none : set ≡ 0 → 0 ≡ reached_of
  reached_none e =
      mask_ext 16 0 reached_of (pow_pos 16) (lt_of_le_of_lt (and_le_l domain _) small)
      (λ a l. bit_none a ∙ sym (T_false _ (λ h. let y = ((reached_iff a).0 h).1 in member_some set y.0 y.1 e)))

-- ---- goals narrowed

-- what was asked: the values of k that are not left, and those of the variables other than i that are not left
abbrev pub Past : (k left : ℕ) → ℕ → ℕ → Type 0
Past k left l c = (l ≡ k) × (T (bit left c) → ⊥)

abbrev pub Away : (i left : ℕ) → ℕ → ℕ → Type 0
Away i left l c = (l ≢ i) × (T (bit left l) → ⊥)

module _ {P : Problem} {s : State} {i : ℕ} where
  pub goals_part : {asked : ℕ → ℕ → Type 0} {x y : List ℕ} {r : ℕ} → Goals s i x → Narrowed P s i asked x y r → Goals s i y
  goals_part G N = record { long = N.long; live = λ b a h. G.live b a (N.part b a h) }

  -- none need go where each has what is asked
  narrowed_none : {asked : ℕ → ℕ → Type 0} {x : List ℕ} {r : ℕ} → Goals s i x → ((b a : ℕ) → Goal x b a → (k d : ℕ) → asked k d → Live s k d → Allowed P i b k d → Served P s i k d a) → Narrowed P s i asked x x r
  narrowed_none G f = record { long = G.long; part = λ b a h. h; served = f; gone = λ b a h n. absurd (n h) }

  -- asked twice
  narrowed_more : {A B asked : ℕ → ℕ → Type 0} {x y z : List ℕ} {r q : ℕ} → Narrowed P s i A x y r → Narrowed P s i B y z q → ((k d : ℕ) → asked k d → Live s k d → A k d ⊎ B k d) → Narrowed P s i asked x z (bit_or r q)
  narrowed_more {y = y} {r = r} {q} N M f =
      record {
        long = M.long;
        part = λ b a h. N.part b a (M.part b a h);
        served = λ b a h k d t o al. ⊎_elim (λ u. N.served b a (M.part b a h) k d u o al) (λ u. M.served b a h k d u o al) (f k d t o);
        gone = λ b a h n. elim (T_dec (bit (get_or y b 0) a)) [
          | inl g ↦ rests_more (M.gone b a g n) (λ l c t. subst T (sym (bit_or_lem r q l)) ((or_iff (bit r l) (bit q l)).1 (inr t)))
          | inr g ↦ rests_more (N.gone b a h g) (λ l c t. subst T (sym (bit_or_lem r q l)) ((or_iff (bit r l) (bit q l)).1 (inl t)))
        ];
      }

  -- asked no more than that, or of no goal
  narrowed_end : {A asked : ℕ → ℕ → Type 0} {x y : List ℕ} {r : ℕ} → Narrowed P s i A x y r → ((k d : ℕ) → asked k d → A k d) ⊎ NoGoal y → Narrowed P s i asked x y r
  narrowed_end N f =
      record {
        long = N.long;
        part = N.part;
        served = λ b a h k d t o al. ⊎_elim (λ g. N.served b a h k d (g k d t) o al) (λ g. absurd (g.none b a h)) f;
        gone = N.gone;
      }

module _ {t : List ℕ} {m : Masks} (R : Ready t m) where
  abbrev P : Problem
  P = held t

  abbrev s : State
  s = state_of m

  -- beside a value that it is allowed with d serves for itself
  self_serves : (i k d a : ℕ) → Live s k d → Allowed P i a k d → Served P s i k d a
  self_serves i k d a o al = (d, o, (al, λ l act ne sp c oc ac. ac))

  -- ---- one value of another variable asked

  -- the values that serve are values of their variable
  pub servers_values : (rest good k d : ℕ) {left : ℕ} → Among m k good → left ≡ servers_in P s rest good k k d → Values t k left
  servers_values rest good k d A e =
      rw e (record {
        small = servers_lt P s rest good k k d;
        within = λ u h. R.fits.live_lt k u (A.live u ((servers_in_iff R.fits rest good k k d u).0 h).1);
      })

  pub others_among : (k d : ℕ) → Among m k (without 16 (get_or m.domains k 0) d)
  others_among k d = record { live = λ u h. (domain_among R k).live u (without_part 16 (get_or m.domains k 0) d u h) }

  module _ (rest i k d : ℕ) (e : rest ≡ thirds m.active i k) (p : i < 32) (q : k < 32) (n : k ≢ i) (on : T (bit (get_or m.domains k 0) d)) where
    third : (l : ℕ) → l < 32 → T (bit rest l) ↔ ((T (bit m.active l) × (l ≢ i)) × (l ≢ k))
    third l x = rw e (thirds_iff m.active i k l p q x)

    -- the values of i that are allowed with d
    module _ {set : ℕ} (own : set ≡ bit_and (get_or m.domains i 0) (row_word P k i d)) where
      set_iff : (a : ℕ) → T (bit set a) ↔ (Live s i a × Allowed P i a k d)
      set_iff a = let w = word_iff R k d i a in rw own (λ h. let y = w.0 h in (y.0, turn P k d i a y.1), λ y. w.1 (y.0, turn P i a k d y.1))

      -- nothing is asked of goals that are all among them
      pub narrowed_idle : {x : List ℕ} → Goals s i x → Closed set x → Narrowed P s i (λ l c. (l ≡ k) × (c ≡ d)) x x 0
      narrowed_idle {x} G C = narrowed_none G (λ b a h l c u. rw (u.0, u.1) (λ o al.
          let v = G.live b a h in
          self_serves i k d a o ((set_iff a).0 (C.within b a (live_value R i a v.1).value ((set_iff b).1 (v.0, al)) h)).1))

      -- else goals are kept that are among them, or that are allowed with one that serves for d
      module _ {x y : List ℕ} {good left broken reach : ℕ} (G : Goals s i x) (other : good ≡ without 16 (get_or m.domains k 0) d) (is : left ≡ servers_in P s rest good k k d) (B : BrokenIn P s rest good left broken k k d)
          (near : reach ≡ bit_and (get_or m.domains i 0) (partners_of P left k i)) (L : Limited set (bit_or set reach) x y) where
        reach_iff : (a : ℕ) → T (bit reach a) ↔ (T (bit (get_or m.domains i 0) a) × ((e : ℕ) × T (bit left e) × Allowed P k e i a))
        reach_iff a = rw near (reached_iff P (get_or m.domains i 0) left k i (R.proper.domain_lt i p) (subst (λ (z : ℕ). z < 2 ^ 16) (sym is) (servers_lt P s rest good k k d)) a)

        kept_iff : (a : ℕ) → T (bit (bit_or set reach) a) ↔ (T (bit set a) ⊎ T (bit reach a))
        kept_iff a = rw (bit_or_lem set reach a) (or_iff (bit set a) (bit reach a))

        keeps : (b a : ℕ) → Goal y b a → Allowed P i b k d → Served P s i k d a
        unfolding state_of
        keeps b a h al =
            let z = L.to b a h in
            ⊎_elim
            (λ u. self_serves i k d a on ((set_iff a).0 u).1)
            (λ u.
            let w = ((reach_iff a).0 u).1 in
            let c = (servers_in_iff R.fits rest good k k d w.0).0 (subst (λ (z : ℕ). T (bit z w.0)) is w.1) in (
              w.0,
              without_part 16 (get_or m.domains k 0) d w.0 (subst (λ (z : ℕ). T (bit z w.0)) other c.1),
              (turn P k w.0 i a w.2, λ l act ne sp. c.2 l (active_32 R l act) ((third l (active_32 R l act)).1 ((act, λ e. sp (tt, e)), ne))),
            ))
            ((kept_iff a).0 (z.1 ((set_iff b).1 ((G.live b a z.0).0, al))))

        -- a goal that goes is no slide: b is allowed with d, and each value that is allowed with a breaks
        goes : (b a : ℕ) → Live s i a → T (bit set b) → (T (bit (bit_or set reach) a) → ⊥) → Rests P s (λ q. SnakeSubstitution P q substitution_spares i b a) (Of (bit_or broken (2 ^ k)))
        unfolding state_of
        goes b a alive at off =
            substitution_rests i b a k d n on (with_has broken k) ((set_iff b).0 at).1 (λ u o al. by u o al (eq_dec u d) (T_dec (bit left u)))
          where
            by : (u : ℕ) → Live s k u → Allowed P i a k u → (u ≡ d) ⊎ (u ≢ d) → T (bit left u) ⊎ (T (bit left u) → ⊥) → Broken P s (Of (bit_or broken (2 ^ k))) (λ l. (l ≢ i) × (l ≢ k)) k u k d
            by u o al (inl z) w = absurd (off ((kept_iff a).1 (inl ((set_iff a).1 (alive, subst (λ (u : ℕ). Allowed P i a k u) z al)))))
            by u o al (inr z) (inl w) = absurd (off ((kept_iff a).1 (inr ((reach_iff a).1 (alive, (u, w, turn P i a k u al))))))
            by u o al (inr z) (inr w) =
                let y = broken_at R.fits B u (subst (λ (z : ℕ). T (bit z u)) (sym other) (without_still (get_or m.domains k 0) d u (live_value R k d on).value (live_value R k u o).value o z)) w in
                let v = (third y.0 y.1).0 y.3 in
                (y.0, (v.0.1, v.1), λ c. with_keeps broken k y.0 y.2, y.4)

        pub narrowed_limits : Narrowed P s i (λ l c. (l ≡ k) × (c ≡ d)) x y (bit_or broken (2 ^ k))
        narrowed_limits =
            record {
              long = L.long;
              part = λ b a h. (L.to b a h).0;
              served = λ b a h l c u. rw (u.0, u.1) (λ o al. keeps b a h al);
              gone = λ b a h g.
                  let alive = (G.live b a h).1 in
                  let still = L.from b a (live_value R i a alive).value h in
                  elim (T_dec (bit set b)) [ inl at ↦ goes b a alive at (λ z. g (still (λ _. z))) | inr off ↦ absurd (g (still (λ z. absurd (off z)))) ];
            }

  -- ---- all values of a variable, one after another

  pub values_first : {i : ℕ} {x : List ℕ} (k : ℕ) → Goals s i x → Narrowed P s i (Past k (get_or m.domains k 0)) x x 0
  unfolding state_of
  values_first k G = narrowed_none G (λ b a h l c u o. absurd (u.1 (subst (λ (l : ℕ). T (bit (get_or m.domains l 0) c)) u.0 o)))

  pub values_next : {i r q : ℕ} {x y z : List ℕ} (k left d : ℕ) → d < 16 → Narrowed P s i (Past k left) x y r → Narrowed P s i (λ l c. (l ≡ k) × (c ≡ d)) y z q → Narrowed P s i (Past k (without 16 left d)) x z (bit_or r q)
  values_next k left d w N M =
      narrowed_more N M (λ l c u o. elim (T_dec (bit left c)) [ inl on ↦ inr (u.0, without_gone 16 bit_without16 left d w c (live_value R l c o).value on u.1) | inr off ↦ inl (u.0, off) ])

  pub values_end : {i r : ℕ} {x y : List ℕ} (k left : ℕ) → left ≡ 0 → Narrowed P s i (Past k left) x y r → Narrowed P s i (λ l c. l ≡ k) x y r
  values_end k left e N = narrowed_end N (inl (λ l c u. (u, λ h. member_some left c h e)))

  -- ---- all variables, one after another

  -- what has no block with i bars nothing: each of its values serves for itself
  pub variables_first : {i rest near : ℕ} {x : List ℕ} → rest ≡ others m.active i → i < 32 → Near t i near → Goals s i x → Narrowed P s i (Away i (bit_and rest near)) x x 0
  unfolding state_of
  variables_first {i} {rest} {near} e p N G =
      narrowed_none G (λ b a h l c u o al. self_serves i l c a o (near_free R.table i a l near (live_value R i a (G.live b a h).1) N (active_32 R l (active l c o)) u.0 (far l c u o) c (R.fits.live_lt l c o)))
    where
      active : (l c : ℕ) → T (bit (get_or m.domains l 0) c) → T (bit m.active l)
      active l c o = R.fits.live_active l c o

      far : (l c : ℕ) → Away i (bit_and rest near) l c → T (bit (get_or m.domains l 0) c) → bit near l ≡ false
      far l c u o =
          ⊎_elim
          (λ z. absurd (u.1 (subst T (sym (bit_and_lem rest near l)) ((and_iff (bit rest l) (bit near l)).1 (rw e ((others_iff m.active i l p (active_32 R l (active l c o))).1 (active l c o, u.0)), T_of z)))))
          (λ z. z)
          (split (bit near l))

  pub variables_next : {i r q : ℕ} {x y z : List ℕ} (left k : ℕ) → k < 32 → Narrowed P s i (Away i left) x y r → Narrowed P s i (λ l c. l ≡ k) y z q → Narrowed P s i (Away i (without 32 left k)) x z (bit_or r q)
  variables_next left k w N M =
      narrowed_more N M (λ l c u o. elim (T_dec (bit left l)) [ inl on ↦ inr (without_gone 32 bit_without32 left k w l (active_32 R l (R.fits.live_active l c o)) on u.1) | inr off ↦ inl (u.0, off) ])

  -- none is left to ask, or no goal
  pub variables_end : {i r : ℕ} {x y : List ℕ} (left : ℕ) (some : Bool) → (not (eqb left 0) && some) ≡ false → (some ≡ false → NoGoal y) → Narrowed P s i (Away i left) x y r → Narrowed P s i (λ l c. l ≢ i) x y r
  variables_end left some e f N = narrowed_end N (⊎_elim (λ z. inl (λ l c u. (u, λ h. member_some left l h z))) (λ d. inr (f (sym (ap (λ (z : Bool). not z && some) (ne_eqb left 0 d)) ∙ e))) (eq_dec left 0))

  -- ---- the goals left are the slides

  pub all_within : {i : ℕ} {x : List ℕ} → AllGoals (get_or m.domains i 0) x → Goals s i x
  unfolding state_of
  all_within A = record { long = A.long; live = λ b a h. let z = (A.goal b a).0 h in (z.0, z.1) }

  module _ {i r : ℕ} {x y : List ℕ} (A : AllGoals (get_or m.domains i 0) x) (N : Narrowed P s i (λ l c. l ≢ i) x y r) where
    -- a pair of values that could slide was a goal at first
    first_goal : (b a : ℕ) → Live s i b → Live s i a → a ≢ b → Goal x b a
    unfolding state_of
    first_goal b a p q d = (A.goal b a).1 (p, q, d)

    goal_iff : (b a : ℕ) → Goal y b a ↔ SnakeSubstitution P s substitution_spares i b a
    unfolding state_of
    goal_iff b a = (
      λ h. let z = (A.goal b a).0 (N.part b a h) in (z.0, (z.1, (z.2, λ k act d c o al. N.served b a h k c d o al))),
      λ S. elim (T_dec (bit (get_or y b 0) a)) [ inl h ↦ h | inr g ↦ absurd (rests_fails R.fits (N.gone b a (first_goal b a S.0 S.1.0 S.1.1.0) g) S) ],
    )

    -- where there is none, each pair that could be one has gone, for what its failure rests on
    pub all_tried : AllTried P s i y r
    all_tried =
        record {
          holds = goal_iff;
          fails = λ none q F B K S.
              let b = S.0 in
              let a = S.1 in
              N.gone b a (first_goal b a (B.live i b S.2.0) (B.live i a S.2.1.0) S.2.1.1.0) (none b a) q F B K S.2;
        }
