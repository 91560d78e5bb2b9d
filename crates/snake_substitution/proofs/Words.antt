-- Goals word by word: loops over the 16 words that store them, and that gather them in one. Assumes nothing.
use mathlib.Core.Path.{◌≡◌, refl, sym, ap, ◌∙◌, subst}
use mathlib.Core.Bool.{Bool, true, false, cond, not}
use mathlib.Core.List.{List}
use mathlib.Core.Logic.{inl, inr, ⊎_elim, ◌≢◌, ◌↔◌}
use Prim.Native.Nat.{ℕ, ◌+◌, ◌-◌, ◌^◌, ◌≤◌, ◌<◌}
use native.Mathlib.Nat.{not-suc-le-zero}
use native.Mathlib.Numerals.{add-one}
use native.Mathlib.Omega.{arith}
use lib.Bits.{bit_and, bit_or}
use lib.Dec.{T, eqb}
use lib.ListN.{length, get_or, set, length-set, get_or-eq_default}
use lib.Seq.{get_or-set_same, get_or-set_other}
use Rattle.bounded.specs.Mask.{bit, without}
use Rattle.bounded.proofs.Truth.{T_of, T_not, T_dec, and_iff, or_iff, not_iff, eqb_iff, lt_dec, at_or_below}
use Rattle.bounded.proofs.Mask.{bit_and_lem, bit_or_lem, bit_none, bit_not16, bit_without16, full_bit, member_lt, member_some}
use Rattle.bounded.proofs.Members.{without_part, without_other}
use Rattle.snake_substitution.specs.Parts.{Goal, AllGoals, NoGoal, Closed, Limited}

-- beyond the words there is no goal
pub goal_lt : (goals : List ℕ) → length goals ≡ 16 → (b a : ℕ) → Goal goals b a → b < 16
goal_lt goals e b a h =
    ⊎_elim (λ l. l) (λ l. absurd (T_not (ap (λ (x : ℕ). bit x a) (get_or-eq_default goals 0 {n = b} (omega arith)) ∙ bit_none a) h)) (lt_dec b 16)

-- ---- words stored one by one

-- those below n are f's, the others as they were
pub record Stored (f : ℕ → ℕ) (before after : List ℕ) (n : ℕ) : Type 0 where
  pub long : length after ≡ 16
  pub done : (b : ℕ) → b < n → get_or after b 0 ≡ f b
  pub ahead : (b : ℕ) → n ≤ b → get_or after b 0 ≡ get_or before b 0

pub stored_none : (f : ℕ → ℕ) (goals : List ℕ) → length goals ≡ 16 → Stored f goals goals 0
stored_none f goals e = record { long = e; done = λ b l. absurd (not-suc-le-zero l); ahead = λ b l. refl }

pub stored_more : {f : ℕ → ℕ} {before after : List ℕ} {n : ℕ} (y : ℕ) → n < 16 → y ≡ f n → Stored f before after n → Stored f before (set after n y) (n + 1)
stored_more {f} {before} {after} {n} y l e w =
    record {
      long = length-set after n y ∙ w.long;
      done = λ b m.
          ⊎_elim
          (λ q. subst (λ (j : ℕ). get_or (set after n y) j 0 ≡ f j) (sym q) (get_or-set_same after n y 0 (omega (arith, w.long)) ∙ e))
          (λ (q : b < n). get_or-set_other after n b y 0 (λ z. absurd (omega arith)) ∙ w.done b q)
          (at_or_below (rw add-one at m));
      ahead = λ b m. get_or-set_other after n b y 0 (λ z. absurd (omega arith)) ∙ w.ahead b (omega arith);
    }

-- a word that is taken under a condition
where_iff : (t : Bool) (x a : ℕ) → T (bit (cond t x 0) a) ↔ (T t × T (bit x a))
where_iff true x a = (λ h. (tt, h), λ y. y.1)
where_iff false x a = (λ h. absurd (T_not (bit_none a) h), λ y. absurd y.0)

-- what is not taken out stays
pub without_still : (x b a : ℕ) → b < 16 → a < 16 → T (bit x a) → a ≢ b → T (bit (without 16 x b) a)
without_still x b a l k h d = subst T (sym (bit_without16 x b a l k)) ((and_iff (bit x a) (not (eqb a b))).1 (h, (not_iff (eqb a b)).1 (λ t. d ((eqb_iff a b).0 t))))

-- each value of the domain has each other
abbrev pub others_of : (domain b : ℕ) → ℕ
others_of domain b = cond (bit domain b) (without 16 domain b) 0

pub all_stored : {before after : List ℕ} (domain n : ℕ) → domain < 2 ^ 16 → 16 ≤ n → Stored (others_of domain) before after n → AllGoals domain after
all_stored {before} {after} domain n small l w =
    record {
      long = w.long;
      goal = λ b a. (
        λ h. let k = goal_lt after w.long b a h in
            let y = (where_iff (bit domain b) (without 16 domain b) a).0 (subst (λ (x : ℕ). T (bit x a)) (w.done b (omega arith)) h) in
            let on = without_part 16 domain b a y.1 in
            (y.0, on, without_other 16 bit_without16 domain b k a (member_lt 16 domain a small on) y.1),
        λ y. let k = member_lt 16 domain b small y.0 in
            subst (λ (x : ℕ). T (bit x a)) (sym (w.done b (omega arith)))
            ((where_iff (bit domain b) (without 16 domain b) a).1 (y.0, without_still domain b a k (member_lt 16 domain a small y.1) y.1 y.2)),
      );
    }

-- a word keeps its members, or under a condition those of `kept`
abbrev pub limited_word : (set kept : ℕ) (goals : List ℕ) (b : ℕ) → ℕ
limited_word set kept goals b = bit_and (get_or goals b 0) (65535 - cond (bit set b) (65535 - kept) 0)

limit_to : (t : Bool) (x kept a : ℕ) → kept < 2 ^ 16 → T (bit (bit_and x (65535 - cond t (65535 - kept) 0)) a) → T (bit x a) × (T t → T (bit kept a))
limit_to true x kept a l h =
    let e : 65535 - (65535 - kept) ≡ kept = omega arith in
    let y = (and_iff (bit x a) (bit kept a)).0 (subst T (bit_and_lem x kept a) (subst (λ (z : ℕ). T (bit (bit_and x z) a)) e h)) in
    (y.0, λ _. y.1)
limit_to false x kept a l h = (((and_iff (bit x a) (bit 65535 a)).0 (subst T (bit_and_lem x 65535 a) h)).0, λ t. absurd t)

limit_from : (t : Bool) (x kept a : ℕ) → kept < 2 ^ 16 → a < 16 → T (bit x a) → (T t → T (bit kept a)) → T (bit (bit_and x (65535 - cond t (65535 - kept) 0)) a)
limit_from true x kept a l k h f =
    let e : 65535 - (65535 - kept) ≡ kept = omega arith in
    subst (λ (z : ℕ). T (bit (bit_and x z) a)) (sym e) (subst T (sym (bit_and_lem x kept a)) ((and_iff (bit x a) (bit kept a)).1 (h, f tt)))
limit_from false x kept a l k h f = subst T (sym (bit_and_lem x 65535 a)) ((and_iff (bit x a) (bit 65535 a)).1 (h, T_of (full_bit 16 a k)))

pub limit_stored : {before after : List ℕ} (set kept n : ℕ) → set < 2 ^ 16 → kept < 2 ^ 16 → length before ≡ 16 → 16 ≤ n → Stored (limited_word set kept before) before after n → Limited set kept before after
limit_stored {before} {after} set kept n small narrow long l w =
    record {
      long = w.long;
      to = λ b a h. limit_to (bit set b) (get_or before b 0) kept a narrow (subst (λ (x : ℕ). T (bit x a)) (w.done b (omega (arith, goal_lt after w.long b a h))) h);
      from = λ b a k h f. subst (λ (x : ℕ). T (bit x a)) (sym (w.done b (omega (arith, goal_lt before long b a h)))) (limit_from (bit set b) (get_or before b 0) kept a narrow k h f);
    }

-- ---- words gathered in one

-- it has the members of those below n
pub record Gathered (f : ℕ → ℕ) (n x : ℕ) : Type 0 where
  pub has : (b a : ℕ) → b < n → T (bit (f b) a) → T (bit x a)

pub gathered_none : (f : ℕ → ℕ) → Gathered f 0 0
gathered_none f = record { has = λ b a l h. absurd (not-suc-le-zero l) }

pub gathered_more : {f : ℕ → ℕ} {n x : ℕ} (y : ℕ) → y ≡ f n → Gathered f n x → Gathered f (n + 1) (bit_or x y)
gathered_more {f} {n} {x} y e w =
    record {
      has = λ b a l h. subst T (sym (bit_or_lem x y a)) ((or_iff (bit x a) (bit y a)).1 (⊎_elim
          (λ q. inr (subst (λ (z : ℕ). T (bit z a)) (ap f q ∙ sym e) h))
          (λ q. inl (w.has b a q h))
          (at_or_below (rw add-one at l))));
    }

-- those of a set, which have nothing beside it
pub closed_gathered : (set : ℕ) (goals : List ℕ) (n x : ℕ) → set < 2 ^ 16 → 16 ≤ n → Gathered (λ b. cond (bit set b) (get_or goals b 0) 0) n x → bit_and x (65535 - set) ≡ 0 → Closed set goals
closed_gathered set goals n x small l w e =
    record {
      within = λ b a k t h.
          let on = w.has b a (omega (arith, member_lt 16 set b small t)) ((where_iff (bit set b) (get_or goals b 0) a).1 (t, h)) in
          elim (T_dec (bit set a)) [
            | inl y ↦ y
            | inr n ↦ absurd (member_some (bit_and x (65535 - set)) a (subst T (sym (bit_and_lem x (65535 - set) a)) ((and_iff (bit x a) (bit (65535 - set) a)).1 (on, subst T (sym (bit_not16 set a small k)) ((not_iff (bit set a)).1 n)))) e)
          ];
    }

-- all of them, which have nothing
pub none_gathered : {goals : List ℕ} (n x : ℕ) → length goals ≡ 16 → 16 ≤ n → Gathered (λ b. get_or goals b 0) n x → x ≡ 0 → NoGoal goals
none_gathered {goals} n x long l w e = record { none = λ b a h. member_some x a (w.has b a (omega (arith, goal_lt goals long b a h)) h) e }
