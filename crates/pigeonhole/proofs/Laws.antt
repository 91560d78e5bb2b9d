-- Why a pigeonhole has no solution: the values of variables that all differ are as many as the variables. Assumes nothing.
use mathlib.Core.Path.{◌≡◌, refl, sym, ap, subst, ◌∙◌}
use mathlib.Core.Bool.{Bool, true, false, ◌||◌, cond}
use mathlib.Core.List.{List}
use mathlib.Core.Logic.{◌⊎◌, inl, inr, ◌≢◌, ⊎_elim}
use Prim.Native.Nat.{ℕ, zero, suc, ◌+◌, ◌/◌, ◌%◌, ◌^◌, ◌≤◌, ◌<◌}
use native.Mathlib.Nat.{lt_of_le_of_lt}
use native.Mathlib.Omega.{arith}
use lib.Bits.{bit_and, and_le_l, bit_or, or_lt}
use lib.Count.{ones, ones_step, ones-le}
use lib.Dec.{T, eqb}
use lib.ListN.{length, get_or, set, replicate, length-set}
use lib.Pow.{shr-shr}
use lib.Seq.{get_or-set_same, get_or-set_other}
use borrow.Author.Tests.{ne_eqb}
use Rattle.bounded.specs.Quantifiers.{sum_to, one_if, count_below}
use Rattle.bounded.specs.Mask.{bit, without}
use Rattle.bounded.proofs.Truth.{T_not, T_dec, and_iff, or_iff, eqb_iff, eq_dec, lt_dec}
use Rattle.bounded.proofs.Quantifiers.{count_le, count_lt}
use Rattle.bounded.proofs.Mask.{bit_and_lem, bit_or_lem, bit_none, bit_high, bit_without32}
use Rattle.bounded.proofs.Members.{Left, left_all, left_next, left_other, without_part, without_gone}
use Rattle.problem.specs.Problem.{Problem}
use Rattle.problem.specs.Held.{held, row_word, RowTable}
use Rattle.problem.specs.Masks.{state_of, sets}
use Rattle.problem.specs.Sentences.{Allowed, Solution}
use Rattle.problem.proofs.HeldTable.{held_bounded}
use Rattle.held.proofs.Laws.{row_says}
use Rattle.pigeonhole.specs.Pigeonhole.{Apart, ApartIf, AllApart, Rows, Differs, Pigeonhole, Unsolved}

-- ---- apart

-- none of the values below k is allowed at both
pub record ApartBelow (P : Problem) (i j k : ℕ) : Type 0 where
  pub never : (a : ℕ) → a < k → Allowed P i a j a → ⊥

pub apart_none : (P : Problem) (i j : ℕ) → ApartBelow P i j 0
apart_none P i j = record { never = λ a l h. omega arith }

module _ {t : List ℕ} (R : RowTable t) (i j : ℕ) where
  pub below_more : (k : ℕ) → ApartBelow (held t) i j k → bit (row_word (held t) i j k) k ≡ false → ApartBelow (held t) i j (k + 1)
  below_more k B e = record { never = λ a l h. go a l h (eq_dec a k) }
    where
      go : (a : ℕ) → a < k + 1 → Allowed (held t) i a j a → (a ≡ k) ⊎ (a ≢ k) → ⊥
      go a l h (inl g) = T_not (sym (row_says R i j k k) ∙ e) (subst (λ (z : ℕ). Allowed (held t) i z j z) g h)
      go a l h (inr d) = B.never a (omega arith) h

  -- a value that is allowed is one of the problem's
  pub below_end : (k : ℕ) → (held t).size i ≤ k → ApartBelow (held t) i j k → Apart (held t) i j
  below_end k l B = record { never = λ a h. B.never a (omega (arith, ((held_bounded R).listed i a j a h).1)) h }

-- ---- a row of them

-- the members of `far` that are not in `rest` are apart from i
pub record Sifted (P : Problem) (i far rest : ℕ) : Type 0 where
  pub small : far < 2 ^ 32
  pub each : (j : ℕ) → T (bit far j) → (T (bit rest j) → ⊥) → Apart P i j

pub sift_none : (P : Problem) (i far : ℕ) → far < 2 ^ 32 → Sifted P i far far
sift_none P i far l = record { small = l; each = λ j on off. absurd (off on) }

small : (n x j : ℕ) → x < 2 ^ n → T (bit x j) → j < n
small n x j l t = elim (lt_dec j n) [ inl h ↦ h | inr h ↦ absurd (T_not (bit_high n x j l h) t) ]

-- j is apart, and stays
pub sift_kept : (P : Problem) (i far rest : ℕ) {b : Bool} (j : ℕ) → j < 32 → ApartIf P i j b → b ≡ true → Sifted P i far rest → Sifted P i far (without 32 rest j)
sift_kept P i far rest j l H e S = record { small = S.small; each = λ k on off. go k on off (T_dec (bit rest k)) }
  where
    go : (k : ℕ) → T (bit far k) → (T (bit (without 32 rest j) k) → ⊥) → T (bit rest k) ⊎ (T (bit rest k) → ⊥) → Apart P i k
    go k on off (inl y) = subst (Apart P i) (sym (without_gone 32 bit_without32 rest j l k (small 32 far k S.small on) y off)) (H.apart e)
    go k on off (inr n) = S.each k on n

-- j goes
pub sift_gone : (P : Problem) (i far rest : ℕ) (j : ℕ) → j < 32 → Sifted P i far rest → Sifted P i (without 32 far j) (without 32 rest j)
sift_gone P i far rest j l S = record { small = less; each = λ k on off. go k on off (T_dec (bit rest k)) }
  where
    less : without 32 far j < 2 ^ 32
    less = lt_of_le_of_lt (and_le_l far _) S.small

    go : (k : ℕ) → T (bit (without 32 far j) k) → (T (bit (without 32 rest j) k) → ⊥) → T (bit rest k) ⊎ (T (bit rest k) → ⊥) → Apart P i k
    go k on off (inl y) =
        let m : k < 32 = small 32 (without 32 far j) k less on in
        absurd (left_other 32 bit_without32 far j (left_all 32 (without 32 far j) less) refl l m on (without_gone 32 bit_without32 rest j l k m y off))
    go k on off (inr n) = S.each k (without_part 32 far j k on) n

-- j stays or goes
pub sift_more : (P : Problem) (i far rest : ℕ) (b : Bool) (j : ℕ) → j < 32 → ApartIf P i j b → Sifted P i far rest → Sifted P i (cond b far (without 32 far j)) (without 32 rest j)
sift_more P i far rest true j l H S = sift_kept P i far rest j l H refl S
sift_more P i far rest false j l H S = sift_gone P i far rest j l S

pub sift_end : (P : Problem) (i far rest : ℕ) → rest ≡ 0 → Sifted P i far rest → AllApart P i far
sift_end P i far rest e S = record { each = λ j on. S.each j on (λ y. T_not (ap (λ (z : ℕ). bit z j) e ∙ bit_none j) y) }

-- ---- all rows

zeros : (n k : ℕ) → ◌≡◌ {A = ℕ} (get_or (replicate n 0) k 0) 0
zeros zero k = refl
zeros (suc n) zero = refl
zeros (suc n) (suc k) = zeros n k

-- an entry that is not yet written has no variable
pub record RowsWritten (P : Problem) (far : List ℕ) : Type 0 where
  pub long : length far ≡ 32
  pub rows : Rows P far

pub rows_written_none : (P : Problem) → RowsWritten P (replicate 32 0)
rows_written_none P = record { long = refl; rows = record { row = λ i. record { each = λ j h. absurd (T_not (ap (λ (x : ℕ). bit x j) (zeros 32 i) ∙ bit_none j) h) } } }

pub rows_written_more : {P : Problem} {far : List ℕ} (i x : ℕ) → i < 32 → AllApart P i x → RowsWritten P far → RowsWritten P (set far i x)
rows_written_more {P} {far} i x l A W = record { long = length-set far i x ∙ W.long; rows = record { row = λ k. go k (eq_dec k i) } }
  where
    go : (k : ℕ) → (k ≡ i) ⊎ (k ≢ i) → AllApart P k (get_or (set far i x) k 0)
    go k (inl e) = rw (e, get_or-set_same far i x 0 (omega (arith, W.long))) A
    go k (inr d) = rw (get_or-set_other far i k x 0 d) (W.rows.row k)

-- ---- members of a set

sum_first : (n : ℕ) (f : ℕ → ℕ) → sum_to (suc n) f ≡ f 0 + sum_to n (λ k. f (suc k))
unfolding sum_to
sum_first zero f = omega arith
sum_first (suc n) f = omega (arith, sum_first n f)

lowest_digit : (x : ℕ) → one_if (bit x 0) ≤ x % 2
lowest_digit x = let e : x / 2 ^ 0 ≡ x = omega arith in rw e (go (x % 2))
  where
    go : (d : ℕ) → one_if (eqb d 1) ≤ d
    go zero = omega arith
    go (suc zero) = omega arith
    go (suc (suc d)) = rw (ne_eqb (suc (suc d)) 1 (λ e. omega arith)) (omega arith)

-- the members below n are no more than the set bits
pub count_ones : (n x : ℕ) → count_below n (bit x) ≤ ones x
unfolding count_below sum_to
count_ones zero x = omega arith
count_ones (suc n) x =
    let e : sum_to n (λ k. one_if (bit x (suc k))) ≡ sum_to n (λ k. one_if (bit (x / 2) k)) = λ i. sum_to n (λ k. one_if (next k i)) in
    omega (arith, sum_first n (λ k. one_if (bit x k)), e, count_ones n (x / 2), ones_step x, lowest_digit x)
  where
    next : (k : ℕ) → bit x (suc k) ≡ bit (x / 2) k
    next k = ap (λ (n : ℕ). eqb (n % 2) 1) (sym (shr-shr x 1 k ∙ ap (λ (m : ℕ). x / 2 ^ m) (omega arith)))

-- ---- the values taken

-- `test` has at least `count` values, all of `values`, and no variable of `rest` has one of them in q
pub record Chosen (q : ℕ → ℕ) (rest values count : ℕ) : Type 0 where
  pub test : ℕ → Bool
  pub counts : count ≤ count_below 16 test
  pub within : (c : ℕ) → T (test c) → T (bit values c)
  pub other : (k c : ℕ) → T (bit rest k) → T (test c) → q k ≢ c

-- so it is with every q that differs
pub record Takes (active : ℕ) (on far : List ℕ) (rest values count : ℕ) : Type 0 where
  pub narrow : values < 2 ^ 16
  pub taken : (q : ℕ → ℕ) → Differs active on far q → Chosen q rest values count

pub take_none : (active : ℕ) (on far : List ℕ) (rest : ℕ) → Takes active on far rest 0 0
take_none active on far rest = record { narrow = omega arith; taken = λ q D. record { test = λ c. false; counts = omega arith; within = λ c h. absurd h; other = λ k c h g. absurd g } }

-- what is left once j is taken
abbrev pub left_of : (far : List ℕ) (rest j : ℕ) → ℕ
left_of far rest j = bit_and (without 32 rest j) (get_or far j 0)

pub left_both : {active rest : ℕ} (far : List ℕ) (j : ℕ) → Left 32 active rest → Left 32 active (left_of far rest j)
left_both {rest = rest} far j L =
    let N = left_next j L in
    record { small = lt_of_le_of_lt (and_le_l (without 32 rest j) _) N.small; part = λ c t. N.part c ((and_iff (bit (without 32 rest j) c) (bit (get_or far j 0) c)).0 (subst T (bit_and_lem (without 32 rest j) (get_or far j 0) c) t)).0 }

pub take_more : {active : ℕ} {on far : List ℕ} {rest values count : ℕ} (j : ℕ) → Left 32 active rest → j < 32 → T (bit rest j) → get_or on j 0 < 2 ^ 16
    → Takes active on far rest values count → Takes active on far (left_of far rest j) (bit_or values (get_or on j 0)) (count + 1)
take_more {active} {on} {far} {rest} {values} {count} j L l hj lt K = record { narrow = or_lt 16 values (get_or on j 0) K.narrow lt; taken = step }
  where
    step : (q : ℕ → ℕ) → Differs active on far q → Chosen q (left_of far rest j) (bit_or values (get_or on j 0)) (count + 1)
    step q D = record { test = f; counts = omega (arith, more, X.counts); within = within; other = other }
      where
        X : Chosen q rest values count
        X = K.taken q D

        f : ℕ → Bool
        f c = X.test c || eqb c (q j)

        here : T (bit (get_or on j 0) (q j))
        here = D.among j (L.part j hj)

        more : count_below 16 X.test < count_below 16 f
        more =
            count_lt 16 X.test f (λ c m h. (or_iff (X.test c) (eqb c (q j))).1 (inl h)) (q j) (small 16 (get_or on j 0) (q j) lt here)
            (λ h. X.other j (q j) hj h refl) ((or_iff (X.test (q j)) (eqb (q j) (q j))).1 (inr ((eqb_iff (q j) (q j)).1 refl)))

        within : (c : ℕ) → T (f c) → T (bit (bit_or values (get_or on j 0)) c)
        within c h =
            subst T (sym (bit_or_lem values (get_or on j 0) c)) ((or_iff (bit values c) (bit (get_or on j 0) c)).1
            (⊎_elim (λ y. inl (X.within c y)) (λ y. inr (subst (λ (z : ℕ). T (bit (get_or on j 0) z)) (sym ((eqb_iff c (q j)).0 y)) here)) ((or_iff (X.test c) (eqb c (q j))).0 h)))

        other : (k c : ℕ) → T (bit (left_of far rest j) k) → T (f c) → q k ≢ c
        other k c hk h e =
            let y = (and_iff (bit (without 32 rest j) k) (bit (get_or far j 0) k)).0 (subst T (bit_and_lem (without 32 rest j) (get_or far j 0) k) hk) in
            let m : k < 32 = small 32 (without 32 rest j) k (left_next j L).small y.0 in
            let d : k ≢ j = left_other 32 bit_without32 rest j (left_all 32 (without 32 rest j) (left_next j L).small) refl l m y.0 in
            let r : T (bit rest k) = without_part 32 rest j k y.0 in
            ⊎_elim
            (λ g. X.other k c r g e)
            (λ g. D.differ j k (L.part j hj) (L.part k r) (λ b. d (sym b)) y.1 (sym (e ∙ (eqb_iff c (q j)).0 g)))
            ((or_iff (X.test c) (eqb c (q j))).0 h)

-- not more than the values that they have together: at most 16
pub at_most : {active : ℕ} {on far : List ℕ} {rest values count : ℕ} → Takes active on far rest values count → count ≤ ones values → count ≤ 16
at_most {values = values} K l = omega (arith, ones-le 16 values K.narrow)

-- more than the values that they have together
pub too_many : {active : ℕ} {on far : List ℕ} {rest values count : ℕ} → Takes active on far rest values count → ones values < count → (b : Bool) → Pigeonhole active on far b
too_many {values = values} K l b =
    record {
      none = λ e q D. let X = K.taken q D in omega (arith, X.counts, count_le 16 X.test (bit values) (λ c m. X.within c), count_ones 16 values);
    }

-- ---- a state

-- a solution differs where the rows say so
pub solution_differs : (t : List ℕ) {active : ℕ} {on far : List ℕ} → Rows (held t) far → (q : ℕ → ℕ) → Solution (held t) (state_of (sets active on)) q → Differs active on far q
unfolding state_of
solution_differs t R q A =
    record {
      among = A.live;
      differ = λ i j hi hj d h e. ((R.row i).each j h).never (q i) (subst (λ (c : ℕ). Allowed (held t) i (q i) j c) (sym e) (A.ok i j hi hj d));
    }

pub pigeonhole_unsolved : (t : List ℕ) {active : ℕ} {on far : List ℕ} → Rows (held t) far → (b : Bool) → Pigeonhole active on far b → b ≡ true → (r : Bool) → Unsolved (held t) (state_of (sets active on)) r
pigeonhole_unsolved t R b C e r = record { none = λ _ S. C.none e S.0 (solution_differs t R S.0 S.1) }
