-- A table filled with a problem holds that problem, and its rows tell what is allowed, both ways round. Assumes nothing.
use mathlib.Core.Path.{◌≡◌, refl, sym, ap, ◌∙◌, subst}
use mathlib.Core.Bool.{Bool, true, false, not, ◌&&◌}
use mathlib.Core.Logic.{◌⊎◌, inl, inr, ⊎_elim, ◌≢◌, ◌↔◌}
use mathlib.Core.List.{List}
use Prim.Native.Nat.{ℕ, ◌+◌, ◌^◌, ◌≤◌, ◌<◌}
use native.Mathlib.Omega.{arith}
use native.Mathlib.Nat.{lt_of_le_of_lt}
use lib.Bits.{bit_and, and_le_l}
use lib.Dec.{T, eqb}
use lib.ListN.{get_or}
use lib.Pow.{pow_mono}
use borrow.Author.Tests.{lt-ltb, le-ltb}
use Rattle.bounded.specs.Quantifiers.{lowest}
use Rattle.bounded.specs.Mask.{bit, mask_of}
use Rattle.bounded.proofs.Truth.{T_ext, T_of, split, and_iff, not_iff, eqb_iff, ltb_iff, lt_dec}
use Rattle.bounded.proofs.Quantifiers.{lowest_unique, lowest_le, lowest_least}
use Rattle.bounded.proofs.Mask.{mask_lt, mask_is, mask_ext, bit_and_lem, bit_mask_all}
use Rattle.problem.specs.Problem.{Problem, size_sum}
use Rattle.problem.specs.Held.{row_word, rows_at, held_size, held_variables, held_value, row_allows, far_from, held_row, held, RowTable, Bounded, Two, Filled}
use Rattle.problem.proofs.Count.{sizes_within}
use Rattle.problem.proofs.Same.{problem_same}

pub held_value_iff : (t : List ℕ) (i a : ℕ) → T (held_value t i a) ↔ ((i < held_variables t) × (a < held_size t i))
unfolding held_value
held_value_iff t i a = (λ h. simp (and_iff, ltb_iff) at h, λ h. simp (and_iff, ltb_iff) h)

held_row_iff : (t : List ℕ) (i a j b : ℕ) → T (held_row t i a j b) ↔ ((T (held_value t i a) × (T (held_value t j b) × (i ≢ j))) × T (row_allows t i a j b))
unfolding held_row
held_row_iff t i a j b = (λ h. let x = (go guard).0 h in (simp (and_iff, not_iff, eqb_iff) at x.0, x.1), λ h. (go guard).1 (simp (and_iff, not_iff, eqb_iff) h.0, h.1))
  where
    guard : Bool
    guard = held_value t i a && (held_value t j b && not (eqb i j))

    go : (g : Bool) → T (elim g as (λ x. Bool) [ true ↦ row_allows t i a j b | false ↦ false ]) ↔ (T g × T (row_allows t i a j b))
    go true = (λ h. (tt, h), λ h. h.1)
    go false = (λ h. absurd h, λ h. h.0)

-- a table holds at most 32 variables
pub held_few : (t : List ℕ) → (held t).n ≤ 32
unfolding held held_variables
held_few t = lowest_le 32 (λ i. eqb (held_size t i) 0)

-- of at most 16 values each
pub held_narrow : {t : List ℕ} → RowTable t → (i : ℕ) → (held t).size i ≤ 16
unfolding held
held_narrow R i = R.narrow i

pub held_most : {t : List ℕ} → RowTable t → size_sum (held t) ≤ 512
held_most {t} R = sizes_within (held t) (held_few t) (held_narrow R)

-- an entry below 32 is a size
pub held_entry : (t : List ℕ) (i : ℕ) → i < 32 → (held t).size i ≡ get_or t i 0
unfolding held held_size
held_entry t i l = rw (lt-ltb i 32 l)

-- the sizes end at the first that is 0
pub held_lowest : (t : List ℕ) → (held t).n ≡ lowest 32 (λ i. eqb ((held t).size i) 0)
unfolding held held_variables
held_lowest t = refl

before_zero : (t : List ℕ) (i : ℕ) → i < held_variables t → held_size t i ≢ 0
unfolding held_variables
before_zero t i l e = lowest_least 32 (λ i. eqb (held_size t i) 0) i l ((eqb_iff (held_size t i) 0).1 e)

pos : (k : ℕ) → k ≢ 0 → 1 ≤ k
pos k d = elim (lt_dec 0 k) [ inl l ↦ omega arith | inr l ↦ absurd (d (omega arith)) ]

-- a filled table holds a bounded problem
pub held_bounded : {t : List ℕ} → RowTable t → Bounded (held t)
unfolding held
held_bounded {t} R =
    record {
      few = held_few t;
      some = λ i l. pos (held_size t i) (before_zero t i l);
      narrow = R.narrow;
      none = R.ended;
      listed = λ i a j b h.
          let x = ((held_row_iff t i a j b).0 (simp and_iff at h).0).0 in
          let y = (held_value_iff t i a).0 x.0 in
          let z = (held_value_iff t j b).0 x.1.0 in
          (y.0, y.1, z.0, z.1, x.1.1);
    }

-- a value that is below a size is one of the problem's
pub held_value_lem : {t : List ℕ} → RowTable t → (j c : ℕ) → c < (held t).size j → T (held_value t j c)
unfolding held
held_value_lem {t} R j c l =
    (held_value_iff t j c).1 (elim (lt_dec j (held_variables t)) [ inl m ↦ m | inr m ↦ absurd (let e = R.ended j m in omega arith) ], l)

-- ---- a row

-- a word with these bits is the row
pub row_only : (P : Problem) (i j a x : ℕ) → x < 2 ^ 16 → ((c : ℕ) → c < 16 → bit x c ≡ P.allowed i a j c) → x ≡ row_word P i j a
unfolding row_word
row_only P i j a x l h = mask_is 16 x (P.allowed i a j) l h

pub row_lt : (P : Problem) (i j a : ℕ) → row_word P i j a < 2 ^ 16
unfolding row_word
row_lt P i j a = mask_lt 16 (P.allowed i a j)

module _ {P : Problem} (B : Bounded P) (i j a : ℕ) where
  -- "In a row, the bit worth 2^c is set when setting c of j is allowed", and at no other c
  pub row_word_lem : (c : ℕ) → bit (row_word P i j a) c ≡ P.allowed i a j c
  unfolding row_word
  row_word_lem = bit_mask_all 16 (P.allowed i a j) (λ k t. omega (arith, B.narrow j, (B.listed i a j k t).3))

  -- the settings of j are all that it has bits for
  pub row_sized : row_word P i j a ≡ mask_of (P.size j) (P.allowed i a j)
  row_sized =
      let p : 2 ^ P.size j ≤ 2 ^ 16 = pow_mono (B.narrow j) in
      sym (row_only P i j a (mask_of (P.size j) (P.allowed i a j)) (omega (arith, mask_lt (P.size j) (P.allowed i a j)))
      (λ c l. bit_mask_all (P.size j) (P.allowed i a j) (λ k t. (B.listed i a j k t).3) c))

  pub row_within : row_word P i j a < 2 ^ P.size j
  row_within = rw row_sized (mask_lt (P.size j) (P.allowed i a j))

-- ---- a row of a table that can be read

module _ {t : List ℕ} (R : RowTable t) (i a j : ℕ) (one : T (held_value t i a)) (apart : i ≢ j) where
  -- either row tells
  pub held_row_tells : (b : ℕ) → T (held_value t j b) → bit (get_or t (rows_at i j + a) 0) b ≡ (held t).allowed i a j b
  unfolding held row_allows
  held_row_tells b other =
      T_ext (
        λ h. simp and_iff (
          (held_row_iff t i a j b).1 ((one, (other, apart)), h),
          (held_row_iff t j b i a).1 ((other, (one, λ e. apart (sym e))), subst T (R.turned i a j b one other apart) h),
        ),
        λ h. ((held_row_iff t i a j b).0 (simp and_iff at h).0).1,
      )

  -- a set of values of j, met with the word at the row's place, is met with the row
  pub row_met : (x : ℕ) → x < 2 ^ 16 → ((c : ℕ) → T (bit x c) → c < (held t).size j) → bit_and x (get_or t (rows_at i j + a) 0) ≡ bit_and x (row_word (held t) i j a)
  row_met x l within =
      mask_ext 16 (bit_and x (get_or t (rows_at i j + a) 0)) (bit_and x (row_word (held t) i j a))
      (lt_of_le_of_lt (and_le_l x _) l) (lt_of_le_of_lt (and_le_l x _) l)
      (λ c k. bit_and_lem x (get_or t (rows_at i j + a) 0) c ∙ ⊎_elim
      (λ e. ap (λ (z : Bool). bit x c && z) (held_row_tells c (held_value_lem R j c (within c (T_of e))) ∙ sym (row_word_lem (held_bounded R) i j a c)))
      (λ e. rw e)
      (split (bit x c)) ∙ sym (bit_and_lem x (row_word (held t) i j a) c))

  -- a variable without a block bars nothing
  pub far_free : far_from t i j ≡ true → (b : ℕ) → b < (held t).size j → T ((held t).allowed i a j b)
  unfolding row_allows
  far_free e b l =
      let other = held_value_lem R j b l in
      subst T (held_row_tells b other) (R.far i a j b one other apart e)

-- ---- the table of a problem

module _ {P : Problem} {t : List ℕ} (B : Bounded P) (F : Filled P t) where
  held_size_lem : (i : ℕ) → held_size t i ≡ P.size i
  unfolding held_size
  held_size_lem i = go (lt_dec i 32)
    where
      go : (i < 32) ⊎ (32 ≤ i) → held_size t i ≡ P.size i
      go (inl l) = rw (lt-ltb i 32 l) (F.sizes i l)
      go (inr l) = rw (le-ltb i 32 l) (sym (B.none i (omega (arith, B.few))))

  held_variables_lem : held_variables t ≡ P.n
  unfolding held_variables
  held_variables_lem =
      lowest_unique 32 (λ i. eqb (held_size t i) 0) P.n B.few
      (λ k l h. let e : held_size t k ≡ 0 = (eqb_iff (held_size t k) 0).0 h in omega (arith, B.some k l, held_size_lem k))
      (λ l. (eqb_iff (held_size t P.n) 0).1 (held_size_lem P.n ∙ B.none P.n (omega arith)))

  value_iff : (i a : ℕ) → T (held_value t i a) ↔ ((i < P.n) × (a < P.size i))
  value_iff i a =
      let e = held_variables_lem in
      let f = held_size_lem i in
      (λ h. let x = (held_value_iff t i a).0 h in (omega arith, omega arith), λ h. (held_value_iff t i a).1 (omega arith, omega arith))

  module _ (i a j b : ℕ) (x : T (held_value t i a)) (y : T (held_value t j b)) (d : i ≢ j) where
    two : Two P i j
    two = record { one = ((value_iff i a).0 x).0; other = ((value_iff j b).0 y).0; apart = d }

    says : row_allows t i a j b ≡ P.allowed i a j b
    says = F.rows i a j b two ((value_iff i a).0 x).1 ((value_iff j b).0 y).1

    free : far_from t i j ≡ true → T (row_allows t i a j b)
    free e = subst T (sym says) (F.far i a j b two ((value_iff i a).0 x).1 ((value_iff j b).0 y).1 e)

  filled_turned : (i a j b : ℕ) → T (held_value t i a) → T (held_value t j b) → i ≢ j → row_allows t i a j b ≡ row_allows t j b i a
  filled_turned i a j b x y d = says i a j b x y d ∙ P.symmetric i a j b ∙ sym (says j b i a y x (λ e. d (sym e)))

  held_allowed : (i a j b : ℕ) → (held_row t i a j b && held_row t j b i a) ≡ P.allowed i a j b
  held_allowed i a j b =
      T_ext (
        λ h. let x = (held_row_iff t i a j b).0 (simp and_iff at h).0 in subst T (says i a j b x.0.0 x.0.1.0 x.0.1.1) x.1,
        λ h. let x = B.listed i a j b h in
            let vi = (value_iff i a).1 (x.0, x.1) in
            let vj = (value_iff j b).1 (x.2, x.3) in
            let r : T (row_allows t i a j b) = subst T (sym (says i a j b vi vj x.4)) h in
            simp and_iff (
              (held_row_iff t i a j b).1 ((vi, (vj, x.4)), r),
              (held_row_iff t j b i a).1 ((vj, (vi, λ e. x.4 (sym e))), subst T (filled_turned i a j b vi vj x.4) r),
            ),
      )

  -- the problem that the table holds is the one that it is filled with: the same variables, sizes and relation
  pub held_filled : held t ≡ P
  unfolding held
  held_filled = problem_same (held t) P held_variables_lem held_size_lem held_allowed

  -- and the table can be read
  pub filled_rows : RowTable t
  filled_rows =
      record {
        located = F.located;
        narrow = λ i. omega (arith, held_size_lem i, B.narrow i);
        ended = λ i l. held_size_lem i ∙ B.none i (omega (arith, held_variables_lem));
        turned = filled_turned;
        far = λ i a j b x y d e. free i a j b x y d e;
      }
