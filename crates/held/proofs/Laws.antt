-- Rows of a table and sets of a state that fits it, as words. Assumes nothing.
use mathlib.Core.Path.{◌≡◌, sym, ap, ◌∙◌, subst}
use mathlib.Core.Bool.{Bool, true, false, not, ◌&&◌}
use mathlib.Core.Logic.{inl, inr, ◌≢◌, ◌↔◌}
use mathlib.Core.List.{List}
use Prim.Native.Nat.{ℕ, ◌+◌, ◌^◌, ◌≤◌, ◌<◌}
use native.Mathlib.Omega.{arith}
use native.Mathlib.Nat.{lt_of_le_of_lt}
use lib.Dec.{T, eqb, ltb}
use lib.Bits.{bit_and, and_le_l}
use lib.ListN.{get_or}
use borrow.Author.Tests.{not-false}
use Rattle.bounded.specs.Quantifiers.{imp, all_below, any_below}
use Rattle.bounded.specs.Mask.{bit, mask_of}
use Rattle.bounded.proofs.Truth.{T_ext, T_of, T_dec, T_false, and_iff, imp_iff, not_iff, ltb_iff}
use Rattle.bounded.proofs.Quantifiers.{all_iff, any_iff}
use Rattle.bounded.proofs.Mask.{bit_and_lem, bit_mask, bit_mask_all, mask_lt, zero_bits}
use Rattle.problem.specs.Problem.{Problem, State, all_active, any_live}
use Rattle.problem.specs.Held.{row_word, rows_at, held_size, held_variables, held, RowTable}
use Rattle.problem.specs.Masks.{state_of}
use Rattle.problem.specs.declared.Masks.{Masks}
use Rattle.problem.proofs.Reflect.{all_active_iff, any_live_iff}
use Rattle.problem.specs.Sentences.{Active, Live, Allowed, Fits}
use Rattle.problem.proofs.HeldTable.{row_word_lem, row_only, held_row_tells, row_met, held_bounded, held_few, held_narrow, held_value_lem, held_value_iff, far_free}
use Rattle.held.specs.Ready.{Ready, Value, Values, Near, Among}

module _ {P : Problem} {s : State} (F : Fits P s) where
  pub all_active_32 : P.n ≤ 32 → (f : ℕ → Bool) → all_below 32 (λ l. imp (s.active l) (f l)) ≡ all_active P s f
  all_active_32 few f =
      T_ext (
        λ h. (all_active_iff F f).1 (λ l o. (simp (all_iff, imp_iff) at h) l (omega (arith, F.active_lt l o)) o),
        λ h. simp (all_iff, imp_iff) (λ l k o. (all_active_iff F f).0 h l o),
      )

-- a row of a filled table, bit by bit
pub row_says : {t : List ℕ} → RowTable t → (i j a c : ℕ) → bit (row_word (held t) i j a) c ≡ (held t).allowed i a j c
row_says R = row_word_lem (held_bounded R)

-- The word of the table that the cover test reads, as it stands there: at each setting c of j its bit is set exactly where c is allowed. Of
-- bits beyond the size of j nothing is said; met with a set of values of j, as each reader of the word has it, they count for nothing.
pub row_read : {t : List ℕ} → RowTable t → (i a j : ℕ) → Value t i a → j ≢ i
    → ((c : ℕ) → c < (held t).size j → bit (get_or t (rows_at i j + a) 0) c ≡ (held t).allowed i a j c)
    × ((x : ℕ) → Values t j x → (c : ℕ) → bit (bit_and x (get_or t (rows_at i j + a) 0)) c ≡ (bit x c && (held t).allowed i a j c))
row_read R i a j v d = (
  λ c k. held_row_tells R i a j v.listed (λ e. d (sym e)) c (held_value_lem R j c k),
  λ x vs c. ap (λ (y : ℕ). bit y c) (row_met R i a j v.listed (λ e. d (sym e)) x vs.small vs.within) ∙ bit_and_lem x _ c ∙ ap (λ (b : Bool). bit x c && b) (row_says R i j a c),
)

-- the values that j has, as a set
pub all_values : {t : List ℕ} → RowTable t → (j : ℕ) → Values t j (mask_of 16 (λ c. ltb c ((held t).size j)))
all_values {t} R j =
    record {
      small = mask_lt 16 (λ c. ltb c ((held t).size j));
      within = λ c h. (ltb_iff c ((held t).size j)).0 (subst T (bit_mask_all 16 (λ c. ltb c ((held t).size j)) (λ k l. omega (arith, held_narrow R j, (ltb_iff k ((held t).size j)).0 l)) c) h);
    }

-- met with them a row is the same
pub row_all : {t : List ℕ} → RowTable t → (i j a : ℕ) → bit_and (mask_of 16 (λ c. ltb c ((held t).size j))) (row_word (held t) i j a) ≡ row_word (held t) i j a
row_all {t} R i j a =
    row_only (held t) i j a (bit_and all (row_word (held t) i j a)) (lt_of_le_of_lt (and_le_l all _) (mask_lt 16 (λ c. ltb c ((held t).size j))))
    (λ c l. bit_and_lem all (row_word (held t) i j a) c ∙ T_ext (
      λ h. subst T (row_says R i j a c) ((and_iff (bit all c) (bit (row_word (held t) i j a) c)).0 h).1,
      λ h. (and_iff (bit all c) (bit (row_word (held t) i j a) c)).1 (
        subst T (sym (bit_mask 16 (λ c. ltb c ((held t).size j)) c l)) ((ltb_iff c ((held t).size j)).1 ((held_bounded R).listed i a j c h).3),
        subst T (sym (row_says R i j a c)) h,
      ),
    ))
  where
    all : ℕ
    all = mask_of 16 (λ c. ltb c ((held t).size j))

-- no two values of one variable are allowed
pub allowed_apart : {t : List ℕ} → RowTable t → (i a j b : ℕ) → j ≡ i → false ≡ (held t).allowed i a j b
allowed_apart R i a j b e = sym (T_false _ (λ h. ((held_bounded R).listed i a j b h).4 (sym e)))

-- a part of a set of values
pub part_values : {t : List ℕ} {j x : ℕ} → Values t j x → (y : ℕ) → Values t j (bit_and x y)
part_values {t} {j} {x} vs y =
    record {
      small = lt_of_le_of_lt (and_le_l x y) vs.small;
      within = λ c h. vs.within c ((and_iff (bit x c) (bit y c)).0 (subst T (bit_and_lem x y c) h)).0;
    }

-- ---- neighbours

-- a variable that is not a neighbour of i bars nothing with a value of i
pub near_free : {t : List ℕ} → RowTable t → (i a j x : ℕ) → Value t i a → Near t i x → j < 32 → j ≢ i → bit x j ≡ false → (b : ℕ) → b < (held t).size j → Allowed (held t) i a j b
near_free {t} R i a j x v near l d e b k = far_free R i a j v.listed (λ q. d (sym q)) (not-false _ (sym (near.all j l) ∙ e)) b k

module _ {t : List ℕ} {m : Masks} (R : Ready t m) where
  -- a value in a domain is a value of the problem
  pub live_value : (i a : ℕ) → Live (state_of m) i a → Value t i a
  unfolding held
  live_value i a o =
      let p : i < held_variables t = R.fits.active_lt i (R.fits.live_active i a o) in
      let q : a < held_size t i = R.fits.live_lt i a o in
      record { variable = omega (arith, held_few t); value = omega (arith, R.table.narrow i); listed = (held_value_iff t i a).1 (p, q) }

  pub active_32 : (l : ℕ) → Active (state_of m) l → l < 32
  active_32 l o = omega (arith, R.fits.active_lt l o, held_few t)

  -- a domain is a set of values of its variable
  pub domain_values : (j : ℕ) → j < 32 → Values t j (get_or m.domains j 0)
  unfolding state_of
  domain_values j k = record { small = R.proper.domain_lt j k; within = λ c h. R.fits.live_lt j c h }

  -- the members of a domain that are allowed with a value
  pub word_iff : (i v j c : ℕ) → T (bit (bit_and (get_or m.domains j 0) (row_word (held t) i j v)) c) ↔ (Live (state_of m) j c × Allowed (held t) i v j c)
  unfolding state_of
  word_iff i v j c = (
    λ h. let x = (simp (bit_and_lem, and_iff) at h) in (x.0, subst T (row_says R.table i j v c) x.1),
    λ x. simp (bit_and_lem, and_iff) (x.0, subst T (sym (row_says R.table i j v c)) x.1),
  )

  pub word_lt : (j y : ℕ) → j < 32 → bit_and (get_or m.domains j 0) y < 2 ^ 16
  word_lt j y k = lt_of_le_of_lt (and_le_l (get_or m.domains j 0) y) (R.proper.domain_lt j k)

  pub word_among : (i v j : ℕ) → Among m j (bit_and (get_or m.domains j 0) (row_word (held t) i j v))
  word_among i v j = record { live = λ u h. ((word_iff i v j u).0 h).0 }

  -- a domain with a value in it
  pub some_word : (l : ℕ) → l < 32 → not (eqb (get_or m.domains l 0) 0) ≡ any_live (held t) (state_of m) l (λ c. true)
  unfolding state_of
  some_word l q =
      ap not (zero_bits 16 (get_or m.domains l 0) (R.proper.domain_lt l q))
      ∙ T_ext (
        λ h. elim (T_dec (any_below 16 (bit (get_or m.domains l 0)))) [
          | inl t ↦ let x = (any_iff 16 (bit (get_or m.domains l 0))).0 t in (any_live_iff R.fits l (λ c. true)).1 (x.0, x.2, tt)
          | inr n ↦ absurd ((not_iff (not (any_below 16 (bit (get_or m.domains l 0))))).0 h ((not_iff (any_below 16 (bit (get_or m.domains l 0)))).1 n))
        ],
        λ h. let x = (any_live_iff R.fits l (λ c. true)).0 h in
            (not_iff (not (any_below 16 (bit (get_or m.domains l 0))))).1 (λ n. (not_iff (any_below 16 (bit (get_or m.domains l 0)))).0 n ((any_iff 16 (bit (get_or m.domains l 0))).1 (x.0, (live_value l x.0 x.1).value, x.1))),
      )

  pub active_loop : (f : ℕ → Bool) → all_below 32 (λ l. imp (bit m.active l) (f l)) ≡ all_active (held t) (state_of m) f
  unfolding state_of
  active_loop f = all_active_32 R.fits (held_few t) f

  -- a value whose bit is set is a value of the problem
  pub bit_value : (i a : ℕ) → bit (get_or m.domains i 0) a ≡ true → Value t i a
  unfolding state_of
  bit_value i a e = live_value i a (T_of e)

  pub domain_among : (i : ℕ) → Among m i (get_or m.domains i 0)
  unfolding state_of
  domain_among i = record { live = λ u h. h }
