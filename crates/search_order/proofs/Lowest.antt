-- The lowest step over all variables is the lowest of its kind; what finds a step, as sentences; and what a loop over the members of a set,
-- the lowest first, knows of the step that it looks for. Assumes nothing.
use Rattle.std.specs.Prelude.{Some, None}
use mathlib.Core.Path.{◌≡◌, refl, sym}
use mathlib.Core.Bool.{Bool, true, false}
use mathlib.Core.List.{List}
use mathlib.Core.Logic.{◌⊎◌, inl, inr, ⊎_elim}
use Prim.Native.Nat.{ℕ, zero, suc, ◌≤◌, ◌<◌}
use lib.Dec.{T}
use Rattle.bounded.specs.Quantifiers.{lowest}
use Rattle.bounded.specs.Mask.{bit}
use Rattle.bounded.proofs.Truth.{T_true, T_false}
use Rattle.bounded.proofs.Members.{Sought, sought_least, sought_none}
use Rattle.problem.specs.Problem.{Problem, State, substitution_spares, unsupported, snake, triangle, neighbourhood, snake_substitution}
use Rattle.problem.specs.Run.{step_if, first, is_step, next_unsupported, next_snake, next_triangle, next_neighbourhood, next_snake_substitution_by, next_of_kind_by, next_of_kind}
use Rattle.problem.specs.Held.{held}
use Rattle.problem.specs.Masks.{state_of}
use Rattle.problem.specs.declared.Masks.{Masks}
use Rattle.problem.specs.declared.Record.{Record}
use Rattle.problem.specs.declared.Record.TheVariants as record·
use Rattle.problem.proofs.Reflect.{unsupported_iff, snake_iff, triangle_iff, neighbourhood_iff, snake_substitution_iff}
use Rattle.problem.specs.Sentences.{Live}
use Rattle.problem.proofs.HeldTable.{held_few, held_narrow}
use Rattle.problem.proofs.Run.{first_where, step_if_found}
use Rattle.problem.proofs.Search.{step_is, nothing_is, first_off, first_at, wide_two, wide_three, outside}
use Rattle.held.specs.Ready.{Ready}
use Rattle.held.proofs.Bounds.{no_variable, no_value}
use Rattle.search_order.specs.Lowest.{field_bound, step_at, step_from}

-- ---- one test, or the lowest of several

-- a step that a test made: the test holds
pub made_holds : (b : Bool) (r : Record) → T (is_step (step_if b r)) → T b
unfolding step_if
made_holds true r h = tt
made_holds false r h = absurd h

-- a step among several: the test of one of them holds
pub first_holds : (n : ℕ) (f : ℕ → Bool) (r : ℕ → Record) → T (is_step (first n (λ k. step_if (f k) (r k)))) → (k : ℕ) × T (f k)
first_holds n f r h =
    let x = step_is _ (T_true _ h) in
    let y = first_where n _ x.0 x.1 in
    (y.0, step_if_found (λ z. T (f y.0)) _ _ (λ z. z) _ y.2)

-- ---- a loop over the members of a set, the lowest first: those that find a step are still left

module _ (P : Problem) (s : State) (kind i : ℕ) where
  abbrev pub Seeking : (set left : ℕ) → Type 0
  Seeking = Sought (field_bound kind) (λ c. is_step (step_at P s kind i c))

  module _ {set left : ℕ} (S : Seeking set left) where
    -- the lowest left finds a step
    pub seeking_hit : {c : ℕ} {r : Record} → c ≡ lowest (field_bound kind) (bit left) → c < field_bound kind → step_at P s kind i c ≡ Some r → Some r ≡ step_from P s kind i
    unfolding step_from
    seeking_hit {c} e l h = sym (first_at (field_bound kind) _ c _ l (λ d q. nothing_is _ (T_false _ (sought_least S e d q))) h)

    -- none is left
    pub seeking_end : left ≡ 0 → None ≡ step_from P s kind i
    unfolding step_from
    seeking_end e = sym (first_off (field_bound kind) _ (λ d q. nothing_is _ (T_false _ (sought_none S e d q))))

-- ---- numbers that no kind has

pub no_kind : (P : Problem) (s : State) (k i : ℕ) → (k ≡ 1 → ⊥) → (k ≡ 2 → ⊥) → (k ≡ 3 → ⊥) → (k ≡ 4 → ⊥) → (k ≡ 5 → ⊥) → None ≡ step_from P s k i
unfolding step_from step_at
no_kind P s zero i a b c d e = sym (first_off 16 _ (λ c k. refl))
no_kind P s (suc zero) i a b c d e = absurd (a refl)
no_kind P s (suc (suc zero)) i a b c d e = absurd (b refl)
no_kind P s (suc (suc (suc zero))) i a b c d e = absurd (c refl)
no_kind P s (suc (suc (suc (suc zero)))) i a b c d e = absurd (d refl)
no_kind P s (suc (suc (suc (suc (suc zero))))) i a b c d e = absurd (e refl)
no_kind P s (suc (suc (suc (suc (suc (suc k)))))) i a b c d e = sym (first_off 16 _ (λ c k. refl))

-- ---- over all variables

module _ {t : List ℕ} {m : Masks} (R : Ready t m) where
  abbrev P : Problem
  P = held t

  abbrev s : State
  s = state_of m

  -- two values of i that are in its domain are within the bounds
  two : (i b a : ℕ) → Live s i b → Live s i a → (P.n ≤ i) ⊎ ((P.size i ≤ b) ⊎ (P.size i ≤ a)) → ⊥
  two i b a x y o = ⊎_elim (λ l. no_value R i b (inl l) x) (λ q. ⊎_elim (λ l. no_value R i b (inr l) x) (λ l. no_value R i a (inr l) y) q) o

  pub lowest_from : (kind : ℕ) → first 32 (step_from P s kind) ≡ next_of_kind P s kind
  unfolding step_from step_at next_of_kind_by next_unsupported next_snake next_triangle next_neighbourhood next_snake_substitution_by
  lowest_from zero = first_off 32 _ (λ i l. first_off 16 _ (λ c k. refl))
  lowest_from (suc zero) =
      wide_three (λ i b k. step_if (unsupported P s i b k) (record·.Unsupported i b k)) P.n P.size (λ i. P.n) 32 16 32 (held_few t) (held_narrow R.table) (λ i. held_few t)
      (λ i b k o. outside _ _ (λ x. let y = (unsupported_iff R.fits i b k).0 x in ⊎_elim (λ l. no_value R i b (inl l) y.0) (λ q. ⊎_elim (λ l. no_value R i b (inr l) y.0) (λ l. no_variable R k l y.1) q) o))
  lowest_from (suc (suc zero)) =
      wide_two (λ i v. step_if (snake P s i v) (record·.Snake i v)) P.n P.size 32 16 (held_few t) (held_narrow R.table)
      (λ i v o. outside _ _ (λ x. no_value R i v o ((snake_iff R.fits i v).0 x).0))
  lowest_from (suc (suc (suc zero))) =
      wide_two (λ i j. step_if (triangle P s i j) (record·.Triangle i j)) P.n (λ i. P.n) 32 32 (held_few t) (λ i. held_few t)
      (λ i j o. outside _ _ (λ x. let y = (triangle_iff R.fits i j).0 x in ⊎_elim (λ l. no_variable R i l y.0) (λ l. no_variable R j l y.1.0) o))
  lowest_from (suc (suc (suc (suc zero)))) =
      wide_three (λ i b a. step_if (neighbourhood P s i b a) (record·.Neighbourhood i b a)) P.n P.size P.size 32 16 16 (held_few t) (held_narrow R.table) (held_narrow R.table)
      (λ i b a o. outside _ _ (λ x. let y = (neighbourhood_iff R.fits i b a).0 x in two i b a y.0 y.1.0 o))
  lowest_from (suc (suc (suc (suc (suc zero))))) =
      wide_three (λ i b a. step_if (snake_substitution P s substitution_spares i b a) (record·.SnakeSubstitution i b a)) P.n P.size P.size 32 16 16 (held_few t) (held_narrow R.table) (held_narrow R.table)
      (λ i b a o. outside _ _ (λ x. let y = (snake_substitution_iff R.fits substitution_spares i b a).0 x in two i b a y.0 y.1.0 o))
  lowest_from (suc (suc (suc (suc (suc (suc k)))))) = first_off 32 _ (λ i l. first_off 16 _ (λ c k. refl))
