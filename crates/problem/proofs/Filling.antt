-- A table that shows of each pair what a problem allows is filled with it. Assumes nothing.
use mathlib.Core.Path.{◌≡◌, ◌∙◌, subst}
use mathlib.Core.Bool.{Bool, true}
use mathlib.Core.Logic.{◌⊎◌, inl, inr, ⊎_elim}
use mathlib.Core.List.{List}
use Prim.Native.Nat.{ℕ, ◌≤◌, ◌<◌}
use native.Mathlib.Omega.{arith}
use lib.Dec.{T}
use lib.ListN.{get_or}
use Rattle.bounded.proofs.Truth.{lt_dec}
use Rattle.problem.specs.Problem.{Problem}
use Rattle.problem.specs.Held.{place_at, row_allows, far_from, Located, Bounded, Two, Filled}
use Rattle.problem.specs.Filling.{Shows, Entered}

-- the list of places is still there after a block is entered
pub entered_located : {t rows u : List ℕ} {i j : ℕ} → Located t → Entered t i j rows u → Located u
entered_located l e = record { long = e.long ∙ l.long; places = λ k m lk lm. e.front (place_at k m) (omega arith) ∙ l.places k m lk lm }

-- ---- filled pair by pair

-- what is asked of the pair i < j, at the values that they have, both ways round
pub record PairFilled (P : Problem) (t : List ℕ) (i j : ℕ) : Type 0 where
  pub own : (a b : ℕ) → a < P.size i → b < P.size j → row_allows t i a j b ≡ P.allowed i a j b
  pub turned : (a b : ℕ) → a < P.size i → b < P.size j → row_allows t j b i a ≡ P.allowed i a j b
  pub far : far_from t i j ≡ true → (a b : ℕ) → a < P.size i → b < P.size j → T (P.allowed i a j b)
  pub turned_far : far_from t j i ≡ true → (a b : ℕ) → a < P.size i → b < P.size j → T (P.allowed i a j b)

module _ {P : Problem} {t : List ℕ} (L : Located t) (sizes : (i : ℕ) → i < 32 → get_or t i 0 ≡ P.size i) (pairs : (i j : ℕ) → i < j → j < P.n → PairFilled P t i j) where
  -- either way round
  order : (i j : ℕ) → Two P i j → (i < j) ⊎ (j < i)
  order i j w = ⊎_elim (λ l. inl l) (λ (l : j ≤ i). inr (⊎_elim (λ (m : j < i). m) (λ (m : i ≤ j). absurd (w.apart (omega arith))) (lt_dec j i))) (lt_dec i j)

  row : (i a j b : ℕ) → Two P i j → a < P.size i → b < P.size j → row_allows t i a j b ≡ P.allowed i a j b
  row i a j b w la lb =
      ⊎_elim
      (λ (l : i < j). (pairs i j l w.other).own a b la lb)
      (λ (l : j < i). (pairs j i l w.one).turned b a lb la ∙ P.symmetric j b i a)
      (order i j w)

  free : (i a j b : ℕ) → Two P i j → a < P.size i → b < P.size j → far_from t i j ≡ true → T (P.allowed i a j b)
  free i a j b w la lb e =
      ⊎_elim
      (λ (l : i < j). (pairs i j l w.other).far e a b la lb)
      (λ (l : j < i). subst T (P.symmetric j b i a) ((pairs j i l w.one).turned_far e b a lb la))
      (order i j w)

  pub filled_by : Filled P t
  filled_by = record { located = L; sizes = sizes; rows = row; far = free }

-- ---- a table that shows of each pair what the problem allows

-- a table shows what P allows between i and j, at the values that they have
pub record Agrees (P : Problem) (t : List ℕ) (i j : ℕ) : Type 0 where
  pub says : ℕ → ℕ → Bool
  pub shows : Shows t i j says
  pub right : (a b : ℕ) → a < P.size i → b < P.size j → says a b ≡ P.allowed i a j b

agrees_filled : {P : Problem} {t : List ℕ} {i j : ℕ} → Bounded P → Agrees P t i j → PairFilled P t i j
agrees_filled {i = i} {j = j} B x =
    let p = B.narrow i in
    let q = B.narrow j in
    record {
      own = λ a b la lb. x.shows.own a b (omega arith) (omega arith) ∙ x.right a b la lb;
      turned = λ a b la lb. x.shows.turned a b (omega arith) (omega arith) ∙ x.right a b la lb;
      far = λ e a b la lb. subst T (x.right a b la lb) (x.shows.far e a b (omega arith) (omega arith));
      turned_far = λ e a b la lb. subst T (x.right a b la lb) (x.shows.turned_far e a b (omega arith) (omega arith));
    }

pub filled_pairs : {P : Problem} {t : List ℕ} → Bounded P → Located t → ((i : ℕ) → i < 32 → get_or t i 0 ≡ P.size i) → ((i j : ℕ) → i < j → j < P.n → Agrees P t i j) → Filled P t
filled_pairs B L sizes pairs = filled_by L sizes (λ i j l m. agrees_filled B (pairs i j l m))
