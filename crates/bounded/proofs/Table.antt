-- Lists by their entries, and a loop that fills a list from the front. Assumes nothing.
use Prim.Native.Nat.{ℕ, zero, suc, ◌+◌, ◌<◌, ◌≤◌}
use mathlib.Core.Path.{◌≡◌, refl, sym, ap, ◌∙◌}
use mathlib.Core.List.{List, [], ◌∷◌, ◌++◌, append-nil}
use native.Mathlib.Nat.{not-suc-le-zero, le_of_suc-le-suc}
use native.Mathlib.Numerals.{add-one}
use native.Mathlib.Omega.{arith}
use lib.ListN.{length, get_or, set, drop, drop_of_length-le}
use Rattle.bounded.specs.Table.{tab, filled}

module _ {A : Type 0} where
  pub length_tab : (n : ℕ) (f : ℕ → A) → length (tab n f) ≡ n
  unfolding tab
  length_tab zero f = refl
  length_tab (suc n) f = ap suc (length_tab n (λ k. f (suc k)))

  pub get_d_tab : (n : ℕ) (f : ℕ → A) (k : ℕ) (d : A) → k < n → get_or (tab n f) k d ≡ f k
  unfolding tab
  get_d_tab zero f k d l = absurd (not-suc-le-zero l)
  get_d_tab (suc n) f zero d l = refl
  get_d_tab (suc n) f (suc k) d l = get_d_tab n (λ k. f (suc k)) k d (le_of_suc-le-suc l)

  pub filled_none : (f : ℕ → A) (d : List A) → filled 0 f d ≡ d
  unfolding filled tab
  filled_none f d = refl

  fill_suc : (k : ℕ) (f : ℕ → A) (d : List A) → k < length d → set (tab k f ++ drop k d) k (f k) ≡ tab (suc k) f ++ drop (suc k) d
  unfolding tab
  fill_suc k f [] l = absurd (not-suc-le-zero l)
  fill_suc zero f (x ∷ d) l = refl
  fill_suc (suc k) f (x ∷ d) l = ap (λ (t : List A). f zero ∷ t) (fill_suc k (λ k. f (suc k)) d (le_of_suc-le-suc l))

  -- one more store
  pub filled_more : (k : ℕ) (f : ℕ → A) (d : List A) → k < length d → set (filled k f d) k (f k) ≡ filled (k + 1) f d
  unfolding filled
  filled_more k f d l = fill_suc k f d l ∙ ap (λ (n : ℕ). tab n f ++ drop n d) (sym (add-one k))

  -- all of them
  pub filled_end : (n k : ℕ) (f : ℕ → A) (d : List A) → length d ≡ n → n ≤ k → k ≤ n → filled k f d ≡ tab n f
  unfolding filled
  filled_end n k f d e l m =
      let q : k ≡ n = omega arith in
      ap (λ (r : List A). tab k f ++ r) (drop_of_length-le d {i = k} (omega arith)) ∙ append-nil (tab k f) ∙ ap (λ (j : ℕ). tab j f) q
