-- A search for the lowest step: what a loop that goes up from 0 knows of it, and bounds that may be wider. Assumes nothing.
use Rattle.std.specs.Prelude.{Option, Some, None}
use mathlib.Core.Path.{◌≡◌, refl, sym, ap, ◌∙◌, fun_ext}
use mathlib.Core.Bool.{Bool, true, false}
use mathlib.Core.Logic.{◌⊎◌, inl, inr, ⊎_elim}
use Prim.Native.Nat.{ℕ, zero, suc, ◌+◌, ◌≤◌, ◌<◌}
use native.Mathlib.Nat.{not-suc-le-zero, le_of_suc-le-suc}
use native.Mathlib.Numerals.{add-one}
use native.Mathlib.Omega.{arith}
use lib.Dec.{T}
use Rattle.bounded.proofs.Truth.{T_of, T_not, T_false, at_or_below}
use Rattle.problem.specs.Run.{step_if, first, is_step}
use Rattle.problem.specs.declared.Record.{Record}
use Rattle.problem.proofs.Run.{first_each}

pub step_if_on : (b : Bool) (r : Record) → b ≡ true → step_if b r ≡ Some r
unfolding step_if
step_if_on b r e = rw e

pub step_if_off : (b : Bool) (r : Record) → b ≡ false → step_if b r ≡ None
unfolding step_if
step_if_off b r e = rw e

pub step_is : (x : Option Record) → is_step x ≡ true → (r : Record) × (x ≡ Some r)
step_is (Some r) e = (r, refl)
step_is None e = absurd (T_of e)

pub nothing_is : (x : Option Record) → is_step x ≡ false → x ≡ None
nothing_is (Some r) e = absurd (T_not e tt)
nothing_is None e = refl

first_here : (n : ℕ) (f : ℕ → Option Record) (r : Record) → f zero ≡ Some r → first (suc n) f ≡ Some r
unfolding first
first_here n f r e = rw (e, first)

first_later : (n : ℕ) (f : ℕ → Option Record) → f zero ≡ None → first (suc n) f ≡ first n (λ k. f (suc k))
unfolding first
first_later n f e = rw (e, first)

-- nothing anywhere
pub first_off : (n : ℕ) (f : ℕ → Option Record) → ((k : ℕ) → k < n → f k ≡ None) → first n f ≡ None
unfolding first
first_off zero f h = refl
first_off (suc n) f h = first_later n f (h zero (omega arith)) ∙ first_off n (λ k. f (suc k)) (λ k l. h (suc k) (omega arith))

-- nothing below k, and a step at k
pub first_at : (n : ℕ) (f : ℕ → Option Record) (k : ℕ) (r : Record) → k < n → ((j : ℕ) → j < k → f j ≡ None) → f k ≡ Some r → first n f ≡ Some r
first_at zero f k r l h e = absurd (not-suc-le-zero l)
first_at (suc n) f zero r l h e = first_here n f r e
first_at (suc n) f (suc k) r l h e = first_later n f (h zero (omega arith)) ∙ first_at n (λ k. f (suc k)) k r (le_of_suc-le-suc l) (λ j m. h (suc j) (omega arith)) e

pub first_none : (f : ℕ → Option Record) → first 0 f ≡ None
unfolding first
first_none f = refl

-- nothing so far, nor here
pub first_more : (f : ℕ → Option Record) (n : ℕ) → first n f ≡ None → f n ≡ None → first (n + 1) f ≡ None
first_more f n p q = first_off (n + 1) f (λ k l. ⊎_elim (λ e. ap f e ∙ q) (λ m. first_each n f p k m) (at_or_below (rw add-one at l)))

-- nothing so far, and a step here
pub first_hit : (f : ℕ → Option Record) (n k : ℕ) (x : Option Record) → k < n → first k f ≡ None → f k ≡ x → is_step x ≡ true → first n f ≡ x
first_hit f n k x l p e h = let y = step_is x h in first_at n f k y.0 l (first_each k f p) (e ∙ y.1) ∙ sym y.1

-- a loop's end: i has come to n
pub first_end : (f : ℕ → Option Record) (n i : ℕ) → n ≤ i → first i f ≡ None → first n f ≡ None
first_end f n i l e = first_off n f (λ k m. first_each i f e k (omega arith))

pub first_ext : (n : ℕ) (f g : ℕ → Option Record) → ((k : ℕ) → f k ≡ g k) → first n f ≡ first n g
first_ext n f g h = ap (first n) (fun_ext h)

-- nothing is found beyond n
pub first_wide : (n m : ℕ) (f : ℕ → Option Record) → n ≤ m → ((k : ℕ) → n ≤ k → f k ≡ None) → first m f ≡ first n f
unfolding first
first_wide zero m f l h = first_off m f (λ k x. h k (omega arith))
first_wide (suc n) zero f l h = absurd (not-suc-le-zero l)
first_wide (suc n) (suc m) f l h = go (f zero) refl (first_wide n m (λ k. f (suc k)) (le_of_suc-le-suc l) (λ k x. h (suc k) (omega arith)))
  where
    go : (x : Option Record) → f zero ≡ x → first m (λ k. f (suc k)) ≡ first n (λ k. f (suc k)) → first (suc m) f ≡ first (suc n) f
    go (Some r) e ih = first_here m f r e ∙ sym (first_here n f r e)
    go None e ih = first_later m f e ∙ ih ∙ sym (first_later n f e)

-- a search in two fields, and in three, with wider bounds: nothing is found outside the narrower ones
pub wide_two : (f : ℕ → ℕ → Option Record) (n : ℕ) (size : ℕ → ℕ) (N M : ℕ) → n ≤ N → ((i : ℕ) → size i ≤ M) → ((i b : ℕ) → (n ≤ i) ⊎ (size i ≤ b) → f i b ≡ None)
    → first N (λ i. first M (f i)) ≡ first n (λ i. first (size i) (f i))
wide_two f n size N M l m h =
    first_wide n N (λ i. first M (f i)) l (λ i x. first_off M (f i) (λ b y. h i b (inl x)))
    ∙ first_ext n _ _ (λ i. first_wide (size i) M (f i) (m i) (λ b x. h i b (inr x)))

pub wide_three : (f : ℕ → ℕ → ℕ → Option Record) (n : ℕ) (size inner : ℕ → ℕ) (N M K : ℕ) → n ≤ N → ((i : ℕ) → size i ≤ M) → ((i : ℕ) → inner i ≤ K)
    → ((i b k : ℕ) → (n ≤ i) ⊎ ((size i ≤ b) ⊎ (inner i ≤ k)) → f i b k ≡ None)
    → first N (λ i. first M (λ b. first K (f i b))) ≡ first n (λ i. first (size i) (λ b. first (inner i) (f i b)))
wide_three f n size inner N M K l m k h =
    wide_two (λ i b. first K (f i b)) n size N M l m (λ i b x. first_off K (f i b) (λ c y. h i b c (⊎_elim (λ p. inl p) (λ p. inr (inl p)) x)))
    ∙ first_ext n _ _ (λ i. first_ext (size i) _ _ (λ b. first_wide (inner i) K (f i b) (k i) (λ c x. h i b c (inr (inr x)))))

-- a test that holds only within the narrower bounds
pub outside : (b : Bool) (r : Record) → (T b → ⊥) → step_if b r ≡ None
outside b r h = step_if_off b r (T_false b h)
