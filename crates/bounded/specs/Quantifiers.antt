-- Tests over the numbers below a bound. They stop at the first number that decides, so that they compute quickly.
use Rattle.std.specs.Prelude.{Bool, true, false, not, ◌||◌, ℕ, zero, suc, ◌+◌}

-- if p then q
abbrev pub imp : Bool → Bool → Bool
imp p q = not p || q

-- f holds at each number below n
unfoldable pub all_below : ℕ → (ℕ → Bool) → Bool
all_below zero f = true
all_below (suc n) f = elim (f n) [ true ↦ all_below n f | false ↦ false ]

-- f holds at some number below n
unfoldable pub any_below : ℕ → (ℕ → Bool) → Bool
any_below zero f = false
any_below (suc n) f = elim (f n) [ true ↦ true | false ↦ any_below n f ]

-- the lowest number below n at which f holds, or n where there is none
unfoldable pub lowest : ℕ → (ℕ → Bool) → ℕ
lowest zero f = zero
lowest (suc n) f = elim (f zero) [ true ↦ zero | false ↦ suc (lowest n (λ k. f (suc k))) ]

-- what g gives for the lowest number below n at which f holds, or z where there is none
unfoldable pub at_lowest : {A : Type 0} → ℕ → (ℕ → Bool) → (ℕ → A) → A → A
at_lowest n f g z = elim (any_below n f) [ true ↦ g (lowest n f) | false ↦ z ]

-- f 0 + f 1 + .. + f (n - 1)
unfoldable pub sum_to : ℕ → (ℕ → ℕ) → ℕ
sum_to zero f = zero
sum_to (suc n) f = sum_to n f + f n

-- 1 for true, 0 for false
abbrev pub one_if : Bool → ℕ
one_if true = 1
one_if false = 0

-- how many numbers below n pass f
unfoldable pub count_below : ℕ → (ℕ → Bool) → ℕ
count_below n f = sum_to n (λ k. one_if (f k))
