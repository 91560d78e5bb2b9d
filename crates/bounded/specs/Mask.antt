-- Sets of small numbers as one number: c is in the set where the bit worth 2 ^ c is set.
use Rattle.std.specs.Prelude.{Bool, cond, ℕ, zero, suc, ◌+◌, ◌-◌, ◌/◌, ◌%◌, ◌^◌, ◌<◌, T, eqb}
use Rattle.std.specs.Int.Bits.{bit_and}

-- the bit of x worth 2 ^ c
abbrev pub bit : ℕ → ℕ → Bool
bit x c = eqb (x / 2 ^ c % 2) 1

-- the set of the numbers below n at which f holds
unfoldable pub mask_of : ℕ → (ℕ → Bool) → ℕ
mask_of zero f = 0
mask_of (suc n) f = mask_of n f + cond (f n) (2 ^ n) 0

-- x without b, for sets of numbers below n
abbrev pub without : ℕ → ℕ → ℕ → ℕ
without n x b = bit_and x (2 ^ n - 1 - 2 ^ b)

-- r is the highest member of a set of numbers below n
pub record Highest (n x r : ℕ) : Type 0 where
  pub small : r < n
  pub member : T (bit x r)
  pub none_above : (c : ℕ) → r < c → c < n → T (bit x c) → ⊥
