-- A state with fewer values has a smaller count, and the full state counts every value. Assumes nothing.
use mathlib.Core.Path.{◌≡◌}
use Prim.Native.Nat.{ℕ, zero, suc, ◌*◌, ◌<◌, ◌≤◌}
use native.Mathlib.Omega.{arith}
use mathlib.Core.Bool.{◌&&◌}
use lib.Dec.{ltb}
use Rattle.bounded.specs.Quantifiers.{sum_to}
use Rattle.bounded.proofs.Truth.{and_iff, ltb_iff}
use Rattle.bounded.proofs.Quantifiers.{sum_lt, sum_ext, count_le, count_lt, count_all}
use Rattle.problem.specs.Problem.{Problem, State, full, live_count, size_sum}
use Rattle.problem.specs.Held.{Bounded}
use Rattle.problem.specs.Sentences.{Live}

pub count_falls : (P : Problem) (s r : State) → ((i a : ℕ) → Live r i a → Live s i a) → (i a : ℕ) → i < P.n → a < P.size i → Live s i a → (Live r i a → ⊥) → live_count P r < live_count P s
unfolding live_count
count_falls P s r f i a hi ha o x =
    sum_lt P.n _ _ (λ k l. count_le (P.size k) (r.live k) (s.live k) (λ c m. f k c)) i hi
    (count_lt (P.size i) (r.live i) (s.live i) (λ c m. f i c) a ha x o)

pub full_count : (P : Problem) → live_count P (full P) ≡ size_sum P
unfolding live_count size_sum full
full_count P =
    sum_ext P.n _ _ (λ i l. count_all (P.size i) (λ a. ltb i P.n && ltb a (P.size i)) (λ a m. (and_iff (ltb i P.n) (ltb a (P.size i))).1 ((ltb_iff i P.n).1 l, (ltb_iff a (P.size i)).1 m)))

-- a sum of numbers of at most 16
sum_most : (n : ℕ) (f : ℕ → ℕ) → ((k : ℕ) → f k ≤ 16) → sum_to n f ≤ 16 * n
unfolding sum_to
sum_most zero f h = omega arith
sum_most (suc n) f h = omega (arith, sum_most n f h, h n)

-- at most 32 variables of at most 16 values list at most 512
pub sizes_within : (P : Problem) → P.n ≤ 32 → ((i : ℕ) → P.size i ≤ 16) → size_sum P ≤ 512
unfolding size_sum
sizes_within P few narrow = omega (arith, sum_most P.n P.size narrow, few)

-- a problem that the tables have room for lists at most 512 values
pub sizes_most : (P : Problem) → Bounded P → size_sum P ≤ 512
sizes_most P B = sizes_within P B.few B.narrow
