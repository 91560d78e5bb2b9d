-- Two problems with the same variables, sizes and allowed pairs are one problem. Assumes nothing.
use mathlib.Core.Path.{◌≡◌, PathP}
use mathlib.Core.HLevel.{Π_prop, is_prop→PathP}
use mathlib.Core.Bool.{Bool-set}
use Prim.Native.Nat.{ℕ}
use Rattle.problem.specs.Problem.{Problem}

pub problem_same : (P Q : Problem) → P.n ≡ Q.n → ((i : ℕ) → P.size i ≡ Q.size i) → ((i a j b : ℕ) → P.allowed i a j b ≡ Q.allowed i a j b) → P ≡ Q
problem_same P Q e f g = λ t. record { n = e t; size = λ i. f i t; allowed = λ i a j b. g i a j b t; symmetric = turned t }
  where
    turned : PathP (λ t. (i a j b : ℕ) → g i a j b t ≡ g j b i a t) P.symmetric Q.symmetric
    turned =
        is_prop→PathP (λ t. (i a j b : ℕ) → g i a j b t ≡ g j b i a t) (λ t. Π_prop λ i. Π_prop λ a. Π_prop λ j. Π_prop λ b. Bool-set (g i a j b t) (g j b i a t))
        P.symmetric Q.symmetric
