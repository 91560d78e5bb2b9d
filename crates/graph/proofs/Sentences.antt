-- What a test over all lines says of one of them, counted from 0. Assumes nothing.
use mathlib.Core.Bool.{Bool}
use mathlib.Core.List.{List, [], ◌∷◌}
use mathlib.Core.Logic.{◌⊎◌, inl, inr, ◌↔◌}
use Prim.Native.Nat.{ℕ, zero, suc, ◌<◌}
use native.Mathlib.Omega.{arith}
use lib.Dec.{T}
use lib.ListN.{length, get_or}
use Rattle.bounded.proofs.Truth.{or_iff}
use Rattle.graph.specs.Graph.{any_line}
use Rattle.graph.specs.declared.Line.{Line}
use Rattle.graph.specs.declared.Line.TheVariants.{Bad}

module _ (t : Line → Bool) where
  some_line : (m : List Line) → T (any_line t m) → (k : ℕ) × (k < length m) × T (t (get_or m k Bad))
  unfolding any_line
  some_line [] h = absurd h
  some_line (l ∷ m) h = go ((or_iff (t l) (any_line t m)).0 h) (some_line m)
    where
      go : T (t l) ⊎ T (any_line t m) → (T (any_line t m) → (k : ℕ) × (k < length m) × T (t (get_or m k Bad))) → (k : ℕ) × (k < length (l ∷ m)) × T (t (get_or (l ∷ m) k Bad))
      go (inl h) ih = (0, omega arith, h)
      go (inr h) ih = let (k, b, p) = ih h in (suc k, omega arith, p)

  line_passes : (m : List Line) (k : ℕ) → k < length m → T (t (get_or m k Bad)) → T (any_line t m)
  unfolding any_line
  line_passes [] k b p = absurd (omega arith)
  line_passes (l ∷ m) zero b p = (or_iff (t l) (any_line t m)).1 (inl p)
  line_passes (l ∷ m) (suc k) b p = (or_iff (t l) (any_line t m)).1 (inr (line_passes m k (omega arith) p))

pub any_line_iff : (t : Line → Bool) (m : List Line) → T (any_line t m) ↔ ((k : ℕ) × (k < length m) × T (t (get_or m k Bad)))
any_line_iff t m = (some_line t m, λ p. line_passes t m p.0 p.1 p.2)
