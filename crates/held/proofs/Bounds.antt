-- No variable and no value outside a table is active or live. Assumes nothing.
use mathlib.Core.Path.{◌≡◌}
use mathlib.Core.Bool.{false}
use mathlib.Core.List.{List}
use mathlib.Core.Logic.{◌⊎◌, inl, inr}
use Prim.Native.Nat.{ℕ, ◌≤◌}
use native.Mathlib.Omega.{arith}
use lib.ListN.{get_or}
use Rattle.bounded.specs.Mask.{bit}
use Rattle.bounded.proofs.Truth.{T_not}
use Rattle.problem.specs.Problem.{Problem, State}
use Rattle.problem.specs.Held.{held}
use Rattle.problem.specs.Masks.{state_of}
use Rattle.problem.specs.declared.Masks.{Masks}
use Rattle.problem.specs.Sentences.{Active, Live}
use Rattle.held.specs.Ready.{Ready}

module _ {t : List ℕ} {m : Masks} (R : Ready t m) where
  abbrev P : Problem
  P = held t

  abbrev s : State
  s = state_of m

  -- not within the bounds
  pub no_variable : (i : ℕ) → P.n ≤ i → Active s i → ⊥
  no_variable i l h = omega (arith, R.fits.active_lt i h)

  pub no_value : (i b : ℕ) → (P.n ≤ i) ⊎ (P.size i ≤ b) → Live s i b → ⊥
  no_value i b (inl l) h = no_variable i l (R.fits.live_active i b h)
  no_value i b (inr l) h = omega (arith, R.fits.live_lt i b h)

  -- a variable that is not active, and a value that is not in a domain
  pub not_active : (i : ℕ) → bit m.active i ≡ false → Active s i → ⊥
  unfolding state_of
  not_active i e h = T_not e h

  pub not_live : (i b : ℕ) → bit (get_or m.domains i 0) b ≡ false → Live s i b → ⊥
  unfolding state_of
  not_live i b e h = T_not e h
