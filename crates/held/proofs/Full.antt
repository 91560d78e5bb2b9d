-- The first state of the problem that a table holds, as masks. Assumes nothing.
use mathlib.Core.Path.{◌≡◌, refl, sym, ap, ◌∙◌}
use mathlib.Core.Bool.{Bool, ◌&&◌}
use mathlib.Core.List.{List}
use Prim.Native.Nat.{ℕ, ◌≤◌, ◌<◌}
use native.Mathlib.Omega.{arith}
use lib.Dec.{ltb}
use borrow.Author.Tests.{lt-ltb, le-ltb}
use Rattle.bounded.specs.Mask.{mask_of}
use Rattle.bounded.proofs.Mask.{bit_none, mask_is}
use Rattle.problem.specs.Problem.{Problem, full}
use Rattle.problem.specs.Held.{held, RowTable}
use Rattle.problem.specs.Masks.{state_of, masks_of}
use Rattle.problem.proofs.Reflect.{full_fits}
use Rattle.held.specs.Ready.{Ready}
use Rattle.held.proofs.After.{state_held, ready_held}

module _ {t : List ℕ} (R : RowTable t) where
  pub full_ready : Ready t (masks_of (full (held t)))
  full_ready = ready_held R (full_fits (held t))

  pub full_says : state_of (masks_of (full (held t))) ≡ full (held t)
  full_says = state_held R (full_fits (held t))

-- a domain of the first state
pub full_domain : (P : Problem) (i : ℕ) → i < P.n → mask_of 16 (λ c. ltb c (P.size i)) ≡ mask_of 16 ((full P).live i)
unfolding full
full_domain P i l = ap (λ (x : Bool). mask_of 16 (λ c. x && ltb c (P.size i))) (sym (lt-ltb i P.n l))

pub full_outside : (P : Problem) (i : ℕ) → P.n ≤ i → 0 ≡ mask_of 16 ((full P).live i)
unfolding full
full_outside P i l = mask_is 16 0 ((full P).live i) (omega arith) (λ c k. bit_none c ∙ sym (rw (le-ltb i P.n l)))

pub full_active : (P : Problem) → mask_of 32 (λ c. ltb c P.n) ≡ mask_of 32 (full P).active
unfolding full
full_active P = refl
