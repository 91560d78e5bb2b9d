-- Masks that are the first state: the rules may be asked of them. Assumes nothing.
use mathlib.Core.Path.{◌≡◌, sym, ap, ◌∙◌, subst}
use mathlib.Core.List.{List}
use Prim.Native.Nat.{ℕ}
use Rattle.problem.specs.Problem.{full}
use Rattle.problem.specs.Held.{held, RowTable}
use Rattle.problem.specs.Masks.{state_of, masks_of}
use Rattle.problem.specs.declared.Masks.{Masks}
use Rattle.held.specs.Ready.{Ready}
use Rattle.held.proofs.Full.{full_ready, full_says}

-- the first state
pub ready_full : {t : List ℕ} → RowTable t → (m : Masks) → m ≡ masks_of (full (held t)) → Ready t m × (state_of m ≡ full (held t))
ready_full {t} R m e = (subst (Ready t) (sym e) (full_ready R), ap state_of e ∙ full_says R)
