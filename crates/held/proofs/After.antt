-- The masks of a state that fits the problem of a table: they say the state, and the rules may be asked of them. Assumes nothing.
use mathlib.Core.Path.{◌≡◌, sym, subst}
use mathlib.Core.List.{List}
use Prim.Native.Nat.{ℕ}
use Rattle.problem.specs.Problem.{State}
use Rattle.problem.specs.Held.{held, RowTable}
use Rattle.problem.specs.Masks.{state_of, masks_of}
use Rattle.problem.specs.Sentences.{Fits}
use Rattle.problem.proofs.HeldTable.{held_few, held_narrow}
use Rattle.problem.proofs.Bridge.{state_within, masks_proper}
use Rattle.held.specs.Ready.{Ready}

module _ {t : List ℕ} (R : RowTable t) where
  -- the masks of a state that fits say the state
  pub state_held : {s : State} → Fits (held t) s → state_of (masks_of s) ≡ s
  state_held F = state_within (held t) (held_few t) (held_narrow R) F

  -- so every state that fits is one that the rules may be asked of
  pub ready_held : {s : State} → Fits (held t) s → Ready t (masks_of s)
  ready_held {s} F = record { table = R; proper = masks_proper s; fits = subst (Fits (held t)) (sym (state_held F)) F }
