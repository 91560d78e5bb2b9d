-- What a step leads to, as masks of the problem that a table holds. Assumes nothing.
use mathlib.Core.Path.{◌≡◌}
use mathlib.Core.List.{List}
use Prim.Native.Nat.{ℕ, ◌<◌}
use lib.Dec.{T}
use Rattle.problem.specs.Run.{holds, after}
use Rattle.problem.specs.Held.{held}
use Rattle.problem.specs.Masks.{state_of, masks_of}
use Rattle.problem.specs.declared.Masks.{Masks}
use Rattle.problem.specs.Record.{effect_of}
use Rattle.problem.specs.declared.Effect.{Effect}
use Rattle.problem.specs.declared.Effect.TheVariants.{Removes, Eliminates}
use Rattle.problem.specs.declared.Record.{Record}
use Rattle.problem.specs.Sentences.{Live}
use Rattle.problem.proofs.Trace.{Present, after_fits, holds_present}
use Rattle.held.specs.Ready.{Ready}
use Rattle.held.proofs.Laws.{live_value, active_32}
use Rattle.held.proofs.After.{state_held, ready_held}
use Rattle.steps.specs.Steps.{EffectWithin, Within}

module _ {t : List ℕ} {m : Masks} (R : Ready t m) where
  pub after_state : (r : Record) → state_of (masks_of (after (held t) (state_of m) r)) ≡ after (held t) (state_of m) r
  after_state r = state_held R.table (after_fits (held t) R.fits r)

  pub after_ready : (r : Record) → Ready t (masks_of (after (held t) (state_of m) r))
  after_ready r = ready_held R.table (after_fits (held t) R.fits r)

  pub live_within : (i a : ℕ) → Live (state_of m) i a → (i < 32) × (a < 16)
  live_within i a h = let v = live_value R i a h in (v.variable, v.value)

  present_within : (x : Effect) → Present (state_of m) x → EffectWithin x
  present_within (Removes i b) h = live_within i b h
  present_within (Eliminates i) h = active_32 R i h

  -- a record whose rule holds takes a variable or a value of the table
  pub holds_within : (r : Record) → T (holds (held t) (state_of m) r) → Within r
  holds_within r h = present_within (effect_of r) (holds_present (held t) R.fits r h)
