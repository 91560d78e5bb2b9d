-- The records whose steps a table can hold.
use Rattle.std.specs.Prelude.{◌<◌}
use Rattle.problem.specs.Record.{effect_of}
use Rattle.problem.specs.declared.Effect.{Effect}
use Rattle.problem.specs.declared.Effect.TheVariants.{Removes, Eliminates}
use Rattle.problem.specs.declared.Record.{Record}

-- the variable is below 32, and a value that is removed below 16
abbrev pub EffectWithin : Effect → Type 0
EffectWithin (Removes i b) = (i < 32) × (b < 16)
EffectWithin (Eliminates i) = i < 32

abbrev pub Within : Record → Type 0
Within r = EffectWithin (effect_of r)
