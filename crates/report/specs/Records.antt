-- The records that stand one after the other in a trace.
use Rattle.std.specs.Prelude.{List, [], ◌∷◌, ℕ, zero, suc}
use Rattle.problem.specs.declared.Record.{Record}
use Rattle.trace.specs.Trace.{record_at}
use Rattle.trace.specs.declared.RecordRead.{RecordRead}
use Rattle.trace.specs.declared.RecordRead.TheVariants.{Read, End, Malformed}

-- a record that was read, with those that `rest` finds from the place after it
abbrev pub with_read : RecordRead → (ℕ → List Record) → List Record
with_read (Read r next) rest = r ∷ rest next
with_read End rest = []
with_read Malformed rest = []

-- at most k records from the place p: up to the first that is none
unfoldable pub records_in : ℕ → List ℕ → ℕ → List Record
records_in zero w p = []
records_in (suc k) w p = with_read (record_at w p) (records_in k w)
