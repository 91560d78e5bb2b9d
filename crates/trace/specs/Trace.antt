-- The trace: "byte 0, version 1, then one record a step: first a length byte (4 for kinds 1, 4, 5; 3 for kinds 2, 3), then the bytes above".
use Rattle.std.specs.Prelude.{true, false, ◌&&◌, List, [], ◌∷◌, ◌++◌, ℕ, suc, ◌+◌, ◌<◌, ltb, eqb, length, Option, Some, None}
use Rattle.buffers.specs.Bytes.{byte_at}
use Rattle.problem.specs.Record.{item_of, third_of, fourth_of, kind_of, fields_of, record_of}
use Rattle.problem.specs.declared.Record.{Record}
use Rattle.trace.specs.declared.RecordRead.{RecordRead}
use Rattle.trace.specs.declared.RecordRead.TheVariants.{Read, End, Malformed}

-- ---- bytes from records

-- a step's record: its length, its kind and its fields
abbrev pub record_bytes : Record → List ℕ
record_bytes r = suc (length (fields_of r)) ∷ kind_of r ∷ fields_of r

unfoldable pub records_bytes : List Record → List ℕ
records_bytes [] = []
records_bytes (r ∷ t) = record_bytes r ++ records_bytes t

unfoldable pub trace_bytes : List Record → List ℕ
trace_bytes t = 1 ∷ records_bytes t

-- each field of the record fits a byte
abbrev pub Small : Record → Type 0
Small r = (item_of r < 256) × (third_of r < 256) × (fourth_of r < 256)

-- ---- records from bytes

-- the record that the bytes after a length byte at p make
abbrev pub numbered_at : List ℕ → ℕ → Option Record
numbered_at s p = record_of (byte_at s (p + 1)) (byte_at s (p + 2)) (byte_at s (p + 3)) (byte_at s (p + 4))

-- these read as a record with the place after it, or as one that is "cut short, unknown kind, or length byte wrong for the kind"
abbrev pub whole_at : List ℕ → ℕ → Option Record → RecordRead
whole_at s p None = Malformed
whole_at s p (Some r) = elim (eqb (byte_at s p) (suc (length (fields_of r))) && ltb (p + byte_at s p) (length s)) [ true ↦ Read r (p + 1 + byte_at s p) | false ↦ Malformed ]

-- what stands at p: the end, a record, or a malformed one
unfoldable pub record_at : List ℕ → ℕ → RecordRead
record_at s p = elim (ltb p (length s)) [ false ↦ End | true ↦ whole_at s p (numbered_at s p) ]
