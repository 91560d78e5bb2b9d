-- What was written is read back, and a trace one record longer. Assumes nothing.
use mathlib.Core.Path.{◌≡◌, refl, sym, ap, ◌∙◌}
use mathlib.Core.List.{List, [], ◌∷◌, ◌++◌, append_assoc, append-nil}
use Prim.Native.Nat.{ℕ, suc, ◌+◌, ◌≤◌, ◌<◌}
use native.Mathlib.Nat.{add-zero}
use native.Mathlib.Omega.{arith}
use lib.ListN.{length, get_or, length-append}
use lib.Seq.{get_or-append-add}
use Rattle.buffers.specs.Bytes.{byte_at}
use Rattle.problem.specs.Record.{fields_of, record_of}
use Rattle.problem.specs.declared.Record.{Record}
use Rattle.problem.proofs.Apart.{kind_fields, fields_few}
use Rattle.trace.specs.Trace.{record_bytes, records_bytes, trace_bytes, numbered_at, record_at}
use Rattle.trace.specs.declared.RecordRead.TheVariants.{Read}
use Rattle.trace.proofs.Read.{at_record, read_from}

-- ---- records one after the other

pub records_append : (t u : List Record) → records_bytes (t ++ u) ≡ records_bytes t ++ records_bytes u
unfolding records_bytes
records_append [] u = refl
records_append (r ∷ t) u = ap (λ (w : List ℕ). record_bytes r ++ w) (records_append t u) ∙ sym (append_assoc (record_bytes r) (records_bytes t) (records_bytes u))

pub records_one : (r : Record) → records_bytes (r ∷ []) ≡ record_bytes r
unfolding records_bytes
records_one r = append-nil (record_bytes r)

-- one record more
pub trace_more : (t : List Record) (r : Record) → trace_bytes (t ++ (r ∷ [])) ≡ trace_bytes t ++ record_bytes r
unfolding trace_bytes
trace_more t r = ap (λ (w : List ℕ). 1 ∷ w) (records_append t (r ∷ []) ∙ ap (λ (w : List ℕ). records_bytes t ++ w) (records_one r))

pub record_most : (r : Record) → (4 ≤ length (record_bytes r)) × (length (record_bytes r) ≤ 5)
record_most r = let l = fields_few r in (omega arith, omega arith)

-- ---- what stands after a list

-- a record's bytes, from their place
module _ (pre w : List ℕ) where
  after : (n : ℕ) → byte_at (pre ++ w) (length pre + n) ≡ get_or w n 0
  after n = get_or-append-add pre w n 0

  first : byte_at (pre ++ w) (length pre) ≡ get_or w 0 0
  first = ap (λ (k : ℕ). byte_at (pre ++ w) k) (sym (add-zero (length pre))) ∙ after 0

  made : numbered_at (pre ++ w) (length pre) ≡ record_of (get_or w 1 0) (get_or w 2 0) (get_or w 3 0) (get_or w 4 0)
  made i = record_of (after 1 i) (after 2 i) (after 3 i) (after 4 i)

-- what is read after a list where a record was written
pub record_back : (pre post : List ℕ) (r : Record) → record_at (pre ++ (record_bytes r ++ post)) (length pre) ≡ Read r (length pre + length (record_bytes r))
record_back pre post r =
    let w = record_bytes r ++ post in
    let f : byte_at (pre ++ w) (length pre) ≡ suc (length (fields_of r)) = first pre w in
    let long = length-append pre w in
    let more = length-append (fields_of r) post in
    at_record (pre ++ w) (length pre) r (omega arith) (made pre w ∙ kind_fields r post) f ∙ ap (Read r) (omega arith)

-- ---- the place after a record

pub next_after : (s : List ℕ) (p : ℕ) (r : Record) (q : ℕ) → record_at s p ≡ Read r q → (p < q) × (q ≤ length s)
next_after s p r q e = let w = read_from s p r q e in (omega arith, omega arith)
