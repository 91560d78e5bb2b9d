-- The records of a trace are read back, and one that is read fits bytes. Assumes nothing.
use mathlib.Core.Path.{◌≡◌, refl, sym, ap, subst, ◌∙◌}
use mathlib.Core.List.{List, [], ◌∷◌, ◌++◌, append_assoc}
use mathlib.Core.Logic.{inl, inr}
use Prim.Native.Nat.{ℕ, zero, suc, ◌+◌, ◌<◌}
use native.Mathlib.Omega.{arith}
use lib.ListN.{length, drop, get_or, length-append}
use Rattle.buffers.specs.Bytes.{byte_at}
use Rattle.problem.specs.declared.Record.{Record}
use Rattle.problem.proofs.Apart.{Made, record_made}
use Rattle.trace.specs.Trace.{record_bytes, records_bytes, trace_bytes, record_at, Small}
use Rattle.buffers.specs.Written.{fronted}
use Rattle.trace.specs.declared.RecordRead.{RecordRead}
use Rattle.trace.specs.declared.RecordRead.TheVariants.{Read, End, Malformed}
use Rattle.trace.proofs.Read.{read_from}
use Rattle.trace.proofs.Back.{record_back}
use Rattle.report.specs.Records.{with_read, records_in}

-- ---- one record of those that are read

module _ (w : List ℕ) where
  pub one_read : (k j p : ℕ) (r : Record) (q : ℕ) → k ≡ suc j → record_at w p ≡ Read r q → records_in k w p ≡ r ∷ records_in j w q
  unfolding records_in
  one_read k j p r q h e = ap (λ (x : ℕ). records_in x w p) h ∙ ap (λ (x : RecordRead). with_read x (records_in j w)) e

  pub none_read : (p : ℕ) → records_in 0 w p ≡ []
  unfolding records_in
  none_read p = refl

  pub end_read : (k p : ℕ) → record_at w p ≡ End → records_in k w p ≡ []
  unfolding records_in
  end_read zero p e = refl
  end_read (suc k) p e = ap (λ (x : RecordRead). with_read x (records_in k w)) e

  pub malformed_read : (k p : ℕ) → record_at w p ≡ Malformed → records_in k w p ≡ []
  unfolding records_in
  malformed_read zero p e = refl
  malformed_read (suc k) p e = ap (λ (x : RecordRead). with_read x (records_in k w)) e

-- ---- what was written is read back

-- the records t after the bytes pre
records_back : (t : List Record) (pre post : List ℕ) → records_in (length t) (pre ++ (records_bytes t ++ post)) (length pre) ≡ t
unfolding records_bytes
records_back [] pre post = none_read (pre ++ post) (length pre)
records_back (r ∷ t) pre post =
    let w = pre ++ (records_bytes (r ∷ t) ++ post) in
    let e : w ≡ pre ++ (record_bytes r ++ (records_bytes t ++ post)) = ap (λ (l : List ℕ). pre ++ l) (append_assoc (record_bytes r) (records_bytes t) post) in
    let f : w ≡ (pre ++ record_bytes r) ++ (records_bytes t ++ post) = e ∙ sym (append_assoc pre (record_bytes r) (records_bytes t ++ post)) in
    let g : record_at w (length pre) ≡ Read r (length pre + length (record_bytes r)) = ap (λ (l : List ℕ). record_at l (length pre)) e ∙ record_back pre (records_bytes t ++ post) r in
    let k : length (pre ++ record_bytes r) ≡ length pre + length (record_bytes r) = length-append pre (record_bytes r) in
    one_read w (suc (length t)) (length t) (length pre) r (length pre + length (record_bytes r)) refl g
    ∙ (λ i. r ∷ records_in (length t) (f i) (sym k i))
    ∙ ap (λ (l : List Record). r ∷ l) (records_back t (pre ++ record_bytes r) post)

-- a trace at the front of a buffer
pub trace_read : (t : List Record) (d : List ℕ) → records_in (length t) (fronted (trace_bytes t) d) 1 ≡ t
unfolding trace_bytes
trace_read t d = records_back t (1 ∷ []) (drop (length (1 ∷ records_bytes t)) d)

-- ---- the fields of a record that is read

made_small : (k i x y : ℕ) (r : Record) → Made k i x y r → i < 256 → x < 256 → y < 256 → Small r
made_small k i x y r (e, inl f) a b c = subst (λ (l : List ℕ). (get_or l 0 0 < 256) × (get_or l 1 0 < 256) × (get_or l 2 0 < 256)) (sym f) (a, b, omega arith)
made_small k i x y r (e, inr f) a b c = subst (λ (l : List ℕ). (get_or l 0 0 < 256) × (get_or l 1 0 < 256) × (get_or l 2 0 < 256)) (sym f) (a, b, c)

module _ (s : List ℕ) (bytes : (k : ℕ) → byte_at s k < 256) (p : ℕ) (r : Record) (q : ℕ) (e : record_at s p ≡ Read r q) where
  -- they are bytes of the trace
  pub read_small : Small r
  read_small = made_small _ _ _ _ r (record_made _ _ _ _ r (read_from s p r q e).made) (bytes (p + 2)) (bytes (p + 3)) (bytes (p + 4))
