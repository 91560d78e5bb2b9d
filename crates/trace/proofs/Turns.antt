-- The bytes that a record is read from. Assumes nothing.
use mathlib.Core.Path.{◌≡◌, sym, ap, ◌∙◌}
use mathlib.Core.List.{List, [], ◌∷◌, ◌++◌}
use mathlib.Core.Logic.{◌⊎◌, inl, inr}
use Prim.Native.Nat.{ℕ, suc, ◌+◌, ◌<◌}
use native.Mathlib.Numerals.{add-one}
use native.Mathlib.Omega.{arith}
use lib.ListN.{length, drop, drop_of_length-le}
use lib.Seq.{drop-cons}
use Rattle.problem.specs.Record.{kind_of, fields_of}
use Rattle.problem.specs.declared.Record.{Record}
use Rattle.problem.proofs.Apart.{record_made}
use Rattle.buffers.specs.Bytes.{byte_at}
use Rattle.trace.specs.Trace.{record_bytes, record_at}
use Rattle.trace.specs.declared.RecordRead.TheVariants.{Read, End}
use Rattle.trace.proofs.Read.{ReadFrom, end_only, read_from}

-- ---- the bytes that a record is read from

pub drop_more : (s : List ℕ) (p q : ℕ) → p < length s → q ≡ p + 1 → drop p s ≡ byte_at s p ∷ drop q s
drop_more s p q h e = drop-cons s p 0 h ∙ ap (λ (k : ℕ). byte_at s p ∷ drop k s) (sym (add-one p) ∙ sym e)

module _ (s : List ℕ) (p : ℕ) where
  drop_four : p + 3 < length s → drop p s ≡ byte_at s p ∷ byte_at s (p + 1) ∷ byte_at s (p + 2) ∷ byte_at s (p + 3) ∷ drop (p + 4) s
  drop_four h =
      drop_more s p (p + 1) (omega arith) (omega arith)
      ∙ ap (λ (l : List ℕ). byte_at s p ∷ l) (drop_more s (p + 1) (p + 2) (omega arith) (omega arith)
      ∙ ap (λ (l : List ℕ). byte_at s (p + 1) ∷ l) (drop_more s (p + 2) (p + 3) (omega arith) (omega arith) ∙ ap (λ (l : List ℕ). byte_at s (p + 2) ∷ l) (drop_more s (p + 3) (p + 4) (omega arith) (omega arith))))

  pub read_bytes : (r : Record) (q : ℕ) → record_at s p ≡ Read r q → drop p s ≡ record_bytes r ++ drop q s
  read_bytes r q e = by (record_made _ _ _ _ r w.made).1
    where
      w : ReadFrom s p r q
      w = read_from s p r q e

      n : byte_at s p ≡ suc (length (fields_of r))
      n = w.long

      k : byte_at s (p + 1) ≡ kind_of r
      k = sym (record_made _ _ _ _ r w.made).0

      by : (fields_of r ≡ byte_at s (p + 2) ∷ byte_at s (p + 3) ∷ []) ⊎ (fields_of r ≡ byte_at s (p + 2) ∷ byte_at s (p + 3) ∷ byte_at s (p + 4) ∷ []) → drop p s ≡ record_bytes r ++ drop q s
      by (inl f) =
          let l = ap length f in
          let g : p + 4 ≡ q = omega (arith, w.next, n) in
          drop_four (omega (arith, w.inside, n)) ∙ (λ t. n t ∷ k t ∷ (sym f t ++ drop (g t) s))
      by (inr f) =
          let l = ap length f in
          let g : p + 5 ≡ q = omega (arith, w.next, n) in
          drop_four (omega (arith, w.inside, n))
          ∙ ap (λ (l : List ℕ). byte_at s p ∷ byte_at s (p + 1) ∷ byte_at s (p + 2) ∷ byte_at s (p + 3) ∷ l) (drop_more s (p + 4) (p + 5) (omega (arith, w.inside, n)) (omega arith))
          ∙ (λ t. n t ∷ k t ∷ (sym f t ++ drop (g t) s))

  -- nothing stands at the end
  pub end_bytes : record_at s p ≡ End → drop p s ≡ []
  end_bytes e = drop_of_length-le s {i = p} (end_only s p e)
