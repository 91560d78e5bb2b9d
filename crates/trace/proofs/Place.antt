-- The place after a record. Assumes nothing.
use mathlib.Core.Path.{◌≡◌, sym, ap, ◌∙◌}
use mathlib.Core.Bool.{Bool, true, false}
use mathlib.Core.List.{List}
use Prim.Native.Nat.{ℕ, ◌+◌, ◌≤◌, ◌<◌}
use native.Mathlib.Omega.{arith}
use lib.ListN.{length}
use borrow.Author.Tests.{lt-ltb, le-ltb}
use Rattle.buffers.specs.Bytes.{byte_at}
use Rattle.problem.specs.declared.Record.{Record}
use Rattle.trace.specs.Trace.{record_at}
use Rattle.trace.specs.declared.RecordRead.TheVariants.{Read}
use Rattle.trace.specs.Place.{place_after}
use Rattle.trace.proofs.Read.{read_from}

-- the definition over its test
abbrev picked : List ℕ → ℕ → Bool → ℕ
picked s p b = elim b [ true ↦ p + 1 + byte_at s p | false ↦ p ]

module _ (s : List ℕ) (p : ℕ) where
  pub after_whole : p + byte_at s p < length s → place_after s p ≡ p + 1 + byte_at s p
  unfolding place_after
  after_whole h = ap (picked s p) (lt-ltb _ _ h)

  -- the same of a byte that was read
  pub after_byte : (n : ℕ) → n ≡ byte_at s p → p + n < length s → p + 1 + n ≡ place_after s p
  after_byte n e h = let w = after_whole (omega arith) in omega arith

  pub after_cut : length s ≤ p + byte_at s p → place_after s p ≡ p
  unfolding place_after
  after_cut h = ap (picked s p) (le-ltb _ _ h)

  pub after_end : length s ≤ p → place_after s p ≡ p
  after_end h = after_cut (omega arith)

  -- a record that is read names the place where a reader moved past it stands
  pub after_read : (r : Record) (q : ℕ) → record_at s p ≡ Read r q → place_after s p ≡ q
  after_read r q e = let w = read_from s p r q e in after_whole w.inside ∙ sym w.next
