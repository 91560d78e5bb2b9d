-- A record's bytes by its parts. Assumes nothing.
use mathlib.Core.Path.{◌≡◌, ap}
use mathlib.Core.List.{[], ◌∷◌}
use Prim.Native.Nat.{suc, ◌+◌, ◌<◌}
use native.Mathlib.Omega.{arith}
use lib.ListN.{length}
use Rattle.problem.specs.Record.{fields_of, parts_of}
use Rattle.problem.specs.declared.Record.{Record}
use Rattle.problem.specs.declared.Parts.{Parts}
use Rattle.problem.proofs.Apart.{parts_few, parts_two, parts_three}
use Rattle.trace.specs.Trace.{record_bytes, Small}

-- a record whose fields fit a byte, and its bytes, by its parts
pub small_parts : (x : Parts) (r : Record) → x ≡ parts_of r → Small r → (x.item < 256) × (x.third < 256) × (x.fourth < 256)
small_parts x r e h = let i = ap (λ (y : Parts). y.item) e in let j = ap (λ (y : Parts). y.third) e in let k = ap (λ (y : Parts). y.fourth) e in (omega arith, omega arith, omega arith)

pub two_bytes : (x : Parts) (r : Record) → x ≡ parts_of r → x.count ≡ 2 → (1 + x.count) ∷ x.kind ∷ x.item ∷ x.third ∷ [] ≡ record_bytes r
two_bytes x r e n = let o : 1 + x.count ≡ suc (length (fields_of r)) = omega (arith, (parts_few x r e).0) in λ t. o t ∷ (e t).kind ∷ parts_two x r e n t

pub three_bytes : (x : Parts) (r : Record) → x ≡ parts_of r → (x.count ≡ 2 → ⊥) → (1 + x.count) ∷ x.kind ∷ x.item ∷ x.third ∷ x.fourth ∷ [] ≡ record_bytes r
three_bytes x r e n = let o : 1 + x.count ≡ suc (length (fields_of r)) = omega (arith, (parts_few x r e).0) in λ t. o t ∷ (e t).kind ∷ parts_three x r e n t
