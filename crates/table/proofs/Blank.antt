-- A table of all ones shows that every pair of values is allowed. Assumes nothing.
use mathlib.Core.Path.{◌≡◌, ap, ◌∙◌}
use mathlib.Core.Bool.{true}
use mathlib.Core.List.{List}
use Prim.Native.Nat.{ℕ, ◌+◌, ◌≤◌, ◌<◌}
use native.Mathlib.Omega.{arith}
use lib.ListN.{get_or, replicate, length-replicate, get_or-replicate}
use Rattle.bounded.specs.Mask.{bit}
use Rattle.bounded.proofs.Mask.{full_bit}
use Rattle.problem.specs.Held.{far_start, table_length, rows_at, row_allows}
use Rattle.problem.specs.Filling.{Shows}
use Rattle.table.specs.Parts.{Blank}
use Rattle.problem.proofs.Places.{place_small}
use Rattle.table.proofs.Entering.{rows_lower, rows_higher}

-- only the entries behind the list of places count: the law holds before and after the list is put in
pub blank_shows : (t : List ℕ) → ((q : ℕ) → far_start ≤ q → q < table_length → get_or t q 0 ≡ 65535) → (i j : ℕ) → i < j → j < 32 → Shows t i j (λ a b. true)
unfolding row_allows
blank_shows t ones i j li lj =
    let p = rows_lower i j li in
    let q = rows_higher i j li in
    let s = place_small i j (omega arith) lj (λ e. absurd (omega arith)) in
    record {
      own = λ a b la lb. ap (λ (x : ℕ). bit x b) (ones (rows_at i j + a) (omega arith) (omega arith)) ∙ full_bit 16 b lb;
      turned = λ a b la lb. ap (λ (x : ℕ). bit x a) (ones (rows_at j i + b) (omega arith) (omega arith)) ∙ full_bit 16 a la;
      far = λ h a b la lb. tt;
      turned_far = λ h a b la lb. tt;
    }

-- a local of 65535s
pub blank_local : Blank (replicate table_length 65535)
blank_local = record { long = length-replicate {A = ℕ} table_length 65535; each = λ k l. get_or-replicate table_length k 65535 0 l }
