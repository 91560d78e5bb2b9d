-- What an exported function's number tells: its low byte is the number of a refusal, from 1 to 255, or 0. Assumes nothing.
use mathlib.Core.Path.{◌≡◌}
use mathlib.Core.Logic.{◌⊎◌, inl, inr, ◌≢◌, ◌↔◌}
use Prim.Native.Nat.{ℕ, ◌/◌, ◌%◌, ◌≤◌, ◌<◌, ◌^◌}
use native.Mathlib.Omega.{arith}
use Rattle.sheet.specs.Sheet.{sheet_number}
use Rattle.sheet.specs.declared.SheetRefusal.{SheetRefusal}
use Rattle.sheet.proofs.Refusals.{sheet_number_lem}
use Rattle.boundary.specs.Numbers.{written_number}

-- ---- numbers of refusals

-- a number that stands for a refusal
abbrev pub Refuses : ℕ → Type 0
Refuses a = (1 ≤ a) × (a < 256)

-- a number of the format's table; the boundary's own are above them
abbrev pub Listed : ℕ → Type 0
Listed a = (1 ≤ a) × (a ≤ 20)

pub sheet_listed : (r : SheetRefusal) → Listed (sheet_number r)
sheet_listed r = let l = sheet_number_lem r in (omega arith, omega arith)

-- Where the answer a either is of an accepted call, A, and then a multiple of 256, or refuses and keeps, K: its remainder tells which.
module _ (A K : Type 0) (a : ℕ) (either : A ⊎ (Refuses a × K)) (even : A → a % 256 ≡ 0) where
  pub refused_keeps : a % 256 ≢ 0 → K
  refused_keeps d = go either
    where
      go : A ⊎ (Refuses a × K) → K
      go (inl x) = absurd (d (even x))
      go (inr y) = y.1

  pub taken_iff : (a % 256 ≡ 0) ↔ A
  taken_iff = (λ z. go z either, even)
    where
      go : a % 256 ≡ 0 → A ⊎ (Refuses a × K) → A
      go z (inl x) = x
      go z (inr y) = let l = y.0 in absurd (omega arith)

-- where a sheet was written: its bytes come back from the number x, and fit their bits
pub written_unpacked : (x w : ℕ) → x ≡ written_number w → w ≤ 16904 → (x % 256 ≡ 0) × (x / 256 ≡ w) × (w < 2 ^ 24)
written_unpacked x w e l = (omega arith, omega arith, omega arith)
