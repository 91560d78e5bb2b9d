-- The two versions of a sheet, and the rows of each. Assumes nothing.
use mathlib.Core.Path.{◌≡◌, refl, ap, ◌∙◌}
use mathlib.Core.Bool.{true, false}
use mathlib.Core.List.{List}
use mathlib.Core.Logic.{◌⊎◌, inl, inr, ◌≢◌}
use Prim.Native.Nat.{ℕ, ◌+◌, ◌*◌, ◌≤◌, ◌<◌}
use native.Mathlib.Nat.{mul-le-mul_right}
use lib.ListN.{length}
use borrow.Author.Tests.{ne_eqb, le-leb, lt-leb}
use Rattle.bounded.proofs.Truth.{clash, eq_dec}
use Rattle.sheet.specs.Sheet.{layout, version_of, variables_of, size_at, row_width, Keeps}
use Rattle.sheet.specs.Causes.{KnownVersion, UnknownVersion}
use Rattle.sheet.proofs.Accepted.{facts, longest_of}

pub taken_or : (v : ℕ) → KnownVersion v ⊎ UnknownVersion v
taken_or v = go (eq_dec v 1) (eq_dec v 2)
  where
    go : (v ≡ 1) ⊎ (v ≢ 1) → (v ≡ 2) ⊎ (v ≢ 2) → KnownVersion v ⊎ UnknownVersion v
    go (inl e) y = inl (inl e)
    go (inr d) (inl e) = inl (inr e)
    go (inr d) (inr c) = inr (d, c)

pub taken_test : (v : ℕ) → KnownVersion v → layout.takes v ≡ true
taken_test v (inl e) = rw e
taken_test v (inr e) = rw e

pub untaken_test : (v : ℕ) → UnknownVersion v → layout.takes v ≡ false
untaken_test v (d, c) = simp (ne_eqb v 1 d, ne_eqb v 2 c)

pub test_taken : (v : ℕ) → layout.takes v ≡ true → KnownVersion v
test_taken v e = go (taken_or v)
  where
    go : KnownVersion v ⊎ UnknownVersion v → KnownVersion v
    go (inl t) = t
    go (inr u) = absurd (clash e (untaken_test v u))

-- a sheet that keeps the layout is of one of the two versions
pub both_versions : (s : List ℕ) → Keeps layout s → KnownVersion (version_of s)
both_versions s y = test_taken (version_of s) (facts layout s y).taken

-- "In version 1 every row has two bytes."
pub width_first : (z : ℕ) → layout.width 1 z ≡ 2
width_first z = refl

-- in version 2 "a row has one byte when item j has 8 settings or fewer, two otherwise"
pub width_narrow : (z : ℕ) → z ≤ 8 → layout.width 2 z ≡ 1
width_narrow z h = rw (le-leb z 8 h)

pub width_wide : (z : ℕ) → 8 < z → layout.width 2 z ≡ 2
width_wide z h = rw (lt-leb z 8 h)

-- "With no item of more than 8 settings the longest of version 1 has 8 + 32 + 496 × 18 = 8,968 bytes, and the longest of version 2 has 8 + 32 +
-- 496 × 10 = 5,000.": v is the version, w the bytes of each of at most 8 rows
module _ (s : List ℕ) (K : Keeps layout s) (v w : ℕ) (version : version_of s ≡ v) (width : (z : ℕ) → z ≤ 8 → layout.width v z ≡ w) where
  longest_rows : ((i : ℕ) → i < variables_of s → size_at s i ≤ 8) → length s ≤ 8 + 32 + 496 * (2 + 8 * w)
  longest_rows few =
      longest_of layout s (8 * w)
      (λ i j h l.
      let e : row_width layout s j ≡ w = ap (λ (x : ℕ). layout.width x (size_at s j)) version ∙ width (size_at s j) (few j l) in
      rw e (mul-le-mul_right w (few i h)))
      K

pub longest_narrow_1 : (s : List ℕ) → Keeps layout s → version_of s ≡ 1 → ((i : ℕ) → i < variables_of s → size_at s i ≤ 8) → length s ≤ 8968
longest_narrow_1 s K e = longest_rows s K 1 2 e (λ z h. width_first z)

pub longest_narrow_2 : (s : List ℕ) → Keeps layout s → version_of s ≡ 2 → ((i : ℕ) → i < variables_of s → size_at s i ≤ 8) → length s ≤ 5000
longest_narrow_2 s K e = longest_rows s K 2 1 e width_narrow
