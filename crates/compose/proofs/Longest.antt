-- The longest sheet of either version is there: 32 items, each two of which bar everything. Assumes nothing.
use mathlib.Core.Path.{◌≡◌, refl, sym, ap, ◌∙◌, subst}
use mathlib.Core.Bool.{Bool, true, false, cond}
use mathlib.Core.List.{List}
use mathlib.Core.Logic.{inl, inr}
use Prim.Native.Nat.{ℕ, zero, suc, ◌+◌, ◌*◌, ◌/◌, ◌%◌, ◌≤◌, ◌<◌}
use native.Mathlib.Nat.{suc-mul}
use native.Mathlib.Omega.{arith}
use lib.Dec.{ltb}
use lib.ListN.{length, length-append}
use borrow.Author.Tests.{lt-ltb, le-ltb}
use Rattle.bounded.specs.Quantifiers.{any_below}
use Rattle.bounded.proofs.Truth.{T_true, clash}
use Rattle.problem.specs.Problem.{Problem}
use Rattle.problem.specs.Held.{Bounded}
use Rattle.sheet.specs.Sheet.{layout, version_of, variables_of, size_at, Keeps}
use Rattle.sheet.proofs.Versions.{taken_test}
use Rattle.sheet.specs.Causes.{KnownVersion}
use Rattle.jobs.proofs.Opened.{variables_of_lem}
use Rattle.compose.specs.Compose.{row_bars, pair_bars, has_block, block_count, block_bytes, blocks_bytes, sheet_bytes}
use Rattle.compose.proofs.Rows.{has_block_lem}
use Rattle.compose.proofs.Lengths.{count_hit, count_miss, blocks_hit, blocks_miss, length_block}
use Rattle.compose.proofs.Blocks.{sized, layout_roomy}
use Rattle.compose.proofs.Written.{written_keeps, written_problem, written_length}

-- a sheet of version v whose items have z settings each, and whose length is len
pub record SheetOf (v z len : ℕ) : Type 0 where
  pub sheet : List ℕ
  pub keeps : Keeps layout sheet
  pub version : version_of sheet ≡ v
  pub sizes : (i : ℕ) → i < variables_of sheet → size_at sheet i ≡ z
  pub long : length sheet ≡ len

-- 32 items of z settings, no two of which may stand together
abbrev barring : ℕ → Problem
barring z = record { n = 32; size = λ i. cond (ltb i 32) z 0; allowed = λ i a j b. false; symmetric = λ i a j b. refl }

-- each of the 496 pairs has a block
eight : block_count (barring 8) 1024 0 ≡ 496
unfolding block_count has_block pair_bars row_bars any_below
eight = refl

sixteen : block_count (barring 16) 1024 0 ≡ 496
unfolding block_count has_block pair_bars row_bars any_below
sixteen = refl

module _ (z : ℕ) (some : 1 ≤ z) (few : z ≤ 16) where
  size_is : (i : ℕ) → i < 32 → (barring z).size i ≡ z
  size_is i h = ap (λ (t : Bool). cond {A = ℕ} t z 0) (lt-ltb i 32 h)

  bounded : Bounded (barring z)
  bounded =
      record {
        few = omega arith;
        some = λ i h. let e = size_is i h in omega arith;
        narrow = λ i. narrow (ltb i 32);
        none = λ i h. ap (λ (t : Bool). cond {A = ℕ} t z 0) (le-ltb i 32 h);
        listed = λ i a j b t. absurd (clash (T_true false t) refl);
      }
    where
      narrow : (t : Bool) → cond {A = ℕ} t z 0 ≤ 16
      narrow true = few
      narrow false = omega arith

  -- each block has the same length
  blocks_length : (v k x : ℕ) → length (blocks_bytes layout v (barring z) k x) ≡ block_count (barring z) k x * (2 + z * layout.width v z)
  unfolding blocks_bytes block_count
  blocks_length v zero x = omega arith
  blocks_length v (suc k) x = go (has_block (barring z) x) refl (blocks_length v k (x + 1))
    where
      go : (t : Bool) → has_block (barring z) x ≡ t → length (blocks_bytes layout v (barring z) k (x + 1)) ≡ block_count (barring z) k (x + 1) * (2 + z * layout.width v z)
          → length (blocks_bytes layout v (barring z) (suc k) x) ≡ block_count (barring z) (suc k) x * (2 + z * layout.width v z)
      go true e ih =
          let b = has_block_lem (barring z) x e in
          let r = b.rises in
          let l = b.ends in
          let zi = size_is (x / 32) (omega arith) in
          let zj = size_is (x % 32) l in
          let m = length_block layout v (barring z) (x / 32) (x % 32) in
          let w : 2 + (barring z).size (x / 32) * layout.width v ((barring z).size (x % 32)) ≡ 2 + z * layout.width v z = rw (zi, zj) in
          let a = length-append (block_bytes layout v (barring z) (x / 32) (x % 32)) (blocks_bytes layout v (barring z) k (x + 1)) in
          let s = suc-mul (block_count (barring z) k (x + 1)) (2 + z * layout.width v z) in
          rw (blocks_hit layout v (barring z) k x e, count_hit (barring z) k x e) (omega arith)
      go false e ih = rw (blocks_miss layout v (barring z) k x e, count_miss (barring z) k x e) ih

  -- 8 bytes in front, 32 sizes and 496 blocks of z rows
  reached : (v : ℕ) → KnownVersion v → block_count (barring z) 1024 0 ≡ 496 → SheetOf v z (8 + 32 + 496 * (2 + z * layout.width v z))
  unfolding sheet_bytes
  reached v t c =
      let taken = taken_test v t in
      let s = sheet_bytes layout v (barring z) in
      let l = written_length layout v (barring z) layout_roomy taken bounded in
      let e = blocks_length v 1024 0 ∙ ap (λ (y : ℕ). y * (2 + z * layout.width v z)) c in
      let q = written_problem layout v (barring z) layout_roomy taken bounded (omega arith) in
      record {
        sheet = s;
        keeps = written_keeps layout v (barring z) layout_roomy taken bounded (omega arith);
        version = refl;
        sizes = λ i h.
            let n = sym (variables_of_lem s) ∙ ap (λ (P : Problem). P.n) q in
            sym (sized layout s i h) ∙ ap (λ (P : Problem). P.size i) q ∙ size_is i (omega arith);
        long = omega arith;
      }

-- "The longest sheet is 8 + 32 + 496 × 34 = 16,904 bytes. That is so in either version": no sheet is longer (`longest_sheet`), and this one is
-- as long
pub longest_reached : (v : ℕ) → KnownVersion v → SheetOf v 16 16904
longest_reached v t = subst (SheetOf v 16) (width t) (reached 16 (omega arith) (omega arith) v t sixteen)
  where
    width : KnownVersion v → ◌≡◌ {A = ℕ} (8 + 32 + 496 * (2 + 16 * layout.width v 16)) 16904
    width (inl e) = rw e
    width (inr e) = rw e

-- with no item of more than 8 settings: the bounds `longest_narrow_1` and `longest_narrow_2` are reached
pub narrow_reached_1 : SheetOf 1 8 8968
narrow_reached_1 = reached 8 (omega arith) (omega arith) 1 (inl refl) eight

pub narrow_reached_2 : SheetOf 2 8 5000
narrow_reached_2 = reached 8 (omega arith) (omega arith) 2 (inr refl) eight
