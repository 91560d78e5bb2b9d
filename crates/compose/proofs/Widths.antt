-- One problem in two versions: the rows' widths are all that differs. Assumes nothing.
use mathlib.Core.Path.{◌≡◌, refl, sym, ap, ◌∙◌}
use mathlib.Core.Bool.{Bool, true, false}
use mathlib.Core.List.{List, ◌∷◌, ◌++◌}
use Prim.Native.Nat.{ℕ, zero, suc, ◌+◌, ◌*◌, ◌/◌, ◌%◌, ◌≤◌}
use native.Mathlib.Nat.{mul-le-mul_left}
use native.Mathlib.Omega.{arith}
use lib.ListN.{length, drop, length-append}
use Rattle.bounded.specs.Table.{tab}
use Rattle.problem.specs.Problem.{Problem}
use Rattle.problem.specs.Held.{Bounded}
use Rattle.buffers.specs.Bytes.{number_bytes}
use Rattle.sheet.specs.Sheet.{Layout, layout}
use Rattle.sheet.proofs.Accepted.{rows_narrow}
use Rattle.compose.specs.Compose.{row_number, has_block, block_count, rows_bytes, block_bytes, blocks_bytes, sheet_bytes}
use Rattle.compose.proofs.Lengths.{blocks_hit, blocks_miss, length_block}
use Rattle.compose.proofs.Blocks.{layout_roomy}
use Rattle.compose.proofs.Written.{written_length}

module _ (L : Layout) (P : Problem) (u v : ℕ) where
  -- where no row of version v is wider, its blocks are not longer
  blocks_shorter : ((z : ℕ) → L.width v z ≤ L.width u z) → (k x : ℕ) → length (blocks_bytes L v P k x) ≤ length (blocks_bytes L u P k x)
  unfolding blocks_bytes
  blocks_shorter h zero x = omega arith
  blocks_shorter h (suc k) x = go (has_block P x) refl (blocks_shorter h k (x + 1))
    where
      go : (t : Bool) → has_block P x ≡ t → length (blocks_bytes L v P k (x + 1)) ≤ length (blocks_bytes L u P k (x + 1))
          → length (blocks_bytes L v P (suc k) x) ≤ length (blocks_bytes L u P (suc k) x)
      go true e ih =
          let a = length-append (block_bytes L v P (x / 32) (x % 32)) (blocks_bytes L v P k (x + 1)) in
          let b = length-append (block_bytes L u P (x / 32) (x % 32)) (blocks_bytes L u P k (x + 1)) in
          let c = length_block L v P (x / 32) (x % 32) in
          let d = length_block L u P (x / 32) (x % 32) in
          let m : P.size (x / 32) * L.width v (P.size (x % 32)) ≤ P.size (x / 32) * L.width u (P.size (x % 32)) = mul-le-mul_left (P.size (x / 32)) (h (P.size (x % 32))) in
          rw (blocks_hit L v P k x e, blocks_hit L u P k x e) (omega arith)
      go false e ih = rw (blocks_miss L v P k x e, blocks_miss L u P k x e) ih

  -- where the rows of each block are as wide, the blocks are the same
  rows_alike : (i j : ℕ) → L.width v (P.size j) ≡ L.width u (P.size j) → (k a : ℕ) → rows_bytes L v P i j k a ≡ rows_bytes L u P i j k a
  unfolding rows_bytes
  rows_alike i j e zero a = refl
  rows_alike i j e (suc k) a = λ t. number_bytes (e t) (row_number P i j a) ++ rows_alike i j e k (a + 1) t

  blocks_alike : ((x : ℕ) → has_block P x ≡ true → L.width v (P.size (x % 32)) ≡ L.width u (P.size (x % 32))) → (k x : ℕ) → blocks_bytes L v P k x ≡ blocks_bytes L u P k x
  unfolding blocks_bytes block_bytes
  blocks_alike h zero x = refl
  blocks_alike h (suc k) x = go (has_block P x) refl (blocks_alike h k (x + 1))
    where
      block : has_block P x ≡ true → block_bytes L v P (x / 32) (x % 32) ≡ block_bytes L u P (x / 32) (x % 32)
      block e = ap (λ (l : List ℕ). x / 32 ∷ x % 32 ∷ l) (rows_alike (x / 32) (x % 32) (h x e) (P.size (x / 32)) 0)

      go : (t : Bool) → has_block P x ≡ t → blocks_bytes L v P k (x + 1) ≡ blocks_bytes L u P k (x + 1) → blocks_bytes L v P (suc k) x ≡ blocks_bytes L u P (suc k) x
      go true e ih = blocks_hit L v P k x e ∙ (λ t. block e t ++ ih t) ∙ sym (blocks_hit L u P k x e)
      go false e ih = blocks_miss L v P k x e ∙ ih ∙ sym (blocks_miss L u P k x e)

  -- and the sheets differ in byte 0 only
  pub first_byte_only : ((x : ℕ) → has_block P x ≡ true → L.width v (P.size (x % 32)) ≡ L.width u (P.size (x % 32))) → sheet_bytes L v P ≡ v ∷ drop 1 (sheet_bytes L u P)
  unfolding sheet_bytes
  first_byte_only h =
      ap (λ (l : List ℕ). v ∷ (number_bytes 4 (8 + (P.n + length l)) ++ P.n ∷ (number_bytes 2 (block_count P 1024 0) ++ (tab P.n P.size ++ l)))) (blocks_alike h 1024 0)

-- version 2 is not longer than version 1
pub version_2_short : (P : Problem) → Bounded P → length (sheet_bytes layout 2 P) ≤ length (sheet_bytes layout 1 P)
version_2_short P B =
    let a = written_length layout 2 P layout_roomy refl B in
    let b = written_length layout 1 P layout_roomy refl B in
    let c = blocks_shorter layout P 1 2 (rows_narrow 2) 1024 0 in
    omega arith
