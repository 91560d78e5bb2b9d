-- The definitions one place of the order on, and the lengths of what they write. Assumes nothing.
use mathlib.Core.Path.{◌≡◌, refl, ap}
use mathlib.Core.Bool.{Bool, true, false}
use mathlib.Core.List.{◌++◌}
use Prim.Native.Nat.{ℕ, zero, suc, ◌+◌, ◌*◌, ◌/◌, ◌%◌, ◌≤◌}
use native.Mathlib.Nat.{suc-mul}
use native.Mathlib.Omega.{arith}
use lib.ListN.{length, length-append}
use Rattle.bounded.specs.Quantifiers.{one_if}
use Rattle.problem.specs.Problem.{Problem}
use Rattle.problem.specs.Held.{Bounded}
use Rattle.buffers.specs.Bytes.{number_bytes}
use Rattle.sheet.specs.Sheet.{Layout}
use Rattle.sheet.proofs.Laws.{rows_small}
use Rattle.compose.specs.Compose.{row_number, has_block, block_count, rows_bytes, block_bytes, place_bytes, blocks_bytes, Roomy}
use Rattle.buffers.proofs.Stands.{length_number}

-- ---- one place more, with a block and without
module _ (P : Problem) (k x : ℕ) where
  pub count_hit : has_block P x ≡ true → block_count P (suc k) x ≡ suc (block_count P k (x + 1))
  unfolding block_count
  count_hit e = let o : one_if (has_block P x) ≡ 1 = ap one_if e in omega arith

  pub count_miss : has_block P x ≡ false → block_count P (suc k) x ≡ block_count P k (x + 1)
  unfolding block_count
  count_miss e = let o : one_if (has_block P x) ≡ 0 = ap one_if e in omega arith

pub one_few : (t : Bool) → one_if t ≤ 1
one_few true = omega arith
one_few false = omega arith

pub count_few : (P : Problem) (k x : ℕ) → block_count P k x ≤ k
unfolding block_count
count_few P zero x = omega arith
count_few P (suc k) x = let ih = count_few P k (x + 1) in let o = one_few (has_block P x) in omega arith

module _ (L : Layout) (v : ℕ) (P : Problem) where
  pub blocks_hit : (k x : ℕ) → has_block P x ≡ true → blocks_bytes L v P (suc k) x ≡ block_bytes L v P (x / 32) (x % 32) ++ blocks_bytes L v P k (x + 1)
  unfolding blocks_bytes place_bytes
  blocks_hit k x e = simp e

  pub blocks_miss : (k x : ℕ) → has_block P x ≡ false → blocks_bytes L v P (suc k) x ≡ blocks_bytes L v P k (x + 1)
  unfolding blocks_bytes place_bytes
  blocks_miss k x e = simp e

  -- ---- lengths

  pub length_rows : (i j k a : ℕ) → length (rows_bytes L v P i j k a) ≡ k * L.width v (P.size j)
  unfolding rows_bytes
  length_rows i j zero a = omega arith
  length_rows i j (suc k) a =
      let w = L.width v (P.size j) in
      let d = length_number w (row_number P i j a) in
      let e = length-append (number_bytes w (row_number P i j a)) (rows_bytes L v P i j k (a + 1)) in
      let ih = length_rows i j k (a + 1) in
      let m = suc-mul k w in
      omega arith

  pub length_block : (i j : ℕ) → length (block_bytes L v P i j) ≡ 2 + P.size i * L.width v (P.size j)
  unfolding block_bytes
  length_block i j = let e = length_rows i j (P.size i) 0 in omega arith

  pub blocks_short : Roomy L → Bounded P → (k x : ℕ) → length (blocks_bytes L v P k x) ≤ k * 34
  unfolding blocks_bytes
  blocks_short R B zero x = omega arith
  blocks_short R B (suc k) x = go (has_block P x) refl (blocks_short R B k (x + 1))
    where
      go : (t : Bool) → has_block P x ≡ t → length (blocks_bytes L v P k (x + 1)) ≤ k * 34 → length (blocks_bytes L v P (suc k) x) ≤ suc k * 34
      go true e ih =
          let l = length_block (x / 32) (x % 32) in
          let a = length-append (block_bytes L v P (x / 32) (x % 32)) (blocks_bytes L v P k (x + 1)) in
          let m = rows_small (P.size (x / 32)) (L.width v (P.size (x % 32))) (B.narrow (x / 32)) (R.narrow v (P.size (x % 32))) in
          rw (blocks_hit k x e) (omega arith)
      go false e ih = rw (blocks_miss k x e) (omega arith)
