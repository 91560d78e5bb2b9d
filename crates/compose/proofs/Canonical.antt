-- The writer's third law: a sheet that keeps the layout is what the writer makes of its version and its problem. Assumes nothing.
use mathlib.Core.Path.{◌≡◌, refl, sym, ap, ◌∙◌}
use mathlib.Core.Bool.{Bool, true, false, ◌&&◌}
use mathlib.Core.List.{List, ◌∷◌, ◌++◌, append_assoc}
use mathlib.Core.Logic.{⊎_elim, ◌≢◌, ◌⊎◌, inl, inr}
use Prim.Native.Nat.{ℕ, zero, suc, ◌+◌, ◌-◌, ◌*◌, ◌/◌, ◌%◌, ◌≤◌, ◌<◌}
use native.Mathlib.Nat.{suc-mul}
use native.Mathlib.Omega.{arith}
use lib.Dec.{eqb}
use lib.ListN.{length, drop, length-drop, drop_of_length-le}
use borrow.Author.Tests.{lt-ltb, le-leb, eq-eqb}
use Rattle.bounded.specs.Table.{tab}
use Rattle.bounded.proofs.Truth.{eq_dec, clash}
use Rattle.problem.specs.Problem.{Problem}
use Rattle.buffers.specs.Bytes.{byte_at, number_at, number_bytes, AreBytes}
use Rattle.sheet.specs.Sheet.{Layout, version_of, length_of, variables_of, blocks_of, size_at, row_width, row_bytes, in_order, Keeps}
use Rattle.sheet.specs.Relation.{rows_from, rows_of, size_of, problem_of}
use Rattle.std.specs.Prelude.{None, Some}
use Rattle.sheet.proofs.Laws.{none_beyond, block_there, block_next, blocks_next, blocks_end}
use Rattle.sheet.proofs.Accepted.{Good, Here, here, at_end, facts, is_pair, rows_hit, rows_miss, rows_of_lem, size_in}
use Rattle.compose.specs.Compose.{row_number, pair_bars, has_block, block_count, rows_bytes, block_bytes, blocks_bytes, sheet_length, sheet_bytes}
use Rattle.buffers.proofs.Stands.{byte_again, sizes_again, number_again}
use Rattle.compose.proofs.Rows.{rows_passed, Block, has_block_lem, block_has}
use Rattle.compose.proofs.Lengths.{count_hit, count_miss, blocks_hit, blocks_miss}
use Rattle.compose.proofs.Blocks.{sized, row_is, block_some, free_none}

-- ---- the next block of a sheet that is read

module _ (L : Layout) (s : List ℕ) where
  -- the least place of the first block may be raised to where that block stands
  raise : (m x y p : ℕ) → Here L s (suc m) x p → y ≤ 32 * byte_at s p + byte_at s (p + 1) → Good L s (suc m) y p
  raise m x y p h l =
      let i = byte_at s p in
      let j = byte_at s (p + 1) in
      let rises = h.block.rises in
      let ends = h.block.ends in
      let within = h.block.within in
      let order : in_order L s y i j ≡ true = simp (lt-ltb _ _ rises, lt-ltb _ _ ends, le-leb _ _ l) in
      blocks_next L s (suc m) y p (omega arith) (32 * i + j + 1) (p + 2 + row_bytes L s i j)
      (block_there L s y p (omega arith) ∙ block_next L s y p i j order within (none_beyond L s (row_width L s j) (size_at s j) (size_at s i) (p + 2) h.low) h.bars)
      ∙ h.rest

  -- the next block is that of place x, or all come after it
  next_or : (m x p : ℕ) → Good L s m x p → ((0 < m) × (32 * byte_at s p + byte_at s (p + 1) ≡ x)) ⊎ Good L s m (x + 1) p
  next_or zero x p g = inr (blocks_end L s (x + 1) p (at_end L s x p g))
  next_or (suc m) x p g =
      let h = here L s (suc m) x p (omega arith) g in
      let a = h.after in
      ⊎_elim
      (λ (e : 32 * byte_at s p + byte_at s (p + 1) ≡ x). inl (omega arith, e))
      (λ (d : 32 * byte_at s p + byte_at s (p + 1) ≢ x). inr (raise m x (x + 1) p h (omega arith)))
      (eq_dec (32 * byte_at s p + byte_at s (p + 1)) x)

-- ---- rows that are known one by one, written again

module _ (s : List ℕ) (bytes : AreBytes s) (L : Layout) (v : ℕ) (P : Problem) (i j : ℕ) where
  rows_again : (k a p : ℕ) → p + k * L.width v (P.size j) ≤ length s
      → ((c : ℕ) → c < k → number_at s (L.width v (P.size j)) (p + c * L.width v (P.size j)) ≡ row_number P i j (a + c))
      → drop p s ≡ rows_bytes L v P i j k a ++ drop (p + k * L.width v (P.size j)) s
  unfolding rows_bytes
  rows_again zero a p h e = let w = L.width v (P.size j) in let q : p ≡ p + zero * w = omega arith in ap (λ (k : ℕ). drop k s) q
  rows_again (suc k) a p h e =
      let w = L.width v (P.size j) in
      let m = suc-mul k w in
      let q : p + zero * w ≡ p = omega arith in
      let z : a + 0 ≡ a = omega arith in
      let n : number_at s w p ≡ row_number P i j a = rw (q, z) at (e 0 (omega arith)) in
      let u : p + w + k * w ≡ p + suc k * w = omega arith in
      let ih = rows_again k (a + 1) (p + w) (omega arith) (λ c l.
      let x = suc-mul c w in
      let y : p + suc c * w ≡ p + w + c * w = omega arith in
      let g : a + suc c ≡ a + 1 + c = omega arith in
      rw (y, g) at (e (suc c) (omega arith))) in
      number_again s bytes w p (omega arith)
      ∙ ap (λ (x : ℕ). number_bytes w x ++ drop (p + w) s) n
      ∙ ap (λ (l : List ℕ). number_bytes w (row_number P i j a) ++ l) (ih ∙ ap (λ (x : ℕ). rows_bytes L v P i j k (a + 1) ++ drop x s) u)
      ∙ sym (append_assoc (number_bytes w (row_number P i j a)) (rows_bytes L v P i j k (a + 1)) (drop (p + suc k * w) s))

-- ---- the sheet

module _ (L : Layout) (s : List ℕ) (y : Keeps L s) where
  abbrev P : Problem
  P = problem_of L s

  abbrev v : ℕ
  v = version_of s

  -- a pair that the sheet has no block of
  free : (x : ℕ) → rows_of L s (x / 32) (x % 32) ≡ None → has_block P x ≡ false
  unfolding problem_of
  free x e = go (has_block P x) refl
    where
      go : (t : Bool) → has_block P x ≡ t → t ≡ false
      go false q = refl
      go true q = let b = has_block_lem P x q in absurd (clash b.bar (free_none L s y (x / 32) (x % 32) b.rises b.ends e))

  -- and one that it has
  there : (x i j : ℕ) → x / 32 ≡ i → x % 32 ≡ j → i < j → j < variables_of s → pair_bars P i j ≡ true → Block P x
  unfolding problem_of
  there x i j ei ej h l b = record { rises = rw (ei, ej) h; ends = rw ej l; bar = rw (ei, ej) b }

  -- a block that is read is the block that is written
  block_again : AreBytes s → (p : ℕ) → byte_at s p < byte_at s (p + 1) → byte_at s (p + 1) < variables_of s → p + 2 + row_bytes L s (byte_at s p) (byte_at s (p + 1)) ≤ length s
      → rows_of L s (byte_at s p) (byte_at s (p + 1)) ≡ Some (p + 2)
      → drop p s ≡ block_bytes L v P (byte_at s p) (byte_at s (p + 1)) ++ drop (p + 2 + row_bytes L s (byte_at s p) (byte_at s (p + 1))) s
  unfolding block_bytes
  block_again bytes p h l within e =
      let i = byte_at s p in
      let j = byte_at s (p + 1) in
      let w = L.width v (P.size j) in
      let zi = sized L s i (omega arith) in
      let zj = sized L s j l in
      let ew : row_width L s j ≡ w = ap (L.width v) (sym zj) in
      let eb : row_bytes L s i j ≡ P.size i * w = ap (λ (x : ℕ). x * row_width L s j) (sym zi) ∙ ap (λ (x : ℕ). P.size i * x) ew in
      let q : p + 1 + 1 ≡ p + 2 = omega arith in
      let rows = rows_again s bytes L v P i j (P.size i) 0 (p + 2) (omega arith) (λ c m.
      let z : 0 + c ≡ c = omega arith in
      rw z (ap (λ (x : ℕ). number_at s x (p + 2 + c * x)) (sym ew) ∙ row_is L s y i j (p + 2) e c m)) in
      byte_again s p (omega arith)
      ∙ ap {B = List ℕ} (λ r. i ∷ r)
      (byte_again s (p + 1) (omega arith)
      ∙ ap {B = List ℕ} (λ r. j ∷ r) (ap (λ (x : ℕ). drop x s) q ∙ rows ∙ ap (λ (x : ℕ). rows_bytes L v P i j (P.size i) 0 ++ drop (p + 2 + x) s) (sym eb)))

  -- what is left of the sheet, m blocks from p, is what is left to write, from place x on
  record Left (k x m p : ℕ) : Type 0 where
    bytes_left : AreBytes s → drop p s ≡ blocks_bytes L v P k x
    blocks_left : m ≡ block_count P k x

  -- the pairs from place x on are among the m blocks from p
  abbrev Among : (x m p : ℕ) → Type 0
  Among x m p = (i j : ℕ) → x ≤ 32 * i + j → rows_of L s i j ≡ rows_from L s i j m p

  at_last : (x m p : ℕ) → 1024 ≤ x → Good L s m x p → Left 0 x m p
  unfolding blocks_bytes block_count
  at_last x zero p h g = let e = at_end L s x p g in let l : length s ≤ p = omega arith in record { bytes_left = λ b. drop_of_length-le s l; blocks_left = refl }
  at_last x (suc m) p h g =
      let few = (facts L s y).front.few in
      let q = here L s (suc m) x p (omega arith) g in
      let a = q.after in
      let b = q.block.rises in
      let c = q.block.ends in
      absurd (omega arith)

  -- the pairs after the block at p are among the blocks after it
  among_next : (x m p : ℕ) → 0 < m → 32 * byte_at s p + byte_at s (p + 1) ≡ x → Among x m p → Among (x + 1) (m - 1) (p + 2 + row_bytes L s (byte_at s p) (byte_at s (p + 1)))
  among_next x m p h e r i j l = r i j (omega arith) ∙ go (eqb (byte_at s p) i && eqb (byte_at s (p + 1)) j) refl
    where
      go : (t : Bool) → (eqb (byte_at s p) i && eqb (byte_at s (p + 1)) j) ≡ t
          → rows_from L s i j m p ≡ rows_from L s i j (m - 1) (p + 2 + row_bytes L s (byte_at s p) (byte_at s (p + 1)))
      go true t = let q = is_pair L s i j p t in let a = q.0 in let b = q.1 in absurd (omega arith)
      go false t = rows_miss L s i j m p h t

  left : (k x m p : ℕ) → x + k ≡ 1024 → Good L s m x p → Among x m p → Left k x m p
  left zero x m p f g r = at_last x m p (omega arith) g
  left (suc k) x m p f g r =
      ⊎_elim (λ q. now q.0 q.1 (left k (x + 1))) (λ q. later q (left k (x + 1) m p (omega arith) q (λ i j l. r i j (omega arith)))) (next_or L s m x p g)
    where
      -- the block at p is that of place x
      now : 0 < m → 32 * byte_at s p + byte_at s (p + 1) ≡ x → ((m p : ℕ) → x + 1 + k ≡ 1024 → Good L s m (x + 1) p → Among (x + 1) m p → Left k (x + 1) m p) → Left (suc k) x m p
      now h e ih =
          let i = byte_at s p in
          let j = byte_at s (p + 1) in
          let q = here L s m x p h g in
          let few = (facts L s y).front.few in
          let rises = q.block.rises in
          let ends = q.block.ends in
          let within = q.block.within in
          let ei : x / 32 ≡ i = omega arith in
          let ej : x % 32 ≡ j = omega arith in
          let found : rows_of L s i j ≡ Some (p + 2) = r i j (omega arith) ∙ rows_hit L s i j m p h (simp (eq-eqb i i refl, eq-eqb j j refl)) in
          let has = block_has P x (there x i j ei ej rises ends (block_some L s y i j (p + 2) found)) in
          let rest = ih (m - 1) (p + 2 + row_bytes L s i j) (omega arith) (rw e at q.rest) (among_next x m p h e r) in
          let c = rest.blocks_left in
          let d = count_hit P k x has in
          record {
            bytes_left = λ b. block_again b p rises ends within found ∙ ap (λ (l : List ℕ). block_bytes L v P i j ++ l) (rest.bytes_left b) ∙ rw (blocks_hit L v P k x has, ei, ej);
            blocks_left = omega arith;
          }

      -- it is that of a later one
      later : Good L s m (x + 1) p → Left k (x + 1) m p → Left (suc k) x m p
      later q rest =
          let few = (facts L s y).front.few in
          let z : 32 * (x / 32) + x % 32 ≡ x = omega arith in
          let none = free x (r (x / 32) (x % 32) (omega arith) ∙ rows_passed L s (x / 32) (x % 32) m (x + 1) p q (omega arith)) in
          record { bytes_left = λ b. rest.bytes_left b ∙ sym (blocks_miss L v P k x none); blocks_left = rest.blocks_left ∙ sym (count_miss P k x none) }

  all_left : Left 1024 0 (blocks_of s) (8 + variables_of s)
  all_left = left 1024 0 (blocks_of s) (8 + variables_of s) (omega arith) (facts L s y).laid (λ i j h. rows_of_lem L s i j)

  -- the sheet has a block for each pair that bars something
  pub blocks_counted : blocks_of s ≡ block_count P 1024 0
  blocks_counted = all_left.blocks_left

  -- the sheet is what its version and its problem give
  pub written_canonical : AreBytes s → sheet_bytes L v P ≡ s
  unfolding sheet_bytes problem_of
  written_canonical bytes =
      let n = variables_of s in
      let f = facts L s y in
      let eight = f.eight in
      let room = f.front.room in
      let z : 8 + n ≡ n + 8 = omega arith in
      let d8 : drop 8 s ≡ tab n (size_of L s) ++ drop (8 + n) s = sizes_again s n 8 (size_of L s) room (λ i h. sym (size_in L s i h)) in
      let d6 : drop 6 s ≡ number_bytes 2 (blocks_of s) ++ drop 8 s = number_again s bytes 2 6 eight in
      let d5 : drop 5 s ≡ n ∷ drop 6 s = byte_again s 5 (omega arith) in
      let d1 : drop 1 s ≡ number_bytes 4 (length_of s) ++ drop 5 s = number_again s bytes 4 1 (omega arith) in
      let d0 : s ≡ version_of s ∷ drop 1 s = byte_again s 0 (omega arith) in
      let e = all_left.bytes_left bytes in
      let g = length-drop (8 + n) s in
      let h : length (drop (8 + n) s) ≡ length (blocks_bytes L v P 1024 0) = ap length e in
      let w = f.whole in
      let l : length_of s ≡ sheet_length L v P = omega arith in
      sym
      (d0
      ∙ ap {B = List ℕ} (λ r. v ∷ r)
      (d1
      ∙ ap (λ (x : ℕ). number_bytes 4 x ++ drop 5 s) l
      ∙ ap (λ (r : List ℕ). number_bytes 4 (sheet_length L v P) ++ r)
      (d5
      ∙ ap {B = List ℕ} (λ r. n ∷ r)
      (d6
      ∙ ap (λ (x : ℕ). number_bytes 2 x ++ drop 8 s) blocks_counted
      ∙ ap (λ (r : List ℕ). number_bytes 2 (block_count P 1024 0) ++ r) (d8 ∙ ap (λ (r : List ℕ). tab n (size_of L s) ++ r) e)))))
