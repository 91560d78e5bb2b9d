-- The rows of a block, read once, decide what the definition says of its bytes. Assumes nothing.
use mathlib.Core.Path.{◌≡◌, refl, sym, ◌∙◌}
use mathlib.Core.Bool.{Bool, true, false, cond}
use mathlib.Core.List.{List}
use mathlib.Core.Logic.{⊎_elim}
use Prim.Native.Nat.{ℕ, ◌+◌, ◌-◌, ◌*◌, ◌^◌, ◌≤◌, ◌<◌}
use native.Mathlib.Omega.{arith}
use lib.Dec.{eqb, ltb}
use lib.ListN.{length, get_or}
use lib.Pow.{pow_pos}
use borrow.Author.Tests.{ltb-false, le-ltb, eqb-true, eq-eqb}
use Rattle.bounded.proofs.Truth.{lt_dec}
use Rattle.bounded.proofs.Loops.{all_intro, all_each, any_intro, any_each}
use Rattle.buffers.specs.Bytes.{number_at}
use Rattle.sheet.specs.Sheet.{layout, size_at, row_width, row_bytes, in_order, beyond, allows_all, block_of, next_block}
use Rattle.std.specs.Prelude.{Err}
use Rattle.sheet.specs.declared.SheetRefusal.{SheetRefusal}
use Rattle.sheet.specs.declared.SheetRefusal.TheVariants.{RowBeyond, BarsNothing}
use Rattle.sheet.proofs.Laws.{good_rows, none_beyond, all_full_lem, full_rows, block_beyond, block-bars-nothing, block_next}
use Rattle.table.specs.Parts.{Wrote}
use Rattle.read_sheet.specs.Reading.{Clear, RowsRead, BlockRows, some_beyond, all_full, rows_tell}
use Rattle.read_sheet.proofs.Stores.{first_there, first_rest}

-- rows stored in a clear list
pub rows_stored : (s : List ℕ) (w k p : ℕ) (x y : List ℕ) → Clear x → Wrote k x y 0 (λ a. number_at s w (p + a * w)) → RowsRead s w k p y
rows_stored s w k p x y c d = record { long = d.long ∙ c.long; row = first_there k x y _ d; rest = λ a l. first_rest k x y _ d a l ∙ c.each a }

same_false : (a b : Bool) → (a ≡ false → b ≡ false) → (b ≡ false → a ≡ false) → a ≡ b
same_false true true f g = refl
same_false true false f g = g refl
same_false false true f g = sym (f refl)
same_false false false f g = refl

same_true : (a b : Bool) → (a ≡ true → b ≡ true) → (b ≡ true → a ≡ true) → a ≡ b
same_true true true f g = refl
same_true true false f g = sym (f refl)
same_true false true f g = g refl
same_true false false f g = refl

module _ (s : List ℕ) (w z k p : ℕ) (x : List ℕ) (few : k ≤ 16) (r : RowsRead s w k p x) where
  pub beyond_read : some_beyond x (2 ^ z - 1) ≡ beyond layout s w z k p
  unfolding some_beyond
  beyond_read =
      let pos = pow_pos z in
      same_false _ _
      (λ e. none_beyond layout s w z k p
      (λ a l. let h = ltb-false (2 ^ z - 1) (get_or x a 0) (any_each (λ a. ltb (2 ^ z - 1) (get_or x a 0)) 16 e a (omega arith)) in let q = r.row a l in omega arith))
      (λ e. any_intro (λ a. ltb (2 ^ z - 1) (get_or x a 0)) 16
      (λ a l. le-ltb (2 ^ z - 1) (get_or x a 0)
      (⊎_elim
      (λ (m : a < k). let h = good_rows layout s w z k p e a m in let q = r.row a m in omega arith)
      (λ (m : k ≤ a). let q = r.rest a m in omega arith)
      (lt_dec a k))))

  pub full_read : all_full x (2 ^ z - 1) k ≡ allows_all layout s w z k p
  unfolding all_full
  full_read =
      let pos = pow_pos z in
      same_true _ _
      (λ e. all_full_lem layout s w z k p
      (λ a l. let h = eqb-true (get_or x a 0) (2 ^ z - 1) (all_each (λ a. eqb (get_or x a 0) (2 ^ z - 1)) k e a l) in let q = r.row a l in omega arith))
      (λ e. all_intro (λ a. eqb (get_or x a 0) (2 ^ z - 1)) k
      (λ a l. eq-eqb (get_or x a 0) (2 ^ z - 1) (let h = full_rows layout s w z k p e a l in let q = r.row a l in omega arith)))

-- the rows tell the rest of a block in order whose rows are whole
module _ (s : List ℕ) (least p i j : ℕ) (x : List ℕ) where
  pub block_tells : in_order layout s least i j ≡ true → p + 2 + row_bytes layout s i j ≤ length s → size_at s i ≤ 16 → RowsRead s (row_width layout s j) (size_at s i) (p + 2) x
      → rows_tell x (2 ^ size_at s j - 1) (size_at s i) (32 * i + j + 1) (p + 2 + row_bytes layout s i j) ≡ block_of layout s least p i j
  unfolding rows_tell
  block_tells o h few r =
      let w = row_width layout s j in
      let z = size_at s j in
      let k = size_at s i in
      rw (beyond_read s w z k (p + 2) x few r, full_read s w z k (p + 2) x few r)
      (go (beyond layout s w z k (p + 2)) refl (allows_all layout s w z k (p + 2)) refl)
    where
      go : (b : Bool) → beyond layout s (row_width layout s j) (size_at s j) (size_at s i) (p + 2) ≡ b → (c : Bool) → allows_all layout s (row_width layout s j) (size_at s j) (size_at s i) (p + 2) ≡ c
          → cond b (Err RowBeyond) (cond c (Err BarsNothing) (next_block (32 * i + j + 1) (p + 2 + row_bytes layout s i j))) ≡ block_of layout s least p i j
      go true e c f = sym (block_beyond layout s least p i j o h e)
      go false e true f = sym (block-bars-nothing layout s least p i j o h e f)
      go false e false f = sym (block_next layout s least p i j o h e f)

-- a faulty block has no rows to hand on
pub no_rows : (s : List ℕ) (i j p : ℕ) (x : List ℕ) (f : SheetRefusal) → BlockRows s i j p x (Err f)
no_rows s i j p x f = record { rows = λ l q e. let z : ◌≡◌ {A = ℕ} 0 1 = cc in absurd (omega arith) }
