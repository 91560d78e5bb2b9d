-- What the parts of the writer say to one another.
use Rattle.std.specs.Prelude.{◌≡◌, true, List, ◌∷◌, ◌++◌, ℕ, ◌+◌, ◌*◌, ◌<◌, ◌≤◌, length}
use Rattle.bounded.specs.Quantifiers.{one_if}
use Rattle.problem.specs.Problem.{Problem}
use Rattle.problem.specs.Held.{held, RowTable}
use Rattle.buffers.specs.Bytes.{byte_at, number_bytes}
use Rattle.sheet.specs.Sheet.{layout}
use Rattle.buffers.specs.Written.{written}
use Rattle.compose.specs.Compose.{has_block}

-- a version that is taken
pub record Version (v : ℕ) : Type 0 where
  pub taken : layout.takes v ≡ true

-- two items of the table, in order
pub record Pair (t : List ℕ) (i j : ℕ) : Type 0 where
  pub table : RowTable t
  pub rises : i < j
  pub ends : j < (held t).n

-- 1 where the pair at place x has a block, else 0
abbrev pub mark_of : Problem → ℕ → ℕ
mark_of P x = one_if (has_block P x)

-- the marks of the places that can have a block: those of the items below n
pub record BlockMarked (t marks : List ℕ) : Type 0 where
  pub table : RowTable t
  pub long : length marks ≡ 1024
  pub says : (x : ℕ) → x < 32 * (held t).n → byte_at marks x ≡ mark_of (held t) x

-- the list w was written at p of b, which is b' now, and r is the place after it
pub record BytesWrote (b : List ℕ) (p : ℕ) (w b' : List ℕ) (r : ℕ) : Type 0 where
  pub is : b' ≡ written b p w
  pub next : r ≡ p + length w

-- of a list w that is to be written at p of b, the list left is still to be written at q of b'
pub record Underway (b : List ℕ) (p : ℕ) (w b' : List ℕ) (q : ℕ) (left : List ℕ) : Type 0 where
  pub rest : written b' q left ≡ written b p w
  pub place : q + length left ≡ p + length w
  pub room : q + length left ≤ length b'
  pub same : length b' ≡ length b

-- the first eight bytes
abbrev pub front_bytes : (v len n m : ℕ) → List ℕ
front_bytes v len n m = v ∷ (number_bytes 4 len ++ n ∷ number_bytes 2 m)
