-- `read_sheet::block_of`: the cases of a block in the order of its tests. Assumes nothing.
use mathlib.Core.Path.{◌≡◌, sym, ◌∙◌}
use mathlib.Core.Bool.{true}
use Prim.Native.Nat.{◌+◌, ◌*◌, ◌≤◌, ◌<◌}
use native.Mathlib.Omega.{arith}
use lib.ListN.{length}
use borrow.Author.Rules.{rules}
use Rattle.sheet.specs.Sheet.{layout, variables_of, size_at, row_width, row_bytes, in_order}
use Rattle.sheet.proofs.Laws.{rows_small, in_order_lem, block_order, block_cut}
use Rattle.read_sheet.specs.Reading.{RowsRead}
use Rattle.read_sheet.proofs.Rows.{rows_stored, block_tells, no_rows}
use Rattle.read_sheet.proofs.block_of.Goals as goal
use Rattle.read_sheet.proofs.block_of.Goals.{After-byte-k, Else-not-in_order, Else-s-at}

-- what each test that was passed says
ordered : (c : Else-not-in_order) → let a = c.args in in_order layout a.s.now a.least a.i a.j ≡ true
ordered c = sym c.in_order.ensures ∙ c.if-not-in_order.false

pair : (c : Else-not-in_order) → let a = c.args in (a.i < variables_of a.s.now) × (a.j < variables_of a.s.now)
pair c =
    let a = c.args in
    let o = in_order_lem layout a.s.now a.least a.i a.j (ordered c) in
    (omega (arith, o.0, o.1.0), o.1.0)

-- the sizes, and the bytes of the rows
sizes : (c : After-byte-k) → let a = c.args in (a.i < variables_of a.s.now) × (a.j < variables_of a.s.now) → (c.byte-z.result ≤ 16) × (c.byte-k.result ≤ 16)
sizes c p =
    let a = c.args in
    let f = c.requires.0.sizes in
    let x = (f a.j p.1).1 in
    let y = (f a.i p.0).1 in
    (omega (arith, c.byte-z.ensures.is), omega (arith, c.byte-k.ensures.is))

bytes : (c : After-byte-k) → let a = c.args in c.byte-k.result * c.width_of-w.result ≡ row_bytes layout a.s.now a.i a.j
bytes c = rw (c.byte-k.ensures.is, c.width_of-w.ensures.is)

small : (c : After-byte-k) → c.byte-k.result ≤ 16 → c.byte-k.result * c.width_of-w.result ≤ 32
small c h = rows_small c.byte-k.result c.width_of-w.result h c.width_of-w.ensures.few

whole : (c : Else-s-at) → let a = c.args in c.byte-k.result * c.width_of-w.result ≡ row_bytes layout a.s.now a.i a.j → a.p + 2 + row_bytes layout a.s.now a.i a.j ≤ length a.s.now
whole c b = omega (arith, b, c.if-s-at.false, c.requires.1)

pub returns-then-not-in_order : goal.returns-then-not-in_order
returns-then-not-in_order c = record { answer = sym (block_order _ _ _ _ _ _ (sym c.in_order.ensures ∙ c.if-not-in_order.true)); rows = no_rows _ _ _ _ _ _ }

pub width_of-w-requires : goal.width_of-w-requires
width_of-w-requires c = (c.requires.0, (pair (goal.at.width_of-w-requires c).Else-not-in_order).1)

pub overflow_add-j : goal.overflow_add-j
overflow_add-j c = let h = pair (goal.at.overflow_add-j c).Else-not-in_order in let f = c.requires.0.room in search rules

pub byte-z-requires : goal.byte-z-requires
byte-z-requires c = omega (arith, (pair (goal.at.byte-z-requires c).Else-not-in_order).1, c.requires.0.room)

pub overflow_add-i : goal.overflow_add-i
overflow_add-i c = let h = pair (goal.at.overflow_add-i c).Else-not-in_order in let f = c.requires.0.room in search rules

pub byte-k-requires : goal.byte-k-requires
byte-k-requires c = omega (arith, (pair (goal.at.byte-k-requires c).Else-not-in_order).0, c.requires.0.room)

pub overflow_mul-k : goal.overflow_mul-k
overflow_mul-k c = let m = small (goal.at.overflow_mul-k c).After-byte-k (sizes (goal.at.overflow_mul-k c).After-byte-k (pair (goal.at.overflow_mul-k c).Else-not-in_order)).1 in search rules

pub returns-then-s-at : goal.returns-then-s-at
returns-then-s-at c = record { answer = sym (block_cut _ _ _ _ _ _ (ordered (goal.at.returns-then-s-at c).Else-not-in_order) (omega (arith, bytes (goal.at.returns-then-s-at c).After-byte-k, c.if-s-at.true))); rows = no_rows _ _ _ _ _ _ }

pub read_rows-requires : goal.read_rows-requires
read_rows-requires c =
    let w = c.width_of-w.ensures in
    let h = whole (goal.at.read_rows-requires c).Else-s-at (bytes (goal.at.read_rows-requires c).After-byte-k) in
    let b = bytes (goal.at.read_rows-requires c).After-byte-k in
    (record { some = w.some; wide = w.few; few = (sizes (goal.at.read_rows-requires c).After-byte-k (pair (goal.at.read_rows-requires c).Else-not-in_order)).1; within = omega (arith, h, b) }, c.requires.2.long)

pub overflow_mul-i : goal.overflow_mul-i
overflow_mul-i c = let h = pair (goal.at.overflow_mul-i c).Else-not-in_order in let f = c.requires.0.few in search rules

pub overflow_add-i-2 : goal.overflow_add-i-2
overflow_add-i-2 c = let h = pair (goal.at.overflow_add-i-2 c).Else-not-in_order in let f = c.requires.0.few in search rules

pub overflow_add-i-3 : goal.overflow_add-i-3
overflow_add-i-3 c = let h = pair (goal.at.overflow_add-i-3 c).Else-not-in_order in let f = c.requires.0.few in search rules

pub rows_tell-requires : goal.rows_tell-requires
rows_tell-requires c = sizes (goal.at.rows_tell-requires c).After-byte-k (pair (goal.at.rows_tell-requires c).Else-not-in_order)

pub returns : goal.returns
returns c =
    let a = c.args in
    let s = a.s.now in
    let x = c.read_rows.new.x in
    let k = c.byte-k.ensures.is in
    let z = c.byte-z.ensures.is in
    let w = c.width_of-w.ensures.is in
    let few = (sizes (goal.at.returns c).After-byte-k (pair (goal.at.returns c).Else-not-in_order)).1 in
    let r : RowsRead s (row_width layout s a.j) (size_at s a.i) (a.p + 2) x = rw (k, w) at (rows_stored s c.width_of-w.result c.byte-k.result (a.p + 2) _ x c.requires.2 c.read_rows.ensures) in record {
      answer = c.rows_tell.ensures
          ∙ rw (k, z, w) (block_tells s a.least a.p a.i a.j x (ordered (goal.at.returns c).Else-not-in_order) (whole (goal.at.returns c).Else-s-at (bytes (goal.at.returns c).After-byte-k)) (omega arith) r);
      rows = record { rows = λ l q f. r };
    }
