-- `table::put_rows`: the entries so far are stored. Assumes nothing.
use mathlib.Core.Path.{◌≡◌, refl}
use Prim.Native.Nat.{ℕ, ◌+◌, ◌≤◌, ◌<◌}
use native.Mathlib.Omega.{arith}
use Rattle.table.proofs.Stores.{wrote_none, wrote_more}
use Rattle.table.proofs.put_rows.Goals as goal

-- the place is within the table
inside : (at m n a : ℕ) → at + 16 ≤ m → n ≡ m → a < 16 → at + a < n
inside at m n a p e l = omega arith

pub bounds-t-at : goal.bounds-t-at
bounds-t-at c =
    let l = c.loop-a in
    inside _ _ _ _ c.requires l.invariant.1.long c.loop-a-test.true

pub loop-a-init : goal.loop-a-init
loop-a-init c = (omega arith, wrote_none _ _ _)

pub loop-a-preserved : goal.loop-a-preserved
loop-a-preserved c = let l = c.loop-a in (omega arith, wrote_more _ _ _ _ _ _ (inside _ _ _ _ c.requires refl c.loop-a-test.true) refl l.invariant.1)

pub shape_of-t : goal.shape_of-t
shape_of-t c = c.loop-a.invariant.1.long

pub returns : goal.returns
returns c = let l = c.loop-a in let e : l.a ≡ 16 = omega arith in rw e at l.invariant.1
