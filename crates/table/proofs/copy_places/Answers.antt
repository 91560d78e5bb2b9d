-- `table::copy_places`: the entries so far are stored. Assumes nothing.
use mathlib.Core.Path.{◌≡◌, refl}
use Prim.Native.Nat.{ℕ, ◌+◌, ◌<◌}
use native.Mathlib.Omega.{arith}
use Rattle.problem.specs.Held.{table_length}
use Rattle.table.proofs.Stores.{wrote_none, wrote_more, wrote_places}
use Rattle.table.proofs.copy_places.Goals as goal

-- the entry is within the table
inside : (m n k : ℕ) → m ≡ table_length → n ≡ m → k < 1024 → 32 + k < n
inside m n k p e l = omega arith

pub bounds-t-k : goal.bounds-t-k
bounds-t-k c =
    let l = c.loop-k in
    inside _ _ _ c.requires.0 l.invariant.1.long c.loop-k-test.true

pub loop-k-init : goal.loop-k-init
loop-k-init c = (omega arith, wrote_none _ _ _)

pub loop-k-preserved : goal.loop-k-preserved
loop-k-preserved c = let l = c.loop-k in (omega arith, wrote_more _ _ _ _ _ _ (inside _ _ _ c.requires.0 refl c.loop-k-test.true) refl l.invariant.1)

pub shape_of-t : goal.shape_of-t
shape_of-t c = c.loop-k.invariant.1.long

pub returns : goal.returns
returns c = let l = c.loop-k in let p = c.requires in let e : l.k ≡ 1024 = omega arith in wrote_places _ _ _ p.0 p.1 (rw e at l.invariant.1)
