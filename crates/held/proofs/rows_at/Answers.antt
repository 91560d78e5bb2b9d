-- `held::rows_at`: the place is the list's, and it is one of 496. Assumes nothing.
use mathlib.Core.Path.{◌≡◌}
use mathlib.Core.List.{List}
use mathlib.Core.Logic.{◌≢◌}
use Prim.Native.Nat.{ℕ, ◌<◌}
use native.Mathlib.Omega.{arith}
use lib.ListN.{get_or}
use Rattle.problem.specs.Places.{place_of}
use Rattle.problem.specs.Held.{place_at, Located}
use Rattle.problem.proofs.Places.{place_small}
use Rattle.held.proofs.rows_at.Goals as goal

-- the entry of the list, and how large it can be
entry : {t : List ℕ} {i j : ℕ} → Located t × (i < 32) × (j < 32) × (i ≢ j) → (get_or t (place_at i j) 0 ≡ place_of i j) × (place_of i j < 496)
entry {t} {i} {j} p = (p.0.places i j p.1 p.2, place_small i j p.1 p.2 p.3)

pub returns-then-i-j-clause-within : goal.returns-then-i-j-clause-within
returns-then-i-j-clause-within c = let e = entry c.requires in omega (arith, e.0, e.1)

pub returns-else-i-j-clause-within : goal.returns-else-i-j-clause-within
returns-else-i-j-clause-within c = let e = entry c.requires in omega (arith, e.0, e.1)
