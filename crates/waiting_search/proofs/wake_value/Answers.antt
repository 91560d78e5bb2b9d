-- `waiting_search::wake_value`: the triangles first, which leave what waits as it is. Assumes nothing.
use mathlib.Core.Path.{subst}
use mathlib.Core.List.{List}
use Prim.Native.Nat.{ℕ}
use Rattle.waiting.specs.Waiting.{Woken}
use Rattle.waiting_search.proofs.wake_value.Goals as goal

pub returns : goal.returns
returns c =
    let t = c.wake_triangles.ensures in
    record { middle = _; triangles = t.wakes; woken = subst (λ (w : List ℕ). Woken c.args.i c.wake_triangles.new.self.pending w c.wake.new.self.pending c.wake.new.self.waiting) t.same c.wake.ensures }
