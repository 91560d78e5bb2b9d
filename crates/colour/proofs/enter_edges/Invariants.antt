use Prim.Native.Nat.{◌*◌, ◌≤◌}
use Rattle.graph.specs.Scan.{is_marked}
use Rattle.table.specs.Filling.{EnteredTo}
use Rattle.colour.proofs.enter_edges.Given as goal

abbrev pub invariant-loop-x : goal.invariant-loop-x
invariant-loop-x l = (l.x ≤ 32 * l.g.vertices) × EnteredTo (is_marked l.g.near.now) (λ i j. l.rows) l.g.vertices l.x l.initial.t l.t
