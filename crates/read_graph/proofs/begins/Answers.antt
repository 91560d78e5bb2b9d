-- `read_graph::begins`: what the library says of the file from p on. Assumes nothing.
use mathlib.Core.Path.{◌≡◌, ap, ◌∙◌}
use mathlib.Core.List.{List}
use Prim.Native.Nat.{ℕ, ◌-◌}
use native.Mathlib.Omega.{arith}
use lib.ListN.{length, drop, take, length-drop}
use lib.Seq.{take-length}
use Rattle.graph.specs.Graph.{begins}
use Rattle.read_graph.proofs.Laws.{begins_starts}
use Rattle.read_graph.proofs.begins.Goals as goal

pub returns : goal.returns
returns c =
    let r : List ℕ = drop c.args.p c.args.f.now in
    let n : length c.args.f.now - c.args.p ≡ length r = omega (arith, length-drop c.args.p c.args.f.now) in
    c.starts_with.ensures.value ∙ begins_starts c.args.w.now _ ∙ ap (begins c.args.w.now) (ap (λ (k : ℕ). take k r) n ∙ take-length r)
