-- `compose::put_place`: a block or nothing. Assumes nothing.
use mathlib.Core.Path.{◌≡◌, sym, ◌∙◌}
use mathlib.Core.Bool.{true}
use native.Mathlib.Omega.{arith}
use Rattle.problem.specs.Held.{held}
use Rattle.problem.proofs.HeldTable.{held_few}
use Rattle.sheet.specs.Sheet.{layout}
use Rattle.compose.specs.Compose.{has_block}
use Rattle.compose.proofs.Rows.{has_block_lem}
use Rattle.compose.proofs.Writing.{place_hit, place_miss, marked_not, marked_true, bytes_wrote_none}
use Rattle.compose.proofs.put_place.Goals as goal

pub bounds-d-x : goal.bounds-d-x
bounds-d-x c = let few = held_few c.args.d.now.t.now in let l = c.args.d.now.marked.long in omega arith

pub returns-then-d-x-eq0 : goal.returns-then-d-x-eq0
returns-then-d-x-eq0 c =
    let a = c.args in
    let p = c.requires in
    let P = held a.d.now.t.now in
    rw (place_miss layout a.d.now.v P a.x (marked_not (has_block P a.x) (sym (a.d.now.marked.says a.x p.0) ∙ c.if-d-x-eq0.true))) (bytes_wrote_none _ _)

pub put_block-requires : goal.put_block-requires
put_block-requires c =
    let a = c.args in
    let p = c.requires in
    let P = held a.d.now.t.now in
    let e : has_block P a.x ≡ true = marked_true (has_block P a.x) (λ q. c.if-d-x-eq0.false (a.d.now.marked.says a.x p.0 ∙ q)) in
    let b = has_block_lem P a.x e in
    (record { table = a.d.now.marked.table; rises = b.rises; ends = b.ends }, (a.d.now.version, rw (place_hit layout a.d.now.v P a.x e) at p.1))

pub returns : goal.returns
returns c =
    let a = c.args in
    let p = c.requires in
    let P = held a.d.now.t.now in
    let e : has_block P a.x ≡ true = marked_true (has_block P a.x) (λ q. c.if-d-x-eq0.false (a.d.now.marked.says a.x p.0 ∙ q)) in
    rw (place_hit layout a.d.now.v P a.x e) c.put_block.ensures
