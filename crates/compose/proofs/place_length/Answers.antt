-- `compose::place_length`: a block is two bytes and its rows. Assumes nothing.
use mathlib.Core.Path.{◌≡◌, sym, ap, ◌∙◌}
use Prim.Native.Nat.{ℕ, ◌+◌, ◌*◌, ◌/◌, ◌%◌, ◌≤◌}
use native.Mathlib.Omega.{arith}
use lib.ListN.{length}
use Rattle.problem.specs.Held.{held}
use Rattle.problem.proofs.HeldTable.{held_few, held_narrow}
use Rattle.sheet.specs.Sheet.{layout}
use Rattle.sheet.proofs.Laws.{rows_small}
use Rattle.compose.specs.Compose.{has_block}
use Rattle.compose.proofs.Lengths.{length_block}
use Rattle.compose.proofs.Writing.{place_hit, place_miss, marked_not, marked_true}
use Rattle.compose.proofs.place_length.Goals as goal
use Rattle.compose.proofs.place_length.Goals.{After-row_width}

pub bounds-d-x : goal.bounds-d-x
bounds-d-x c = let few = held_few c.args.d.now.t.now in let l = c.args.d.now.marked.long in omega arith

pub returns-then-d-x-eq0 : goal.returns-then-d-x-eq0
returns-then-d-x-eq0 c =
    let a = c.args in
    let p = c.requires in
    let P = held a.d.now.t.now in
    sym (ap length (place_miss layout a.d.now.v P a.x (marked_not (has_block P a.x) (sym (a.d.now.marked.says a.x p) ∙ c.if-d-x-eq0.true))))

-- the rows are few
few_rows : (c : After-row_width) → c.size.result * c.row_width.result ≤ 32
few_rows c =
    let a = c.args in
    let e = c.size.ensures in
    let l = held_narrow c.args.d.now.marked.table (a.x / 32) in
    rows_small c.size.result c.row_width.result (omega arith) c.row_width.ensures.few

pub overflow_mul-result : goal.overflow_mul-result
overflow_mul-result c = let l = few_rows (goal.at.overflow_mul-result c).After-row_width in omega arith

pub overflow_add-result : goal.overflow_add-result
overflow_add-result c = let l = few_rows (goal.at.overflow_add-result c).After-row_width in omega arith

pub returns : goal.returns
returns c =
    let a = c.args in
    let p = c.requires in
    let P = held a.d.now.t.now in
    let W = layout.width a.d.now.v (P.size (a.x % 32)) in
    let e : c.size.result * c.row_width.result ≡ P.size (a.x / 32) * W =
    ap (λ (y : ℕ). y * c.row_width.result) c.size.ensures ∙ ap (λ (y : ℕ). P.size (a.x / 32) * y) (c.row_width.ensures.is ∙ ap (layout.width a.d.now.v) c.size-2.ensures) in
    ap (λ (y : ℕ). 2 + y) e
    ∙ sym (ap length (place_hit layout a.d.now.v P a.x (marked_true (has_block P a.x) (λ q. c.if-d-x-eq0.false (a.d.now.marked.says a.x p ∙ q)))) ∙ length_block layout a.d.now.v P (a.x / 32) (a.x % 32))
