-- What the parts of the job say to one another: the table of a colouring problem, filled edge by edge.
use Rattle.std.specs.Prelude.{◌≡◌, not, cond, List, ℕ, ◌-◌, ◌^◌, ◌≤◌, eqb, ltb, length}
use Rattle.bounded.specs.Mask.{without}
use Rattle.bounded.specs.Table.{tab}
use Rattle.problem.specs.Problem.{Problem}
use Rattle.graph.specs.Colouring.{colouring}
use Rattle.graph.specs.Scan.{is_marked}
use Rattle.graph.specs.declared.GraphRead.{GraphRead}
use Rattle.sheet.specs.Sheet.{layout}
use Rattle.compose.specs.Compose.{sheet_bytes}
use Rattle.colour.specs.Colour.{ColourResult, colour_refused, colour_done, out_of_range}
use Rattle.colour.specs.declared.ColourRefusal.TheVariants.{Loop, Count, Range, Buffer}

-- the problem that marks say: n vertices and k channels
abbrev pub marked_problem : List ℕ → (n k : ℕ) → Problem
marked_problem near n k = colouring n k (is_marked near)

-- numbers that are not too large, and marks of pairs
pub record Ranged (near : List ℕ) (n k : ℕ) : Type 0 where
  pub marks : length near ≡ 1024
  pub vertices : n ≤ 32
  pub channels : k ≤ 16

-- the size of vertex i
abbrev pub entry_size : (n k i : ℕ) → ℕ
entry_size n k i = cond (ltb i n) k 0

-- the block of an edge: the row of channel a has all k channels but a
unfoldable pub edge_rows : ℕ → List ℕ
edge_rows k = tab 16 (λ a. without 16 (2 ^ k - 1) a)

-- the sheet of a problem over the buffer b: 25, or written
unfoldable pub write_job : Problem → List ℕ → ColourResult
write_job P b = cond (ltb (length b) (length (sheet_bytes layout 1 P))) (colour_refused Buffer b) (colour_done (sheet_bytes layout 1 P) b)

-- the job once the file is read, of which r was found
unfoldable pub graph_job : (near : List ℕ) (r : GraphRead) (k : ℕ) (b : List ℕ) → ColourResult
graph_job near r k b =
    cond r.loops (colour_refused Loop b)
    (cond (not (eqb r.lines r.edges)) (colour_refused Count b)
    (cond (out_of_range r.vertices k) (colour_refused Range b)
    (write_job (marked_problem near r.vertices k) b)))
