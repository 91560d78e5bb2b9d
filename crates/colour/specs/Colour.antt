-- docs/FORMAT.md, "Channels from a colouring graph", as a job: lent a colouring file, a channel count and a buffer for the sheet.
use Rattle.std.specs.Prelude.{Bool, not, cond, ◌||◌, List, ℕ, eqb, ltb, length, Result, Ok, Err}
use Rattle.problem.specs.Problem.{Problem}
use Rattle.sheet.specs.Sheet.{layout}
use Rattle.buffers.specs.Written.{fronted}
use Rattle.graph.specs.Graph.{file_lines, bad_file, any_line, count_lines, is_loop, is_edge, stated_vertices, stated_edges}
use Rattle.graph.specs.Colouring.{adjacent, colouring}
use Rattle.compose.specs.Compose.{sheet_bytes}
use Rattle.colour.specs.declared.ColourRefusal.{ColourRefusal}
use Rattle.colour.specs.declared.ColourRefusal.TheVariants.{File, Loop, Count, Range, Buffer}

-- the job's answer: the bytes written, or the refusal
abbrev pub Coloured : Type 0
Coloured = Result ℕ ColourRefusal

-- ---- the format's number for each refusal, in the order of its table; and of an answer, 0 where there is no refusal

abbrev pub colour_number : ColourRefusal → ℕ
colour_number File = 21
colour_number Loop = 22
colour_number Count = 23
colour_number Range = 24
colour_number Buffer = 25

abbrev pub coloured_number : Coloured → ℕ
coloured_number (Ok w) = 0
coloured_number (Err r) = colour_number r

-- ---- the tests after 21, over the whole file

-- 22: "when both ends are one vertex"
abbrev pub has_loop : List ℕ → Bool
has_loop f = any_line is_loop (file_lines f)

-- 23: "when the `e` lines differ from the stated number"
abbrev pub miscounted : List ℕ → Bool
miscounted f = not (eqb (count_lines is_edge (file_lines f)) (stated_edges (file_lines f)))

-- 24: "when vertices are not 1 to 32 or channels not 1 to 16"
abbrev pub out_of_range : (v k : ℕ) → Bool
out_of_range v k = (ltb v 1 || ltb 32 v) || (ltb k 1 || ltb 16 k)

-- ---- the sheet

-- the vertices that the file states, and its colouring problem with k channels
abbrev pub vertices_of : List ℕ → ℕ
vertices_of f = stated_vertices (file_lines f)

abbrev pub graph_problem : List ℕ → ℕ → Problem
graph_problem f k = colouring (vertices_of f) k (adjacent (file_lines f))

-- "The sheet is of version 1."
unfoldable pub graph_sheet : List ℕ → ℕ → List ℕ
graph_sheet f k = sheet_bytes layout 1 (graph_problem f k)

-- ---- the job

-- what the job answers and leaves in the buffer
pub record ColourResult : Type 0 where
  pub answer : Coloured
  pub buffer : List ℕ

-- a refusal leaves the buffer as it was
abbrev pub colour_refused : ColourRefusal → List ℕ → ColourResult
colour_refused r b = record { answer = Err r; buffer = b }

-- "The buffer holds the sheet at its front and its old bytes after. The job answers the bytes written."
abbrev pub colour_done : (s b : List ℕ) → ColourResult
colour_done s b = record { answer = Ok (length s); buffer = fronted s b }

-- the file f, k channels and the buffer b: 21 to 25 "in that order, over the whole file"; 25 is "when the sheet buffer is too short"
unfoldable pub colour_job : (f : List ℕ) (k : ℕ) (b : List ℕ) → ColourResult
colour_job f k b =
    cond (bad_file f) (colour_refused File b)
    (cond (has_loop f) (colour_refused Loop b)
    (cond (miscounted f) (colour_refused Count b)
    (cond (out_of_range (vertices_of f) k) (colour_refused Range b)
    (cond (ltb (length b) (length (graph_sheet f k))) (colour_refused Buffer b)
    (colour_done (graph_sheet f k) b)))))
