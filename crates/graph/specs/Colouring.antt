-- The colouring problem of a graph: "vertex v is item v − 1, each edge's block bars equal settings only, and no other pair has a block".
use Rattle.std.specs.Prelude.{Bool, false, not, cond, ◌&&◌, ◌||◌, List, ℕ, ◌+◌, eqb, ltb}
use Rattle.problem.specs.Problem.{Problem, both_ways, both_ways_symmetric}
use Rattle.graph.specs.Graph.{any_line}
use Rattle.graph.specs.declared.Line.{Line}
use Rattle.graph.specs.declared.Line.TheVariants.{Comment, Size, Edge, Bad}

-- an `e` line whose vertices are those of the items i and j, either way round
abbrev pub joins : (i j : ℕ) → Line → Bool
joins i j Comment = false
joins i j (Size v e) = false
joins i j (Edge a b) = (eqb a (i + 1) && eqb b (j + 1)) || (eqb a (j + 1) && eqb b (i + 1))
joins i j Bad = false

-- the items i and j are joined by an edge of the lines
unfoldable pub adjacent : List Line → (i j : ℕ) → Bool
adjacent m i j = any_line (joins i j) m

module _ (v k : ℕ) (joined : ℕ → ℕ → Bool) where
  -- every vertex has k channels
  unfoldable pub channels_at : ℕ → ℕ
  channels_at i = cond (ltb i v) k 0

  -- channel a of i is one of the problem's
  unfoldable pub is_channel : (i a : ℕ) → Bool
  is_channel i a = ltb i v && ltb a k

  -- of two vertices in order: two channels may stand together unless they are equal and an edge joins the two
  unfoldable pub may_stand : (i a j b : ℕ) → Bool
  may_stand i a j b = is_channel i a && (is_channel j b && not (joined i j && eqb a b))

  -- the colouring problem of v vertices with k channels, joined by edges
  unfoldable pub colouring : Problem
  colouring = record { n = v; size = channels_at; allowed = both_ways may_stand; symmetric = both_ways_symmetric may_stand }
