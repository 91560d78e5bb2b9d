-- A colouring file read from its front: a line and what follows it, the digits at a place, and line after line. The code goes by these;
-- proofs/ shows that they come to what Graph.antt says of the whole file.
use Rattle.std.specs.Prelude.{Bool, true, false, not, cond, ◌||◌, List, [], ◌∷◌, Option, None, Some, Result, Ok, Err, ok_or, ℕ, zero, suc, ◌+◌, ◌*◌, eqb, get_or}
use Rattle.graph.specs.Graph.{is_digit, is_outside, turned_away}
use Rattle.graph.specs.declared.Line.{Line}
use Rattle.graph.specs.declared.Line.TheVariants.{Comment, Size, Edge, Bad}
use Rattle.graph.specs.declared.GraphRead.{GraphRead}
use Rattle.graph.specs.declared.TurnedAway.{TurnedAway}

-- ---- bytes

-- the first line of what is left of a file, without its newline; and what stands after it
unfoldable pub line_in : List ℕ → List ℕ
line_in [] = []
line_in (x ∷ r) = elim (eqb x 10) [ true ↦ [] | false ↦ x ∷ line_in r ]

unfoldable pub after_line : List ℕ → List ℕ
after_line [] = []
after_line (x ∷ r) = elim (eqb x 10) [ true ↦ r | false ↦ after_line r ]

-- the digits at the front, at most m of them
unfoldable pub digits_in : ℕ → List ℕ → List ℕ
digits_in zero r = []
digits_in (suc m) [] = []
digits_in (suc m) (x ∷ r) = elim (is_digit x) [ true ↦ x ∷ digits_in m r | false ↦ [] ]

-- ---- lines

-- after an `e` line
abbrev pub with_edge : GraphRead → (a b : ℕ) → GraphRead
with_edge r a b = record { vertices = r.vertices; edges = r.edges; lines = r.lines + 1; loops = r.loops || eqb a b }

-- an `e` line is within what the `p` line states
abbrev pub in_place : GraphRead → (a b : ℕ) → Bool
in_place r a b = not (is_outside r.vertices a || is_outside r.vertices b)

-- after one more line: what was found before it, none where no `p` line was passed. The `p` line is the first of its kind, and an `e` line stands
-- after it and in its place.
unfoldable pub stepped : Option GraphRead → Line → Result (Option GraphRead) TurnedAway
stepped g Comment = Ok g
stepped g (Size v e) = elim g [ None ↦ Ok (Some (record { vertices = v; edges = e; lines = 0; loops = false })) | Some r ↦ Err turned_away ]
stepped g (Edge a b) = elim g [ None ↦ Err turned_away | Some r ↦ cond (in_place r a b) (Ok (Some (with_edge r a b))) (Err turned_away) ]
stepped g Bad = Err turned_away

-- what reading finds that has come to g and still has the lines m to read
unfoldable pub read_from : Option GraphRead → List Line → Result GraphRead TurnedAway
read_from g [] = ok_or g turned_away
read_from g (l ∷ m) = elim (stepped g l) [ Ok h ↦ read_from h m | Err e ↦ Err e ]

-- ---- marks

-- a list of 1,024 marks: items i and j are marked
abbrev pub is_marked : List ℕ → (i j : ℕ) → Bool
is_marked n i j = eqb (get_or n (32 * i + j) 0) 1
