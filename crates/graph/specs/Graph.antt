-- docs/FORMAT.md, "Channels from a colouring graph": the file, line by line, and what turns it away.
use Rattle.std.specs.Prelude.{Bool, true, false, not, cond, ◌&&◌, ◌||◌, List, [], ◌∷◌, map, Result, Ok, Err, ℕ, ◌+◌, ◌-◌, ◌*◌, eqb, ltb, leb, length, drop, get_or}
use Rattle.bounded.specs.Quantifiers.{one_if}
use Rattle.graph.specs.declared.Line.{Line}
use Rattle.graph.specs.declared.Line.TheVariants.{Comment, Size, Edge, Bad}
use Rattle.graph.specs.declared.GraphRead.{GraphRead}
use Rattle.graph.specs.declared.TurnedAway.{TurnedAway}

-- ---- lines and fields

-- x before the first of some pieces; where there is none, a piece of its own
abbrev pub before : ℕ → List (List ℕ) → List (List ℕ)
before x [] = (x ∷ []) ∷ []
before x (l ∷ m) = (x ∷ l) ∷ m

-- the lines of a file: "each line ends in a newline, which the last may lack"
unfoldable pub lines_of : List ℕ → List (List ℕ)
lines_of [] = []
lines_of (x ∷ f) = elim (eqb x 10) [ true ↦ [] ∷ lines_of f | false ↦ before x (lines_of f) ]

-- the fields of a text: "Fields stand one space apart". So two spaces have an empty field between them, and a space at the end one after it.
unfoldable pub line_fields : List ℕ → List (List ℕ)
line_fields [] = [] ∷ []
line_fields (x ∷ l) = elim (eqb x 32) [ true ↦ [] ∷ line_fields l | false ↦ before x (line_fields l) ]

-- ---- numbers

-- "0" to "9"
abbrev pub is_digit : ℕ → Bool
is_digit x = leb 48 x && leb x 57

-- nothing but digits
unfoldable pub all_digits : List ℕ → Bool
all_digits [] = true
all_digits (x ∷ l) = is_digit x && all_digits l

-- "numbers have one to nine digits"
unfoldable pub is_number : List ℕ → Bool
is_number l = all_digits l && (leb 1 (length l) && leb (length l) 9)

-- the number that digits say after the number x
unfoldable pub decimal_from : ℕ → List ℕ → ℕ
decimal_from x [] = x
decimal_from x (d ∷ l) = decimal_from (x * 10 + (d - 48)) l

abbrev pub decimal_of : List ℕ → ℕ
decimal_of l = decimal_from 0 l

-- ---- the three forms of a line

-- the text begins with the word
unfoldable pub begins : List ℕ → List ℕ → Bool
begins [] l = true
begins (x ∷ w) [] = false
begins (x ∷ w) (y ∷ l) = eqb x y && begins w l

-- "c", "p edge " and "e "
abbrev pub comment_word : List ℕ
comment_word = 99 ∷ []

abbrev pub size_word : List ℕ
size_word = 112 ∷ 32 ∷ 101 ∷ 100 ∷ 103 ∷ 101 ∷ 32 ∷ []

abbrev pub edge_word : List ℕ
edge_word = 101 ∷ 32 ∷ []

-- a line of two numbers, made by `form`; any other fields are a bad line
unfoldable pub two_numbers : (form : ℕ → ℕ → Line) → List (List ℕ) → Line
two_numbers form [] = Bad
two_numbers form (a ∷ []) = Bad
two_numbers form (a ∷ b ∷ []) = cond (is_number a && is_number b) (form (decimal_of a) (decimal_of b)) Bad
two_numbers form (a ∷ b ∷ c ∷ l) = Bad

-- "any lines beginning with `c`, one `p edge` line with vertices and edges, and `e` lines with two vertices"
unfoldable pub line_of : List ℕ → Line
line_of l =
    elim (begins comment_word l) [
      | true ↦ Comment
      | false ↦ elim (begins size_word l) [
        | true ↦ two_numbers Size (line_fields (drop 7 l))
        | false ↦ elim (begins edge_word l) [ true ↦ two_numbers Edge (line_fields (drop 2 l)) | false ↦ Bad ]
      ]
    ]

-- the lines of a file, each by its form; and line k of it, counted from 0
unfoldable pub file_lines : List ℕ → List Line
file_lines f = map line_of (lines_of f)

abbrev pub line_at : List ℕ → ℕ → Line
line_at f k = get_or (file_lines f) k Bad

-- ---- tests over lines

-- some line passes the test; how many do
unfoldable pub any_line : (Line → Bool) → List Line → Bool
any_line t [] = false
any_line t (l ∷ m) = t l || any_line t m

unfoldable pub count_lines : (Line → Bool) → List Line → ℕ
count_lines t [] = 0
count_lines t (l ∷ m) = one_if (t l) + count_lines t m

-- the line is of none of the forms; the `p` line; an `e` line
abbrev pub is_bad : Line → Bool
is_bad Comment = false
is_bad (Size v e) = false
is_bad (Edge a b) = false
is_bad Bad = true

abbrev pub is_size : Line → Bool
is_size Comment = false
is_size (Size v e) = true
is_size (Edge a b) = false
is_size Bad = false

abbrev pub is_edge : Line → Bool
is_edge Comment = false
is_edge (Size v e) = false
is_edge (Edge a b) = true
is_edge Bad = false

-- what the first `p` line states; 0 where there is none
unfoldable pub stated_vertices : List Line → ℕ
stated_vertices [] = 0
stated_vertices (Comment ∷ m) = stated_vertices m
stated_vertices (Size v e ∷ m) = v
stated_vertices (Edge a b ∷ m) = stated_vertices m
stated_vertices (Bad ∷ m) = stated_vertices m

unfoldable pub stated_edges : List Line → ℕ
stated_edges [] = 0
stated_edges (Comment ∷ m) = stated_edges m
stated_edges (Size v e ∷ m) = e
stated_edges (Edge a b ∷ m) = stated_edges m
stated_edges (Bad ∷ m) = stated_edges m

-- an `e` line stands before every `p` line
unfoldable pub edge_first : List Line → Bool
edge_first [] = false
edge_first (Comment ∷ m) = edge_first m
edge_first (Size v e ∷ m) = false
edge_first (Edge a b ∷ m) = true
edge_first (Bad ∷ m) = edge_first m

-- "vertices counted from 1": one that is not 1 to v
abbrev pub is_outside : (v a : ℕ) → Bool
is_outside v a = ltb a 1 || ltb v a

-- an `e` line that names such a vertex
abbrev pub strays : ℕ → Line → Bool
strays v Comment = false
strays v (Size w e) = false
strays v (Edge a b) = is_outside v a || is_outside v b
strays v Bad = false

-- an `e` line "when both ends are one vertex"
abbrev pub is_loop : Line → Bool
is_loop Comment = false
is_loop (Size v e) = false
is_loop (Edge a b) = eqb a b
is_loop Bad = false

-- ---- the file

-- "64 KiB"
abbrev pub file_limit : ℕ
file_limit = 65536

-- 21, of the lines: "a line is of none of these forms (a blank one too), the `p` line is missing, repeated or after an `e` line, or a
-- vertex is outside the stated range"
unfoldable pub bad_lines : List Line → Bool
bad_lines m =
    any_line is_bad m
    || (not (eqb (count_lines is_size m) 1)
    || (edge_first m
    || any_line (strays (stated_vertices m)) m))

-- 21: "when the file is over 64 KiB", or of the lines
unfoldable pub bad_file : List ℕ → Bool
bad_file f = ltb file_limit (length f) || bad_lines (file_lines f)

-- what reading finds: what the tests after 21 look at
abbrev pub lines_read : List Line → GraphRead
lines_read m = record { vertices = stated_vertices m; edges = stated_edges m; lines = count_lines is_edge m; loops = any_line is_loop m }

-- the only value of its type
abbrev pub turned_away : TurnedAway
turned_away = record {}

unfoldable pub read_graph : List ℕ → Result GraphRead TurnedAway
read_graph f = elim (bad_file f) [ true ↦ Err turned_away | false ↦ Ok (lines_read (file_lines f)) ]
