-- What the parts of the reader of a colouring file say to one another.
use Rattle.std.specs.Prelude.{◌≡◌, Bool, false, ◌||◌, List, Option, None, Some, Result, Ok, Err, ◌⊎◌, ◌≢◌, ℕ, suc, ◌+◌, ◌≤◌, ◌<◌, eqb, length, drop, get_or}
use Rattle.graph.specs.Graph.{decimal_of, line_fields, two_numbers, line_of, file_limit, file_lines, read_graph}
use Rattle.graph.specs.Colouring.{joins, adjacent}
use Rattle.graph.specs.Scan.{line_in, digits_in, is_marked, read_from}
use Rattle.graph.specs.declared.Line.{Line}
use Rattle.graph.specs.declared.Line.TheVariants.{Bad}
use Rattle.graph.specs.declared.GraphRead.{GraphRead}
use Rattle.graph.specs.declared.TurnedAway.{TurnedAway}
use Rattle.read_graph.specs.declared.Digits.{Digits}
use Rattle.read_graph.specs.declared.Pair.{Pair}
use Rattle.read_graph.specs.declared.LineRead.{LineRead}

-- a place in a file that is not too long, its end among them
pub record Place (f : List ℕ) (p : ℕ) : Type 0 where
  pub short : length f ≤ file_limit
  pub within : p ≤ length f

-- the digits at p, ten at most
abbrev pub digit_run : List ℕ → ℕ → List ℕ
digit_run f p = digits_in 10 (drop p f)

-- their number, and the place after them
pub record DigitsAt (f : List ℕ) (p : ℕ) (r : Digits) : Type 0 where
  pub value : r.value ≡ decimal_of (digit_run f p)
  pub next : r.next ≡ p + length (digit_run f p)

-- the digits d are too few or too many for a number
abbrev pub Miscounted : List ℕ → Type 0
Miscounted d = (length d ≡ 0) ⊎ (9 < length d)

-- a number of one to nine digits stands at p, and then the byte c: v is the number, n the place after c
pub record NumberAt (f : List ℕ) (p c v n : ℕ) : Type 0 where
  pub some : 1 ≤ length (digit_run f p)
  pub few : length (digit_run f p) ≤ 9
  pub ends : get_or (drop p f) (length (digit_run f p)) 10 ≡ c
  pub value : v ≡ decimal_of (digit_run f p)
  pub next : n ≡ suc (p + length (digit_run f p))

abbrev pub FieldAt : (f : List ℕ) (p c : ℕ) → Option Digits → Type 0
FieldAt f p c (Some d) = NumberAt f p c d.value d.next
FieldAt f p c None = Miscounted (digit_run f p) ⊎ (get_or (drop p f) (length (digit_run f p)) 10 ≢ c)

-- of the line at p, the bytes up to k are passed
pub record Passing (f : List ℕ) (p k : ℕ) : Type 0 where
  pub within : k ≤ length f
  pub rest : k + length (line_in (drop k f)) ≡ p + length (line_in (drop p f))

-- one of the four bytes at k ends a line; one of the eight
abbrev pub ends_in_four : List ℕ → ℕ → Bool
ends_in_four f k = (eqb (get_or f k 0) 10 || eqb (get_or f (k + 1) 0) 10) || (eqb (get_or f (k + 2) 0) 10 || eqb (get_or f (k + 3) 0) 10)

abbrev pub ends_in_eight : List ℕ → ℕ → Bool
ends_in_eight f k = ends_in_four f k || ends_in_four f (k + 4)

-- n is the place after the line that stands at p and its newline, which counts also where a last line lacks it
abbrev pub After : List ℕ → ℕ → ℕ → Type 0
After f p n = n ≡ suc (p + length (line_in (drop p f)))

-- the line read is l, and the place after it is that after the line at p; or l is bad
abbrev pub Found : (f : List ℕ) (p : ℕ) → Line → Result LineRead TurnedAway → Type 0
Found f p l (Ok r) = (r.line ≡ l) × After f p r.next
Found f p l (Err e) = l ≡ Bad

-- two numbers fill the rest of the line from p, of whatever form it is; or no two do
abbrev pub PairAt : (f : List ℕ) (p : ℕ) → Result Pair TurnedAway → Type 0
PairAt f p (Ok r) = ((form : ℕ → ℕ → Line) → two_numbers form (line_fields (line_in (drop p f))) ≡ form r.first r.second) × After f p r.next
PairAt f p (Err e) = (form : ℕ → ℕ → Line) → two_numbers form (line_fields (line_in (drop p f))) ≡ Bad

-- the line at p begins with neither `c` nor `e`
pub record Other (f : List ℕ) (p : ℕ) : Type 0 where
  pub comment : get_or f p 10 ≢ 99
  pub edge : get_or f p 10 ≢ 101

-- the line at p, and the place after it; or that it is bad
abbrev pub LineAt : (f : List ℕ) (p : ℕ) → Result LineRead TurnedAway → Type 0
LineAt f p r = Found f p (line_of (line_in (drop p f))) r

-- what was found has at most n `e` lines
abbrev pub Few : ℕ → Option GraphRead → Type 0
Few n None = Unit {0}
Few n (Some r) = r.lines ≤ n

-- two vertices that are 1 to 32
pub record Inside (a b : ℕ) : Type 0 where
  pub a_some : 1 ≤ a
  pub a_few : a ≤ 32
  pub b_some : 1 ≤ b
  pub b_few : b ≤ 32

-- what a line adds to the marks
pub record Marked (l : Line) (n n' : List ℕ) : Type 0 where
  pub long : length n' ≡ length n
  pub marks : (i j : ℕ) → i < 32 → j < 32 → is_marked n' i j ≡ (is_marked n i j || joins i j l)

-- no mark yet
pub record Unmarked (n : List ℕ) : Type 0 where
  pub long : length n ≡ 1024
  pub none : (i j : ℕ) → i < 32 → j < 32 → is_marked n i j ≡ false

-- the items that the file's edges join are marked, unless it is turned away: then what is marked does not matter
abbrev pub MarksSay : (f n : List ℕ) → Result GraphRead TurnedAway → Type 0
MarksSay f n (Ok r) = (i j : ℕ) → i < 32 → j < 32 → is_marked n i j ≡ adjacent (file_lines f) i j
MarksSay f n (Err e) = Unit {0}

-- the lines of f were read, and what they join is marked
pub record LinesRead (f n : List ℕ) (r : Result GraphRead TurnedAway) : Type 0 where
  pub is : r ≡ read_from None (file_lines f)
  pub long : length n ≡ 1024
  pub marks : MarksSay f n r

-- the file f was read
pub record GraphAt (f n : List ℕ) (r : Result GraphRead TurnedAway) : Type 0 where
  pub is : r ≡ read_graph f
  pub long : length n ≡ 1024
  pub marks : MarksSay f n r
