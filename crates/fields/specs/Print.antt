-- docs/FORMAT.md, "What the program prints", as bytes.
use Rattle.std.specs.Prelude.{true, false, List, [], ◌∷◌, ◌++◌, ℕ, zero, suc, ◌+◌, ◌/◌, ◌%◌, ltb, take, length}
use Rattle.bounded.specs.Quantifiers.{count_below}
use Rattle.problem.specs.Problem.{Problem, State, full, size_sum, live_count}
use Rattle.problem.specs.Run.{run, after_trace, end_of}
use Rattle.problem.specs.Record.{fields_of}
use Rattle.problem.specs.declared.Record.{Record}
use Rattle.problem.specs.declared.Record.TheVariants.{Unsupported, Snake, Triangle, Neighbourhood, SnakeSubstitution}
use Rattle.problem.specs.declared.End.{End}
use Rattle.problem.specs.declared.End.TheVariants.{Impossible, Solved, Rest}
use Rattle.sheet.specs.Sheet.{sheet_number}
use Rattle.jobs.specs.WithSheet.{with_sheet}

-- a number in decimal digits, with no leading zero; one more turn than the number itself is enough
unfoldable pub digits_from : ℕ → ℕ → List ℕ
digits_from zero x = []
digits_from (suc f) x = elim (ltb x 10) [ true ↦ (48 + x) ∷ [] | false ↦ digits_from f (x / 10) ++ ((48 + x % 10) ∷ []) ]

unfoldable pub decimal : ℕ → List ℕ
decimal x = digits_from (suc x) x

-- a space and a number
abbrev pub field : ℕ → List ℕ
field x = 32 ∷ decimal x

-- "sheet", "refused"
abbrev pub sheet_word : List ℕ
sheet_word = 115 ∷ 104 ∷ 101 ∷ 101 ∷ 116 ∷ []

abbrev pub refused_word : List ℕ
refused_word = 114 ∷ 101 ∷ 102 ∷ 117 ∷ 115 ∷ 101 ∷ 100 ∷ []

-- a step's word: "bare", "snake", "fold", "cover" or "slide"
abbrev pub step_word : Record → List ℕ
step_word (Unsupported i b k) = 98 ∷ 97 ∷ 114 ∷ 101 ∷ []
step_word (Snake i v) = 115 ∷ 110 ∷ 97 ∷ 107 ∷ 101 ∷ []
step_word (Triangle i j) = 102 ∷ 111 ∷ 108 ∷ 100 ∷ []
step_word (Neighbourhood i b a) = 99 ∷ 111 ∷ 118 ∷ 101 ∷ 114 ∷ []
step_word (SnakeSubstitution i b a) = 115 ∷ 108 ∷ 105 ∷ 100 ∷ 101 ∷ []

-- numbers one after the other, each after a space
unfoldable pub fields_text : List ℕ → List ℕ
fields_text [] = []
fields_text (x ∷ t) = field x ++ fields_text t

-- "word, the fields after the kind"
abbrev pub step_text : Record → List ℕ
step_text r = step_word r ++ fields_text (fields_of r)

-- "impossible", "solved", "rest"
abbrev pub end_word : End → List ℕ
end_word Impossible = 105 ∷ 109 ∷ 112 ∷ 111 ∷ 115 ∷ 115 ∷ 105 ∷ 98 ∷ 108 ∷ 101 ∷ []
end_word Solved = 115 ∷ 111 ∷ 108 ∷ 118 ∷ 101 ∷ 100 ∷ []
end_word Rest = 114 ∷ 101 ∷ 115 ∷ 116 ∷ []

-- "Line 1: n, sum of sizes."
abbrev pub first_line : Problem → List ℕ
first_line P = sheet_word ++ (field P.n ++ (field (size_sum P) ++ (10 ∷ [])))

-- "Step lines: step number from 1, word, the fields after the kind."
abbrev pub step_line : ℕ → Record → List ℕ
step_line k r = decimal k ++ (32 ∷ (step_text r ++ (10 ∷ [])))

unfoldable pub step_lines : ℕ → List Record → List ℕ
step_lines k [] = []
step_lines k (r ∷ t) = step_line k r ++ step_lines (k + 1) t

-- "Last line: end, steps, items in, settings on at items in."
abbrev pub last_line : Problem → State → ℕ → List ℕ
last_line P s steps = end_word (end_of P s) ++ (field steps ++ (field (count_below P.n s.active) ++ (field (live_count P s) ++ (10 ∷ []))))

-- "A refused sheet prints one line"
abbrev pub refused_line : ℕ → List ℕ
refused_line k = refused_word ++ (field k ++ (10 ∷ []))

unfoldable pub run_lines : Problem → List ℕ
run_lines P = first_line P ++ (step_lines 1 (run P (full P)) ++ last_line P (after_trace P (full P) (run P (full P))) (length (run P (full P))))

-- how many bytes of standard input the program hands to the run
abbrev pub input_limit : ℕ
input_limit = 16905

unfoldable pub sheet_lines : List ℕ → List ℕ
sheet_lines s = with_sheet s (λ r. refused_line (sheet_number r)) run_lines

-- "The program hands the first 16,905 bytes of standard input to the run."
unfoldable pub printed : List ℕ → List ℕ
printed input = sheet_lines (take input_limit input)
