-- docs/FORMAT.md, "Putting back": solutions, and undoing records, last first.
use Rattle.std.specs.Prelude.{Bool, true, false, ◌&&◌, not, List, [], ◌∷◌, ℕ, eqb, get_or}
use Rattle.problem.specs.Problem.{Problem, State, full, all_active, all_other, lowest_live, snake_serves, triangle_serves}
use Rattle.problem.specs.Run.{after}
use Rattle.problem.specs.declared.Record.{Record}
use Rattle.problem.specs.declared.Record.TheVariants.{Unsupported, Snake, Triangle, Neighbourhood, SnakeSubstitution}

-- "A plan gives each item one setting, and each two items an allowed pair." Of a state: each item in a setting on, and each two
-- items in an allowed pair. What p says of items out does not matter.
unfoldable pub solves : Problem → State → (ℕ → ℕ) → Bool
solves P s p = all_active P s (λ i. s.live i (p i) && all_other P s i (λ j. P.allowed i (p i) j (p j)))

-- a plan of the full sheet
unfoldable pub solves_whole : Problem → (ℕ → ℕ) → Bool
solves_whole P p = solves P (full P) p

-- the setting that a plan's bytes give an item
abbrev pub plan_of : List ℕ → ℕ → ℕ
plan_of w i = get_or w i 0

-- p with v at i
unfoldable pub put : (i v : ℕ) → (ℕ → ℕ) → ℕ → ℕ
put i v p j = elim (eqb j i) [ true ↦ v | false ↦ p j ]

-- "changes each other item's setting that is barred with v to the lowest w' the rule allows"
unfoldable pub repair : Problem → State → (i v : ℕ) → (ℕ → ℕ) → ℕ → ℕ
repair P s i v p j =
    elim (s.active j && (not (eqb j i) && not (P.allowed i v j (p j)))) [ true ↦ lowest_live P s j (λ w'. snake_serves P s i v j (p j) w') | false ↦ p j ]

-- "Kinds 1, 4, 5 change nothing. Kind 2 gives i the setting v, then changes each other item's setting that is barred with v [..].
-- Kind 3 gives i the lowest u the rule allows for the setting that j has." s is the state before the record.
unfoldable pub undo : Problem → State → Record → (ℕ → ℕ) → ℕ → ℕ
undo P s (Unsupported i b k) p = p
undo P s (Snake i v) p = put i v (repair P s i v p)
undo P s (Triangle i j) p = put i (lowest_live P s i (λ u. triangle_serves P s i j (p j) u)) p
undo P s (Neighbourhood i b a) p = p
undo P s (SnakeSubstitution i b a) p = p

-- "Records are undone last first, each against the state before it."
unfoldable pub undo_trace : Problem → State → List Record → (ℕ → ℕ) → ℕ → ℕ
undo_trace P s [] p = p
undo_trace P s (r ∷ t) p = undo P s r (undo_trace P (after P s r) t p)
