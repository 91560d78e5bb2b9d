-- "the next step is of the lowest kind that holds anywhere, then the lowest i, then the lowest third field, then the lowest fourth": the
-- order of the records, and the first lawful one in it.
use Rattle.std.specs.Prelude.{◌≡◌, ◌⊎◌, ◌<◌, T}
use Rattle.problem.specs.Problem.{Problem, State}
use Rattle.problem.specs.Record.{kind_of, item_of, third_of, fourth_of}
use Rattle.problem.specs.Run.{lawful}
use Rattle.problem.specs.declared.Record.{Record}

-- x stands before y: by the kind, then i, then the third field, then the fourth
abbrev pub Before : Record → Record → Type 0
Before x y =
    (kind_of x < kind_of y)
    ⊎ ((kind_of x ≡ kind_of y)
    × ((item_of x < item_of y)
    ⊎ ((item_of x ≡ item_of y)
    × ((third_of x < third_of y)
    ⊎ ((third_of x ≡ third_of y) × (fourth_of x < fourth_of y))))))

-- r is lawful, and no lawful record stands before it
abbrev pub FirstLawful : Problem → State → Record → Type 0
FirstLawful P s r = T (lawful P s r) × ((x : Record) → T (lawful P s x) → Before x r → ⊥)
