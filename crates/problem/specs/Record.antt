-- docs/FORMAT.md, "State and the five rules": the one place that takes a record apart. Its kind, its fields, and what its step does: whatever else goes
-- by these does not tell the kinds apart.
use Rattle.std.specs.Prelude.{List, [], ◌∷◌, ℕ, zero, suc, length, get_or, Option, Some, None}
use Rattle.problem.specs.declared.Record.{Record}
use Rattle.problem.specs.declared.Record.TheVariants.{Unsupported, Snake, Triangle, Neighbourhood, SnakeSubstitution}
use Rattle.problem.specs.declared.Effect.{Effect}
use Rattle.problem.specs.declared.Effect.TheVariants.{Removes, Eliminates}
use Rattle.problem.specs.declared.Parts.{Parts}

-- the kind of a record, as the table of the rules numbers it
abbrev pub kind_of : Record → ℕ
kind_of (Unsupported i b k) = 1
kind_of (Snake i v) = 2
kind_of (Triangle i j) = 3
kind_of (Neighbourhood i b a) = 4
kind_of (SnakeSubstitution i b a) = 5

-- the fields after the kind, in the table's order
abbrev pub fields_of : Record → List ℕ
fields_of (Unsupported i b k) = i ∷ b ∷ k ∷ []
fields_of (Snake i v) = i ∷ v ∷ []
fields_of (Triangle i j) = i ∷ j ∷ []
fields_of (Neighbourhood i b a) = i ∷ b ∷ a ∷ []
fields_of (SnakeSubstitution i b a) = i ∷ b ∷ a ∷ []

-- what the step does: "Kinds 1, 4 and 5 switch b off at i. Kinds 2 and 3 take i out"
abbrev pub effect_of : Record → Effect
effect_of (Unsupported i b k) = Removes i b
effect_of (Snake i v) = Eliminates i
effect_of (Triangle i j) = Eliminates i
effect_of (Neighbourhood i b a) = Removes i b
effect_of (SnakeSubstitution i b a) = Removes i b

-- the record of a kind with these fields, a kind of two fields taking no third; no kind has another number
unfoldable pub record_of : (kind i x y : ℕ) → Option Record
record_of zero i x y = None
record_of (suc zero) i x y = Some (Unsupported i x y)
record_of (suc (suc zero)) i x y = Some (Snake i x)
record_of (suc (suc (suc zero))) i x y = Some (Triangle i x)
record_of (suc (suc (suc (suc zero)))) i x y = Some (Neighbourhood i x y)
record_of (suc (suc (suc (suc (suc zero))))) i x y = Some (SnakeSubstitution i x y)
record_of (suc (suc (suc (suc (suc (suc k)))))) i x y = None

-- ---- what follows from these

-- the item, the third field and the fourth, counted with the kind as the order of the run counts them; 0 where there is no fourth
abbrev pub item_of : Record → ℕ
item_of r = get_or (fields_of r) 0 0

abbrev pub third_of : Record → ℕ
third_of r = get_or (fields_of r) 1 0

abbrev pub fourth_of : Record → ℕ
fourth_of r = get_or (fields_of r) 2 0

-- the record taken apart
abbrev pub parts_of : Record → Parts
parts_of r = record { kind = kind_of r; count = length (fields_of r); item = item_of r; third = third_of r; fourth = fourth_of r }

-- the variable whose domain the step changes, or that it eliminates
abbrev pub variable_of : Effect → ℕ
variable_of (Removes i b) = i
variable_of (Eliminates i) = i
