-- The number that a kind of step has in a record: `kind_of` lists the numbers.
use Rattle.std.specs.Prelude.{ℕ}
use Rattle.problem.specs.Record.{kind_of}
use Rattle.problem.specs.declared.Record.TheVariants as record·
use Rattle.waiting_search.specs.declared.Kind.{Kind}
use Rattle.waiting_search.specs.declared.Kind.TheVariants.{Unsupported, Snake, Triangle, Neighbourhood, SnakeSubstitution}

abbrev pub number_of : Kind → ℕ
number_of Unsupported = kind_of (record·.Unsupported 0 0 0)
number_of Snake = kind_of (record·.Snake 0 0)
number_of Triangle = kind_of (record·.Triangle 0 0)
number_of Neighbourhood = kind_of (record·.Neighbourhood 0 0 0)
number_of SnakeSubstitution = kind_of (record·.SnakeSubstitution 0 0 0)
