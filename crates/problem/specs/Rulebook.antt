-- A rulebook: what it says where the rules of two times differ, a word for each such place. What reads a rule that differs takes a rulebook,
-- and has a name that ends in _by; the name without it is the same under the rulebook in force, and contracts speak of that.
use Rattle.std.specs.Prelude.{Bool}
use Rattle.problem.specs.Problem.{substitution_spares, substitution_keeps}

pub record Rulebook : Type 0 where
  -- of the slide, kind 5: whether i is spared
  pub spares : Bool

-- the rulebook before request Four. No job has it; it is here to be compared with.
abbrev pub before_four : Rulebook
before_four = record { spares = substitution_keeps }

-- the rulebook after it
abbrev pub after_four : Rulebook
after_four = record { spares = substitution_spares }

-- the rulebook in force
abbrev pub in_force : Rulebook
in_force = after_four
