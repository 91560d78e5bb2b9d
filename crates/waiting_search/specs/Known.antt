-- What a step does to what is known of a state: its unsupported values, and what the search waits for.
use Rattle.std.specs.Prelude.{◌≡◌, true, List, ℕ, ◌<◌}
use Rattle.bounded.specs.Mask.{bit}
use Rattle.problem.specs.Problem.{Problem, State}
use Rattle.problem.specs.declared.Masks.{Masks}
use Rattle.problem.specs.Record.{effect_of}
use Rattle.problem.specs.declared.Effect.{Effect}
use Rattle.problem.specs.declared.Effect.TheVariants.{Removes, Eliminates}
use Rattle.problem.specs.declared.Record.{Record}
use Rattle.problem.specs.declared.Record.TheVariants.{Unsupported, Snake, Triangle, Neighbourhood, SnakeSubstitution}
use Rattle.waiting.specs.Waiting.{Woken, TrianglesWoken}
use Rattle.held.specs.Ready.{Value}
use Rattle.waiting_unsupported.specs.Words.{Mended}

-- what waits for value b of i, or for i, is pending; before: p and w, after: q and x
pub record ValueWoken (i b : ℕ) (p w q x : List ℕ) : Type 0 where
  pub middle : List ℕ
  pub triangles : TrianglesWoken i b p w middle
  pub woken : Woken i middle w q x

-- in the state m after a step: a value that it removed was listed, of a variable that is active still; or a variable that it eliminated
abbrev pub EffectMendable : (t : List ℕ) (m : Masks) → Effect → Type 0
EffectMendable t m (Removes i b) = Value t i b × (bit m.active i ≡ true)
EffectMendable t m (Eliminates i) = i < 32

abbrev pub Mendable : (t : List ℕ) (m : Masks) → Record → Type 0
Mendable t m r = EffectMendable t m (effect_of r)

-- the unsupported values c and d, before and after, and what waits, in the state s after the step. A cover leaves no value unsupported, and
-- neither does a variable that is eliminated where every value has its supports.
abbrev pub MendedBy : (P : Problem) (s : State) (r : Record) (c d p w q x : List ℕ) → Type 0
MendedBy P s (Unsupported i b k) c d p w q x = Mended P s i b c d × ValueWoken i b p w q x
MendedBy P s (Snake i v) c d p w q x = (d ≡ c) × Woken i p w q x
MendedBy P s (Triangle i j) c d p w q x = (d ≡ c) × Woken i p w q x
MendedBy P s (Neighbourhood i b a) c d p w q x = (d ≡ c) × ValueWoken i b p w q x
MendedBy P s (SnakeSubstitution i b a) c d p w q x = Mended P s i b c d × ValueWoken i b p w q x
