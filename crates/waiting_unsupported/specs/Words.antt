-- The unsupported values of a state, the format's bare ones, as words which a run keeps up to date.
use Rattle.std.specs.Prelude.{◌≡◌, List, ◌⊎◌, ◌≢◌, ◌↔◌, ℕ, T, length, get_or}
use Rattle.bounded.specs.Mask.{bit}
use Rattle.problem.specs.Problem.{Problem, State, none_empty}
use Rattle.problem.specs.Sentences.{Live, Allowed, Unsupported}

-- Where no active variable is emptied: a value in the domain of i is in word i exactly where it has no support at some other active
-- variable. Of values that are in no domain the words say nothing.
pub record AllUnsupported (P : Problem) (s : State) (words : List ℕ) : Type 0 where
  pub long : length words ≡ 32
  pub exact : T (none_empty P s) → (i b : ℕ) → Live s i b → T (bit (get_or words i 0) b) ↔ ((k : ℕ) × Unsupported P s i b k)

-- of the domain of i, x has exactly the values without a support at some other active variable
pub record UnsupportedOf (P : Problem) (s : State) (i x : ℕ) : Type 0 where
  pub exact : (b : ℕ) → Live s i b → T (bit x b) ↔ ((k : ℕ) × Unsupported P s i b k)

-- r has those of the values `lost` of i that no value of the set `domain` of l supports
pub record Alone (P : Problem) (lost domain l i r : ℕ) : Type 0 where
  pub exact : (c : ℕ) → T (bit r c) ↔ (T (bit lost c) × ((d : ℕ) → T (bit domain d) → Allowed P l d i c → ⊥))

-- What the words are once value c of l is gone, in the state s after that: those of before, and the values that c supported and no value
-- that l still has supports.
pub record Mended (P : Problem) (s : State) (l c : ℕ) (before now : List ℕ) : Type 0 where
  pub long : length now ≡ 32
  pub exact : T (none_empty P s) → (i b : ℕ) → Live s i b
      → T (bit (get_or now i 0) b) ↔ (T (bit (get_or before i 0) b) ⊎ ((i ≢ l) × Allowed P l c i b × ((d : ℕ) → Live s l d → Allowed P l d i b → ⊥)))
