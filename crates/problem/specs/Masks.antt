-- A state as masks, as the code holds it, and as tests, as the rules read it.
use Rattle.std.specs.Prelude.{◌≡◌, List, ℕ, ◌<◌, ◌^◌, length, get_or, replicate}
use Rattle.bounded.specs.Mask.{bit, mask_of}
use Rattle.bounded.specs.Table.{tab}
use Rattle.problem.specs.Problem.{State, max_variables, max_values}
use Rattle.problem.specs.declared.Masks.{Masks}

-- variable i is active where bit i is set, and value a is in its domain where bit a of entry i is
unfoldable pub state_of : Masks → State
state_of m = record { active = λ i. bit m.active i; live = λ i a. bit (get_or m.domains i 0) a }

unfoldable pub masks_of : State → Masks
masks_of s = record { active = mask_of max_variables s.active; domains = tab max_variables (λ i. mask_of max_values (s.live i)) }

-- "a state with no items in and no settings on"
abbrev pub empty_masks : Masks
empty_masks = record { active = 0; domains = replicate 32 0 }

-- the state of the active variables and the lent sets of their values
abbrev pub sets : (active : ℕ) (on : List ℕ) → Masks
sets active on = record { active = active; domains = on }

-- the numbers that the struct can hold
pub record Proper (m : Masks) : Type 0 where
  pub active_lt : m.active < 2 ^ 32
  pub length_is : length m.domains ≡ 32
  pub domain_lt : (i : ℕ) → i < 32 → get_or m.domains i 0 < 2 ^ 16
