-- The kinds in their order. Assumes nothing.
use Rattle.std.specs.Prelude.{None}
use mathlib.Core.Path.{◌≡◌, refl}
use Prim.Native.Nat.{ℕ, zero, suc, ◌+◌, ◌<◌}
use native.Mathlib.Omega.{arith}
use lib.ListN.{get_or}
use Rattle.problem.specs.Problem.{Problem, State}
use Rattle.problem.specs.Run.{first, next_of_kind_by, next_of_kind}
use Rattle.waiting_search.specs.declared.Kind.TheVariants.{Unsupported}
use Rattle.waiting_search.specs.declared.TheConstants.{KINDS}
use Rattle.waiting_search.specs.Kinds.{number_of}

-- there is no kind 0
pub kinds_none : (P : Problem) (s : State) → first 1 (next_of_kind P s) ≡ None
unfolding first next_of_kind_by
kinds_none P s = refl

-- the kinds are listed in the order of their numbers
pub kinds_listed : (k : ℕ) → k < 5 → number_of (get_or KINDS k Unsupported) ≡ k + 1
kinds_listed zero h = refl
kinds_listed (suc zero) h = refl
kinds_listed (suc (suc zero)) h = refl
kinds_listed (suc (suc (suc zero))) h = refl
kinds_listed (suc (suc (suc (suc zero)))) h = refl
kinds_listed (suc (suc (suc (suc (suc k))))) h = absurd (omega arith)
