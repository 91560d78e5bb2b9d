-- Undoing in a lent plan: what it needs, and what it leaves.
use Rattle.std.specs.Prelude.{◌≡◌, true, false, not, ◌&&◌, ◌≢◌, List, ℕ, T, eqb, length}
use Rattle.bounded.specs.Table.{tab}
use Rattle.problem.specs.Problem.{Problem, State, lowest_live, snake_serves}
use Rattle.problem.specs.Run.{lawful, after, after_trace}
use Rattle.problem.specs.PutBack.{undo_trace, plan_of}
use Rattle.problem.specs.Held.{held}
use Rattle.problem.specs.Masks.{state_of}
use Rattle.problem.specs.declared.Masks.{Masks}
use Rattle.problem.specs.declared.Record.{Record}
use Rattle.problem.specs.Sentences.{Solution}
use Rattle.put_back.specs.PutBack.{Checked, Lawful as Records, Faulty}
use Rattle.replay.specs.Walk.{checked_from}

-- w at the variable j once i has v: the format's lowest w' where w is barred with v
unfoldable pub mended : Problem → State → (i v j w : ℕ) → ℕ
mended P s i v j w = elim (s.active j && (not (eqb j i) && not (P.allowed i v j w))) [ true ↦ lowest_live P s j (λ w'. snake_serves P s i v j w w') | false ↦ w ]

-- a plan of the right length whose values at the active variables other than i are in their domains
pub record UndoneTo (t : List ℕ) (m : Masks) (i : ℕ) (plan : List ℕ) : Type 0 where
  pub long : length plan ≡ (held t).n
  pub live : (j : ℕ) → T ((state_of m).active j) → j ≢ i → T ((state_of m).live j (plan_of plan j))

-- the record is lawful in the state of m, and the plan solves the state after it
pub record Undoable (t : List ℕ) (m : Masks) (r : Record) (plan : List ℕ) : Type 0 where
  pub long : length plan ≡ (held t).n
  pub lawfully : T (lawful (held t) (state_of m) r)
  pub solved : Solution (held t) (after (held t) (state_of m) r) (plan_of plan)

-- the records from the place p on are lawful in the state of m, and the plan solves the state that they lead to. Lawful records have no fault
-- that could carry a number: they are counted from 0 wherever p is.
pub record UndoableFrom (t trace : List ℕ) (m : Masks) (p : ℕ) (plan : List ℕ) : Type 0 where
  pub long : length plan ≡ (held t).n
  pub records : List Record
  pub checks : checked_from (held t) trace (state_of m) 0 p ≡ Records records
  pub solved : Solution (held t) (after_trace (held t) (state_of m) records) (plan_of plan)

-- The plan with the records undone,
-- last first, each against the state before it.
-- A fault leaves the plan as it is.
abbrev pub undone_by : Problem → State → Checked → List ℕ → List ℕ
undone_by P s (Records ts) p = tab P.n (undo_trace P s ts (plan_of p))
undone_by P s (Faulty e) p = p
