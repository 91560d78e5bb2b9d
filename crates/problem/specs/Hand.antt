-- docs/FORMAT.md, "Taking out by hand": the start, one hand call, lists of calls, and when a list is finished.
use Rattle.std.specs.Prelude.{Bool, true, false, not, ◌&&◌, List, [], ◌∷◌, ℕ, zero, suc, eqb, ltb}
use Rattle.problem.specs.Problem.{Problem, State, full, state_fits, none_empty, all_active, all_other, all_live, any_live, lowest_live, snake, eliminate, live_count}
use Rattle.problem.specs.declared.Call.{Call}
use Rattle.problem.specs.declared.Call.TheVariants.{Eliminated, Misfit, NotActive, Emptied, NoSnake}

-- ---- starting

-- "A partner of a setting at another item is a setting on there and allowed with it": a of i has one at every other item
unfoldable pub supported : Problem → State → ℕ → ℕ → Bool
supported P s i a = all_other P s i (λ j. any_live P s j (λ b. P.allowed i a j b))

-- every setting on has a partner at each other item in
unfoldable pub arc_consistent : Problem → State → Bool
arc_consistent P s = all_active P s (λ i. all_live P s i (λ a. supported P s i a))

-- the settings that have a partner at every other item stay on
unfoldable pub prune : Problem → State → State
prune P s = record { active = s.active; live = λ i a. s.live i a && supported P s i a }

unfoldable pub prune_times : ℕ → Problem → State → State
prune_times zero P s = s
prune_times (suc f) P s = prune_times f P (prune P s)

-- "the state with all items in and the largest sets of settings in which each has a partner at every other item". Each pruning but
-- the last uses up a setting, so that one more than there are settings is enough; proofs/Start.antt shows that no larger sets serve.
abbrev pub start_turns : Problem → ℕ
start_turns P = suc (live_count P (full P))

unfoldable pub start : Problem → State
start P = prune_times (start_turns P) P (full P)

-- ---- one hand call

-- in the order of the table: 11 the state does not fit, 12 the named item is not below n or not in, 13 some item in has no setting
-- on, 14 the snake rule holds for no v; otherwise "the lowest fitting v"
unfoldable pub call : Problem → State → ℕ → Call
call P s i =
    elim (state_fits P s) [
      | false ↦ Misfit
      | true ↦
          elim (ltb i P.n && s.active i) [
            | false ↦ NotActive
            | true ↦
                elim (none_empty P s) [
                  | false ↦ Emptied
                  | true ↦
                      elim (any_live P s i (λ v. snake P s i v)) [
                        | false ↦ NoSnake
                        | true ↦ Eliminated (lowest_live P s i (λ v. snake P s i v))
                      ]
                ]
          ]
    ]

-- the state that a call answers: "a refused hand call answers the state it was given"
abbrev pub state_after : Problem → State → ℕ → Call → State
state_after P s i (Eliminated v) = eliminate P s i
state_after P s i Misfit = s
state_after P s i NotActive = s
state_after P s i Emptied = s
state_after P s i NoSnake = s

unfoldable pub call_state : Problem → State → ℕ → State
call_state P s i = state_after P s i (call P s i)

-- ---- lists of calls

-- "each later one the state that the call before it answered, a refused one's included"
unfoldable pub calls_state : Problem → State → List ℕ → State
calls_state P s [] = s
calls_state P s (i ∷ l) = calls_state P (call_state P s i) l

-- "The list is finished when the snake rule then holds for no item in."
unfoldable pub finished : Problem → State → Bool
finished P s = all_active P s (λ i. not (any_live P s i (λ v. snake P s i v)))

-- "the pairs allowed among them are the pairs of settings, on at two different items left, that the sheet allows together"
unfoldable pub pair_left : Problem → State → ℕ → ℕ → ℕ → ℕ → Bool
pair_left P s i a j b = (s.active i && s.live i a) && ((s.active j && s.live j b) && (not (eqb i j) && P.allowed i a j b))
