-- Bench sheets of the format as problems, with what is claimed of each: one table, whose one statement is proofs/Samples.antt. The rows
-- pin the definitions of this crate; the bytes of the same sheets, their refusals and numbers are a table of the crate `jobs`.
use Rattle.std.specs.Prelude.{◌≡◌, Bool, true, false, cond, not, List, [], ◌∷◌, ℕ, zero, suc, eqb, leb, get_or, length, Option, Some, None}
use Rattle.bounded.specs.Mask.{bit}
use Rattle.bounded.specs.Table.{tab}
use Rattle.problem.specs.Problem.{Problem, State, both_ways, both_ways_symmetric, full, spoiler}
use Rattle.problem.specs.Rulebook.{before_four}
use Rattle.problem.specs.Run.{broken_cover, lawful_trace, lawful_trace_by, after_trace, run, run_by, end_of}
use Rattle.problem.specs.Hand.{start, call}
use Rattle.problem.specs.PutBack.{undo_trace}
use Rattle.problem.specs.Solutions.{solution_count}
use Rattle.problem.specs.declared.Record.{Record}
use Rattle.problem.specs.declared.Record.TheVariants.{Unsupported, Snake, Triangle, Neighbourhood, SnakeSubstitution}
use Rattle.problem.specs.declared.End.{End}
use Rattle.problem.specs.declared.End.TheVariants.{Impossible, Solved, Rest}
use Rattle.problem.specs.declared.Call.{Call}
use Rattle.problem.specs.declared.Call.TheVariants.{Eliminated, NotActive, Emptied, NoSnake}

-- ---- problems from their sizes and a test of the pairs i < j

abbrev pub problem : List ℕ → (ℕ → ℕ → ℕ → ℕ → Bool) → Problem
problem sizes f = record { n = length sizes; size = λ i. get_or sizes i 0; allowed = both_ways f; symmetric = both_ways_symmetric f }

abbrev pub unequal : ℕ → ℕ → ℕ → ℕ → Bool
unequal i a j b = not (eqb a b)

abbrev pub barred : ℕ → ℕ → ℕ → ℕ → Bool
barred i a j b = false

-- each unequal to item 0
abbrev pub star : ℕ → ℕ → ℕ → ℕ → Bool
star zero a j b = not (eqb a b)
star (suc i) a j b = true

-- item 0 unequal to the others; item 1 at least item 2
abbrev pub stairs : ℕ → ℕ → ℕ → ℕ → Bool
stairs zero a j b = not (eqb a b)
stairs (suc i) a j b = leb b a

-- C with item 3 equal to item 0
abbrev pub twin : ℕ → ℕ → ℕ → ℕ → Bool
twin zero a j b = cond (eqb j 3) (eqb a b) (not (eqb a b))
twin (suc i) a j b = cond (eqb j 3) true (not (eqb a b))

-- C with a third setting at item 0, allowed as setting 0 is
abbrev pub third : ℕ → ℕ → ℕ → ℕ → Bool
third zero a j b = not (eqb (cond (eqb a 2) 0 a) b)
third (suc i) a j b = not (eqb a b)

-- setting 0 of item 0 is allowed with both settings of item 1, setting 1 with the second only
abbrev pub steps : ℕ → ℕ → ℕ → ℕ → Bool
steps i a j b = leb a b

-- item 0 equal to item 1; setting 0 of item 1 is allowed with setting 0 of item 2 only, setting 1 with both
abbrev pub folded : ℕ → ℕ → ℕ → ℕ → Bool
folded zero a j b = cond (eqb j 1) (eqb a b) true
folded (suc i) a j b = leb b a

-- only setting 0 of item 1 is allowed with item 0
abbrev pub lone : ℕ → ℕ → ℕ → ℕ → Bool
lone i a j b = eqb b 0

-- rows by their words, as a sheet has them: of item 0 with item 1, of item 0 with item 2, and of item 1 with item 2
abbrev pub words : (zeroOne zeroTwo oneTwo : List ℕ) → ℕ → ℕ → ℕ → ℕ → Bool
words x y z zero a j b = bit (get_or (cond (eqb j 1) x y) a 0) b
words x y z (suc i) a j b = bit (get_or z a 0) b

-- ---- what a row claims

pub data Claim : Type 0 where
  -- the run's records and its end
  Runs : List Record → End → Claim
  -- the run's records by the slide rule of before
  RanBefore : List Record → Claim
  -- whether the trace is lawful from the full state, and whether it was by the slide rule of before
  Follows : List Record → Bool → Claim
  FollowedBefore : List Record → Bool → Claim
  -- the cover test at l in the full state, of a of i in the place of b of j
  Tests : (i a j b l : ℕ) → Option ℕ → Claim
  -- what is named of a record after the trace
  Broken : List Record → Record → Option (ℕ × ℕ) → Claim
  -- how many solutions are left after the trace
  Plans : List Record → ℕ → Claim
  -- the plan put back by undoing the trace
  Undone : List Record → List ℕ → List ℕ → Claim
  -- the settings on after the trace
  Left : List Record → List (List ℕ) → Claim
  -- a hand call from the start, and from the full state
  ByHand : ℕ → Call → Claim
  FromFull : ℕ → Call → Claim

-- an assignment as a list, for n items
abbrev pub listed : ℕ → (ℕ → ℕ) → List ℕ
listed n p = tab n p

-- the settings on at each item, of those below n that pass f
abbrev pub passing : ℕ → ℕ → (ℕ → Bool) → List ℕ
passing zero k f = []
passing (suc n) k f = elim (f k) [ true ↦ k ∷ passing n (suc k) f | false ↦ passing n (suc k) f ]

abbrev pub live_at : Problem → State → List (List ℕ)
live_at P s = tab P.n (λ i. passing (P.size i) 0 (s.live i))

abbrev pub Meets : Problem → Claim → Type 0
Meets P (Runs t e) = (run P (full P) ≡ t) × (end_of P (after_trace P (full P) t) ≡ e)
Meets P (RanBefore t) = run_by before_four P (full P) ≡ t
Meets P (Follows t b) = lawful_trace P (full P) t ≡ b
Meets P (FollowedBefore t b) = lawful_trace_by before_four P (full P) t ≡ b
Meets P (Tests i a j b l x) = spoiler P (full P) i a j b l ≡ x
Meets P (Broken t r x) = broken_cover P (after_trace P (full P) t) r ≡ x
Meets P (Plans t k) = solution_count P (after_trace P (full P) t) ≡ k
Meets P (Undone t p q) = listed P.n (undo_trace P (full P) t (λ i. get_or p i 0)) ≡ q
Meets P (Left t l) = live_at P (after_trace P (full P) t) ≡ l
Meets P (ByHand i c) = call P (start P) i ≡ c
Meets P (FromFull i c) = call P (full P) i ≡ c

abbrev pub AllMeet : Problem → List Claim → Type 0
AllMeet P [] = Unit {0}
AllMeet P (c ∷ l) = Meets P c × AllMeet P l

pub record Row : Type 0 where
  pub sheet : Problem
  pub claims : List Claim

abbrev pub AllRows : List Row → Type 0
AllRows [] = Unit {0}
AllRows (r ∷ l) = AllMeet r.sheet r.claims × AllRows l

-- ---- the table

abbrev pub rows : List Row
rows =
    -- A
    record { sheet = problem (2 ∷ []) unequal; claims = Runs (Snake 0 0 ∷ []) Solved ∷ [] }
    -- B; undone first to last it would come back 0, 0. The slide spares item 0, so that setting 0 of item 1 need cover setting 1 nowhere.
    ∷ record {
      sheet = problem (2 ∷ 2 ∷ []) unequal;
      claims =
          Runs (Snake 0 0 ∷ Snake 1 0 ∷ []) Solved ∷ Undone (Snake 0 0 ∷ Snake 1 0 ∷ []) (255 ∷ 255 ∷ []) (0 ∷ 1 ∷ [])
          ∷ Follows (SnakeSubstitution 0 0 1 ∷ []) true
          ∷ FollowedBefore (SnakeSubstitution 0 0 1 ∷ []) false
          ∷ [];
    }
    -- C: no step, and no plan; no setting covers itself, and none slides
    ∷ record {
      sheet = problem (2 ∷ 2 ∷ 2 ∷ []) unequal;
      claims =
          Runs [] Rest ∷ Plans [] 0 ∷ Follows (Neighbourhood 0 0 0 ∷ []) false ∷ Follows (SnakeSubstitution 0 0 1 ∷ []) false
          ∷ ByHand 0 NoSnake
          ∷ ByHand 3 NotActive
          ∷ Broken [] (Neighbourhood 0 0 1) (Some (1, 1))
          ∷ Broken [] (Neighbourhood 2 0 1) (Some (0, 1))
          ∷ Broken [] (Neighbourhood 0 0 0) None
          ∷ Broken [] (Neighbourhood 0 2 1) None
          ∷ Broken [] (Neighbourhood 3 0 1) None
          ∷ Broken [] (Snake 0 0) None
          ∷ [];
    }
    -- D
    ∷ record { sheet = problem (1 ∷ 1 ∷ []) barred; claims = Runs (Unsupported 0 0 1 ∷ []) Impossible ∷ ByHand 0 Emptied ∷ FromFull 0 NoSnake ∷ [] }
    -- E: taking an item out can raise the number of plans
    ∷ record { sheet = problem (2 ∷ 2 ∷ 2 ∷ 2 ∷ []) star; claims = Plans [] 2 ∷ Plans (Snake 0 0 ∷ []) 8 ∷ [] }
    -- F: setting 0 does not serve in the first step; of two settings that spoil a cover the lower is answered, and an item out breaks none
    ∷ record {
      sheet = problem (3 ∷ 3 ∷ 3 ∷ []) stairs;
      claims =
          Runs (Snake 0 1 ∷ Snake 1 0 ∷ Snake 2 0 ∷ []) Solved ∷ Follows (Snake 0 0 ∷ []) false
          ∷ Undone (Snake 0 1 ∷ Snake 1 0 ∷ Snake 2 0 ∷ []) (255 ∷ 255 ∷ 255 ∷ []) (1 ∷ 0 ∷ 0 ∷ [])
          ∷ Tests 0 1 0 0 1 (Some 1)
          ∷ Tests 1 0 1 2 2 (Some 1)
          ∷ Tests 1 2 1 0 2 None
          ∷ Broken [] (Neighbourhood 1 2 0) (Some (0, 0))
          ∷ Broken (Snake 0 1 ∷ []) (Neighbourhood 1 2 0) (Some (2, 1))
          ∷ [];
    }
    -- G
    ∷ record { sheet = problem (2 ∷ 2 ∷ 2 ∷ 2 ∷ []) twin; claims = Runs (Triangle 3 0 ∷ []) Rest ∷ [] }
    -- H
    ∷ record { sheet = problem (3 ∷ 2 ∷ 2 ∷ []) third; claims = Runs (Neighbourhood 0 0 2 ∷ []) Rest ∷ [] }
    -- a slide that is lawful by the rule of before too
    ∷ record {
      sheet = problem (2 ∷ 2 ∷ []) steps;
      claims = Follows (SnakeSubstitution 0 0 1 ∷ []) true ∷ FollowedBefore (SnakeSubstitution 0 0 1 ∷ []) true
          ∷ Undone (SnakeSubstitution 0 0 1 ∷ []) (1 ∷ 1 ∷ []) (1 ∷ 1 ∷ []) ∷ [];
    }
    -- K: a slide in a run, which by the rule of before took no step
    ∷ record {
      sheet = problem (3 ∷ 2 ∷ 2 ∷ []) (words (1 ∷ 2 ∷ 1 ∷ []) (2 ∷ 1 ∷ 1 ∷ []) (2 ∷ 3 ∷ []));
      claims =
          Runs (SnakeSubstitution 0 2 0 ∷ Triangle 1 0 ∷ Snake 0 0 ∷ Snake 2 0 ∷ []) Solved ∷ RanBefore []
          ∷ Undone (SnakeSubstitution 0 2 0 ∷ Triangle 1 0 ∷ Snake 0 0 ∷ Snake 2 0 ∷ []) (255 ∷ 255 ∷ 255 ∷ []) (0 ∷ 0 ∷ 1 ∷ [])
          ∷ [];
    }
    -- L: a bare step after a slide
    ∷ record {
      sheet = problem (3 ∷ 3 ∷ 2 ∷ []) (words (6 ∷ 1 ∷ 4 ∷ []) (1 ∷ 1 ∷ 3 ∷ []) (1 ∷ 3 ∷ 2 ∷ []));
      claims =
          Runs (SnakeSubstitution 0 1 0 ∷ Unsupported 1 0 0 ∷ []) Rest ∷ RanBefore []
          ∷ Left (SnakeSubstitution 0 1 0 ∷ Unsupported 1 0 0 ∷ []) ((0 ∷ 2 ∷ []) ∷ (1 ∷ 2 ∷ []) ∷ (0 ∷ 1 ∷ []) ∷ [])
          ∷ [];
    }
    -- the lowest of several fitting choices
    ∷ record {
      sheet = problem (3 ∷ 3 ∷ []) unequal;
      claims = Undone (Snake 0 0 ∷ []) (255 ∷ 0 ∷ []) (0 ∷ 1 ∷ []) ∷ Undone (Triangle 0 1 ∷ []) (255 ∷ 0 ∷ []) (1 ∷ 0 ∷ []) ∷ [];
    }
    -- a fold that holds only once an item is out
    ∷ record {
      sheet = problem (2 ∷ 2 ∷ 2 ∷ []) folded;
      claims =
          Follows (Snake 2 0 ∷ Triangle 1 0 ∷ []) true ∷ Follows (Triangle 1 0 ∷ []) false
          ∷ Undone (Snake 2 0 ∷ Triangle 1 0 ∷ []) (0 ∷ 255 ∷ 255 ∷ []) (0 ∷ 0 ∷ 0 ∷ [])
          ∷ [];
    }
    -- the removal elsewhere
    ∷ record { sheet = problem (1 ∷ 2 ∷ []) lone; claims = Left (Snake 0 0 ∷ []) ([] ∷ (0 ∷ []) ∷ []) ∷ FromFull 0 (Eliminated 0) ∷ [] }
    ∷ []
