-- The starred bench sheets of the format, and rows for what no run shows, as bytes: one table, whose one statement is
-- proofs/Starred.antt.
use Rattle.std.specs.Prelude.{◌≡◌, Bool, true, false, List, [], ◌∷◌, ◌++◌, ℕ, ◌-◌, length, Err, Ok}
use Rattle.problem.specs.Problem.{Problem, State, full, snake}
use Rattle.problem.specs.Run.{after_trace}
use Rattle.problem.specs.Hand.{start}
use Rattle.problem.specs.Solutions.{solution_count, solvable}
use Rattle.problem.specs.declared.Masks.{Masks}
use Rattle.problem.specs.declared.Record.{Record}
use Rattle.problem.specs.declared.Record.TheVariants.{Snake}
use Rattle.problem.specs.declared.End.{End}
use Rattle.problem.specs.declared.End.TheVariants.{Impossible, Solved, Rest}
use Rattle.sheet.specs.Sheet.{layout}
use Rattle.sheet.specs.Relation.{problem_of}
use Rattle.run.specs.Numbers.{run_number, ran}
use Rattle.hand.specs.Numbers.{call_number}
use Rattle.put_back.specs.Numbers.{put_back_number}
use Rattle.run.specs.Run.{run_job}
use Rattle.hand.specs.Hand.{hand_of, call_job}
use Rattle.put_back.specs.PutBack.{put_back_job}
use Rattle.put_back.specs.declared.PutBackRefusal.TheVariants as refusal
use Rattle.jobs.specs.Sheets.{lent, masks, sheet_a, sheet_b, sheet_c, sheet_d, sheet_e, sheet_f, sheet_g, sheet_h, sheet_slide, sheet_k, sheet_l, sheet_choice, sheet_fold, sheet_elsewhere, short_a, short_b, short_c, short_d, short_e, short_f, short_g, short_h, short_slide, short_k, short_l, short_choice, short_fold, short_elsewhere}

-- what a row claims of its sheet
pub data Claim : Type 0 where
  -- a run with a buffer of so many bytes: the trace, the end, the steps and the last state, with the old bytes after the trace
  Runs : (buffer : ℕ) (trace : List ℕ) (end : End) (steps : ℕ) (last : Masks) → Claim
  -- a run with a buffer of so many bytes is refused, and the buffer is as it was
  NotRun : (buffer number : ℕ) → Claim
  -- whether the full sheet has a plan
  HasPlan : Bool → Claim
  -- how many plans there are after these records
  Plans : List Record → ℕ → Claim
  -- whether the snake rule holds in the full state for an item with a setting
  Serves : (i v : ℕ) → Bool → Claim
  -- a hand call from the start, or from the full state, that is refused: the number, and the state as it was
  NotTaken : (fromStart : Bool) (i number : ℕ) → Claim
  -- a hand call from the full state that is accepted: the setting and the new state
  Taken : (i v : ℕ) → Masks → Claim
  -- putting back from a trace and a plan: the result
  PutBack : (trace plan result : List ℕ) → Claim
  -- putting back that is refused, the result buffer being as it was
  NotPutBack : (trace plan : List ℕ) (number : ℕ) → Claim
  -- the same by 17, which names this record, and this item and setting or 255 for both
  NotLawful : (trace plan : List ℕ) (k l c : ℕ) → Claim

abbrev pub from : Bool → Problem → State
from true P = start P
from false P = full P

abbrev pub Meets : List ℕ → Claim → Type 0
Meets s (Runs b t e k m) =
    run_job s (lent b)
    ≡ record {
      answer = record { outcome = ran e k (length t); state = m };
      buffer = t ++ lent (b - length t);
    }
Meets s (NotRun b k) = (run_number (run_job s (lent b)).answer.outcome ≡ k) × ((run_job s (lent b)).buffer ≡ lent b)
Meets s (HasPlan b) = solvable (problem_of layout s) (full (problem_of layout s)) ≡ b
Meets s (Plans t k) = solution_count (problem_of layout s) (after_trace (problem_of layout s) (full (problem_of layout s)) t) ≡ k
Meets s (Serves i v b) = snake (problem_of layout s) (full (problem_of layout s)) i v ≡ b
Meets s (NotTaken b i k) =
    (call_number (call_job s (hand_of (from b (problem_of layout s))) i).outcome ≡ k)
    × ((call_job s (hand_of (from b (problem_of layout s))) i).state ≡ hand_of (from b (problem_of layout s)))
Meets s (Taken i v m) = call_job s (hand_of (full (problem_of layout s))) i ≡ record { outcome = Ok v; state = record { masks = m } }
Meets s (PutBack t p q) = put_back_job s t p (lent (length p)) ≡ record { answer = Ok tt; result = q }
Meets s (NotPutBack t p k) = (put_back_number (put_back_job s t p (lent (length p))).answer ≡ k) × ((put_back_job s t p (lent (length p))).result ≡ lent (length p))
Meets s (NotLawful t p k l c) =
    (put_back_number (put_back_job s t p (lent (length p))).answer ≡ 17)
    × (put_back_job s t p (lent (length p)) ≡ record { answer = Err (refusal.Unlawful k l c); result = lent (length p) })

abbrev pub AllMeet : List ℕ → List Claim → Type 0
AllMeet s [] = Unit {0}
AllMeet s (c ∷ l) = Meets s c × AllMeet s l

-- a sheet, the same sheet in version 2, and what is claimed of both
pub record Row : Type 0 where
  pub sheet : List ℕ
  pub shorter : List ℕ
  pub claims : List Claim

abbrev pub AllRows : List Row → Type 0
AllRows [] = Unit {0}
AllRows (r ∷ l) = AllMeet r.sheet r.claims × (AllMeet r.shorter r.claims × AllRows l)

-- ---- the table

abbrev pub rows : List Row
rows =
    record { sheet = sheet_a; shorter = short_a; claims = Runs 11 (1 ∷ 3 ∷ 2 ∷ 0 ∷ 0 ∷ []) Solved 1 (masks 0 []) ∷ HasPlan true ∷ [] }
    ∷ record {
      sheet = sheet_b;
      shorter = short_b;
      claims =
          Runs 21 (1 ∷ 3 ∷ 2 ∷ 0 ∷ 0 ∷ 3 ∷ 2 ∷ 1 ∷ 0 ∷ []) Solved 2 (masks 0 [])
          ∷ NotRun 20 10
          ∷ HasPlan true
          ∷ PutBack (1 ∷ 3 ∷ 2 ∷ 0 ∷ 0 ∷ 3 ∷ 2 ∷ 1 ∷ 0 ∷ []) (255 ∷ 255 ∷ []) (0 ∷ 1 ∷ [])
          ∷ PutBack (1 ∷ 4 ∷ 5 ∷ 0 ∷ 0 ∷ 1 ∷ []) (1 ∷ 0 ∷ []) (1 ∷ 0 ∷ [])
          ∷ NotPutBack (1 ∷ 4 ∷ 5 ∷ 0 ∷ 0 ∷ 1 ∷ []) (1 ∷ 1 ∷ []) 19
          ∷ [];
    }
    -- C, and I and J, which are jobs on C
    ∷ record {
      sheet = sheet_c;
      shorter = short_c;
      claims =
          Runs 31 (1 ∷ []) Rest 0 (masks 7 (3 ∷ 3 ∷ 3 ∷ []))
          ∷ HasPlan false
          ∷ NotTaken true 0 14
          ∷ NotTaken true 3 12
          ∷ NotPutBack (1 ∷ []) (0 ∷ 1 ∷ 0 ∷ []) 19
          ∷ NotLawful (1 ∷ 4 ∷ 5 ∷ 0 ∷ 0 ∷ 1 ∷ []) (1 ∷ 1 ∷ 1 ∷ []) 0 255 255
          ∷ [];
    }
    ∷ record {
      sheet = sheet_d;
      shorter = short_d;
      claims = Runs 11 (1 ∷ 4 ∷ 1 ∷ 0 ∷ 0 ∷ 1 ∷ []) Impossible 1 (masks 3 (0 ∷ 1 ∷ [])) ∷ HasPlan false ∷ NotTaken true 0 13 ∷ [];
    }
    ∷ record {
      sheet = sheet_e;
      shorter = short_e;
      claims =
          Runs 41 (1 ∷ 3 ∷ 2 ∷ 0 ∷ 0 ∷ 3 ∷ 2 ∷ 1 ∷ 0 ∷ 3 ∷ 2 ∷ 2 ∷ 0 ∷ 3 ∷ 2 ∷ 3 ∷ 0 ∷ []) Solved 4 (masks 0 [])
          ∷ Plans [] 2
          ∷ Plans (Snake 0 0 ∷ []) 8
          ∷ [];
    }
    ∷ record {
      sheet = sheet_f;
      shorter = short_f;
      claims =
          Runs 46 (1 ∷ 3 ∷ 2 ∷ 0 ∷ 1 ∷ 3 ∷ 2 ∷ 1 ∷ 0 ∷ 3 ∷ 2 ∷ 2 ∷ 0 ∷ []) Solved 3 (masks 0 [])
          ∷ Serves 0 0 false
          ∷ PutBack (1 ∷ 3 ∷ 2 ∷ 0 ∷ 1 ∷ 3 ∷ 2 ∷ 1 ∷ 0 ∷ 3 ∷ 2 ∷ 2 ∷ 0 ∷ []) (255 ∷ 255 ∷ 255 ∷ []) (1 ∷ 0 ∷ 0 ∷ [])
          ∷ [];
    }
    ∷ record { sheet = sheet_g; shorter = short_g; claims = Runs 41 (1 ∷ 3 ∷ 3 ∷ 3 ∷ 0 ∷ []) Rest 1 (masks 7 (3 ∷ 3 ∷ 3 ∷ [])) ∷ HasPlan false ∷ [] }
    ∷ record { sheet = sheet_h; shorter = short_h; claims = Runs 36 (1 ∷ 4 ∷ 4 ∷ 0 ∷ 0 ∷ 2 ∷ []) Rest 1 (masks 7 (6 ∷ 3 ∷ 3 ∷ [])) ∷ HasPlan false ∷ [] }
    ∷ record { sheet = sheet_slide; shorter = short_slide; claims = PutBack (1 ∷ 4 ∷ 5 ∷ 0 ∷ 0 ∷ 1 ∷ []) (1 ∷ 1 ∷ []) (1 ∷ 1 ∷ []) ∷ [] }
    ∷ record {
      sheet = sheet_k;
      shorter = short_k;
      claims =
          Runs 36 (1 ∷ 4 ∷ 5 ∷ 0 ∷ 2 ∷ 0 ∷ 3 ∷ 3 ∷ 1 ∷ 0 ∷ 3 ∷ 2 ∷ 0 ∷ 0 ∷ 3 ∷ 2 ∷ 2 ∷ 0 ∷ []) Solved 4 (masks 0 [])
          ∷ PutBack (1 ∷ 4 ∷ 5 ∷ 0 ∷ 2 ∷ 0 ∷ 3 ∷ 3 ∷ 1 ∷ 0 ∷ 3 ∷ 2 ∷ 0 ∷ 0 ∷ 3 ∷ 2 ∷ 2 ∷ 0 ∷ []) (255 ∷ 255 ∷ 255 ∷ []) (0 ∷ 0 ∷ 1 ∷ [])
          ∷ [];
    }
    ∷ record {
      sheet = sheet_l;
      shorter = short_l;
      claims =
          Runs 41 (1 ∷ 4 ∷ 5 ∷ 0 ∷ 1 ∷ 0 ∷ 4 ∷ 1 ∷ 1 ∷ 0 ∷ 0 ∷ []) Rest 2 (masks 7 (5 ∷ 6 ∷ 3 ∷ []))
          ∷ [];
    }
    ∷ record {
      sheet = sheet_choice;
      shorter = short_choice;
      claims =
          PutBack (1 ∷ 3 ∷ 2 ∷ 0 ∷ 0 ∷ []) (255 ∷ 0 ∷ []) (0 ∷ 1 ∷ [])
          ∷ PutBack (1 ∷ 3 ∷ 3 ∷ 0 ∷ 1 ∷ []) (255 ∷ 0 ∷ []) (1 ∷ 0 ∷ [])
          ∷ [];
    }
    ∷ record {
      sheet = sheet_fold;
      shorter = short_fold;
      claims =
          PutBack (1 ∷ 3 ∷ 2 ∷ 2 ∷ 0 ∷ 3 ∷ 3 ∷ 1 ∷ 0 ∷ []) (0 ∷ 255 ∷ 255 ∷ []) (0 ∷ 0 ∷ 0 ∷ [])
          ∷ NotLawful (1 ∷ 3 ∷ 3 ∷ 1 ∷ 0 ∷ []) (0 ∷ 255 ∷ 0 ∷ []) 0 255 255
          ∷ [];
    }
    ∷ record {
      sheet = sheet_elsewhere;
      shorter = short_elsewhere;
      claims = NotPutBack (1 ∷ 3 ∷ 2 ∷ 0 ∷ 0 ∷ []) (255 ∷ 1 ∷ []) 19 ∷ Taken 0 0 (masks 2 (0 ∷ 1 ∷ [])) ∷ [];
    }
    ∷ []
