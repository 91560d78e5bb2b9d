-- What the number of exported putting back tells: its low byte is the number of a refusal, and then the result's buffer is as it was, or 0; what
-- 17 carries comes back; and, whoever wrote the trace, what the demands ask. Assumes nothing.
use mathlib.Core.Path.{◌≡◌, refl, sym, ap, ◌∙◌}
use mathlib.Core.List.{List}
use Prim.Native.Nat.{ℕ, ◌/◌, ◌%◌}
use native.Mathlib.Omega.{arith}
use Rattle.problem.specs.Problem.{full}
use Rattle.problem.specs.Run.{lawful_trace, after_trace}
use Rattle.sheet.specs.Sheet.{layout, variables_of, Keeps}
use Rattle.sheet.specs.Relation.{problem_of}
use Rattle.put_back.specs.PutBack.{put_back_job, plan_fits}
use Rattle.std.specs.Prelude.{Err, Ok}
use Rattle.put_back.specs.declared.PutBackRefusal.{PutBackRefusal}
use Rattle.put_back.specs.declared.PutBackRefusal.TheVariants as refusal
use Rattle.putting_back.proofs.Unlawful.{unlawful_small, UnlawfulRecord, unlawful_names}
use Rattle.put_back.specs.Call.{BackFits, FieldsFit, PutBackCall, back_number, put_back_call}
use mathlib.Core.Logic.{◌⊎◌, inl, inr, ◌≢◌, ◌↔◌}
use lib.ListN.{length}
use Rattle.put_back.specs.Numbers.{put_back_number, PutBackOutcome}
use Rattle.put_back.proofs.Unaltered.{put_back_unaltered}
use lib.Dec.{T}
use Rattle.problem.specs.PutBack.{solves_whole, plan_of}
use Rattle.problem.specs.declared.Record.{Record}
use Rattle.trace.specs.Trace.{trace_bytes}
use Rattle.jobs.proofs.Opened.{variables_of_lem}
use Rattle.putting_back.proofs.Causes.{put_back_iff, put_back_17}
use Rattle.put_back.specs.Causes.{BackCause}
use Rattle.putting_back.proofs.Demands.{put_back_accepted, put_back_plan}
use Rattle.boundary.proofs.Answers.{Refuses, refused_keeps, taken_iff}
use Rattle.put_back.proofs.Call.{back_says, put_back_listed}

pub back_small : (s t p b : List ℕ) (r : PutBackRefusal) → (put_back_job s t p b).answer ≡ Err r → FieldsFit r
back_small s t p b (refusal.Unlawful k l c) e = let x = unlawful_small s t p b k l c e in (omega arith, omega arith, omega arith)
back_small s t p b (refusal.Sheet r) e = tt
back_small s t p b refusal.PlanLength e = tt
back_small s t p b refusal.ResultLength e = tt
back_small s t p b refusal.TraceFront e = tt
back_small s t p b refusal.Malformed e = tt
back_small s t p b refusal.Plan e = tt

-- what the job answers fits its bits
pub back_fits : (s t p b : List ℕ) → BackFits (put_back_job s t p b).answer
back_fits s t p b = go (put_back_job s t p b).answer refl
  where
    go : (o : PutBackOutcome) → (put_back_job s t p b).answer ≡ o → BackFits o
    go (Ok _) e = tt
    go (Err r) e = back_small s t p b r e

module _ (s t p b : List ℕ) where
  abbrev pub BackTaken : Type 0
  BackTaken = (put_back_job s t p b).answer ≡ Ok tt

  abbrev BackKept : Type 0
  BackKept = (put_back_call s t p b).result ≡ b

  back_says_of : (o : PutBackOutcome) → (put_back_job s t p b).answer ≡ o → (put_back_call s t p b).answer ≡ back_number o
  back_says_of o e = sym (ap (λ (y : PutBackCall). y.answer) (back_says s t p b _ _ refl refl o e))

  -- the low byte is the refusal's number, 0 where there is none
  pub put_back_number_lem : (put_back_call s t p b).answer % 256 ≡ put_back_number (put_back_job s t p b).answer
  put_back_number_lem = go (put_back_job s t p b).answer refl
    where
      go : (o : PutBackOutcome) → (put_back_job s t p b).answer ≡ o → (put_back_call s t p b).answer % 256 ≡ put_back_number o
      go (Ok _) e = let q = back_says_of (Ok tt) e in omega arith
      go (Err r) e = let q = back_says_of (Err r) e in let f = put_back_listed r in omega arith

  -- 17: the record's number, the item and the setting come back
  pub unlawful_unpacked : (k l c : ℕ) → (put_back_job s t p b).answer ≡ Err (refusal.Unlawful k l c)
      → ((put_back_call s t p b).answer % 256 ≡ 17) × ((put_back_call s t p b).answer / 256 % 65536 ≡ k) × ((put_back_call s t p b).answer / 16777216 % 256 ≡ l)
      × ((put_back_call s t p b).answer / 4294967296 ≡ c)
  unlawful_unpacked k l c e =
      let q = back_says_of (Err (refusal.Unlawful k l c)) e in
      let f = back_small s t p b (refusal.Unlawful k l c) e in
      (omega arith, omega arith, omega arith, omega arith)

  -- every other answer has nothing above its low byte
  pub put_back_plain : (put_back_call s t p b).answer % 256 ≢ 17 → (put_back_call s t p b).answer ≡ (put_back_call s t p b).answer % 256
  put_back_plain d = go (put_back_job s t p b).answer refl
    where
      bare : (o : PutBackOutcome) → (put_back_job s t p b).answer ≡ o → back_number o ≡ put_back_number o → (put_back_call s t p b).answer ≡ (put_back_call s t p b).answer % 256
      bare o e f = back_says_of o e ∙ f ∙ ap put_back_number (sym e) ∙ sym put_back_number_lem

      go : (o : PutBackOutcome) → (put_back_job s t p b).answer ≡ o → (put_back_call s t p b).answer ≡ (put_back_call s t p b).answer % 256
      go (Ok _) e = bare (Ok tt) e refl
      go (Err (refusal.Unlawful k l c)) e = absurd (d (unlawful_unpacked k l c e).0)
      go (Err (refusal.Sheet r)) e = bare (Err (refusal.Sheet r)) e (omega arith)
      go (Err refusal.PlanLength) e = bare (Err refusal.PlanLength) e (omega arith)
      go (Err refusal.ResultLength) e = bare (Err refusal.ResultLength) e (omega arith)
      go (Err refusal.TraceFront) e = bare (Err refusal.TraceFront) e (omega arith)
      go (Err refusal.Malformed) e = bare (Err refusal.Malformed) e (omega arith)
      go (Err refusal.Plan) e = bare (Err refusal.Plan) e (omega arith)

  back_either : BackTaken ⊎ (Refuses ((put_back_call s t p b).answer % 256) × BackKept)
  back_either = go (put_back_job s t p b).answer refl
    where
      go : (o : PutBackOutcome) → (put_back_job s t p b).answer ≡ o → BackTaken ⊎ (Refuses ((put_back_call s t p b).answer % 256) × BackKept)
      go (Ok _) o = inl o
      go (Err r) o =
          let n = put_back_number_lem ∙ ap put_back_number o in
          let f = put_back_listed r in
          inr ((omega arith, omega arith), ap (λ (y : PutBackCall). y.result) (sym (back_says s t p b _ _ refl refl _ o)) ∙ put_back_unaltered s t p b r o)

  -- accepted: the answer is 0
  pub put_back_zero : BackTaken → (put_back_call s t p b).answer ≡ 0
  put_back_zero x = back_says_of (Ok tt) x

  back_even : BackTaken → (put_back_call s t p b).answer % 256 % 256 ≡ 0
  back_even x = let z = put_back_zero x in omega arith

  -- refused: the buffer is as it was
  pub put_back_refused_keeps : (put_back_call s t p b).answer % 256 ≢ 0 → (put_back_call s t p b).result ≡ b
  put_back_refused_keeps d = refused_keeps BackTaken BackKept _ back_either back_even (λ e. d (omega arith))

  -- the remainder is 0 exactly where the call is accepted
  pub put_back_taken : ((put_back_call s t p b).answer % 256 ≡ 0) ↔ BackTaken
  put_back_taken = (λ z. (taken_iff BackTaken BackKept _ back_either back_even).0 (omega arith), λ x. let z = put_back_zero x in omega arith)

-- ---- whoever wrote the trace

module _ (s t p r : List ℕ) where
  -- "putting back with a fault, and no other, is turned away": a caller tells by the answer
  pub put_back_asked : ((put_back_call s t p r).answer % 256 ≡ 0) ↔ BackCause s t p r (Ok tt)
  put_back_asked = (λ z. (put_back_iff s t p r (Ok tt)).0 ((put_back_taken s t p r).0 z), λ x. (put_back_taken s t p r).1 ((put_back_iff s t p r (Ok tt)).1 x))

  -- "Refusal 17 carries the record's number, from 0": where the low byte is 17, the bits above it say what they should of the trace
  pub put_back_unlawful : (put_back_call s t p r).answer % 256 ≡ 17
      → UnlawfulRecord (problem_of layout s) t ((put_back_call s t p r).answer / 256 % 65536) ((put_back_call s t p r).answer / 16777216 % 256) ((put_back_call s t p r).answer / 4294967296)
  put_back_unlawful h =
      let (k, l, c, x) = (put_back_17 s t p r).0 (sym (put_back_number_lem s t p r) ∙ h) in
      let e = (put_back_iff s t p r (Err (refusal.Unlawful k l c))).1 x in
      let q = unlawful_unpacked s t p r k l c e in
      rw (q.1, q.2, q.3) (unlawful_names s t p r k l c e).3

  -- "each plan of what is left is put back into a plan of the full sheet, whoever wrote the lawful trace"
  pub lawful_put_back : (u : List Record) → Keeps layout s → length p ≡ variables_of s → length r ≡ variables_of s
      → t ≡ trace_bytes u → T (lawful_trace (problem_of layout s) (full (problem_of layout s)) u)
      → T (plan_fits (problem_of layout s) (after_trace (problem_of layout s) (full (problem_of layout s)) u) p)
      → ((put_back_call s t p r).answer ≡ 0) × T (solves_whole (problem_of layout s) (plan_of (put_back_call s t p r).result))
  unfolding put_back_call
  lawful_put_back u K m n e l f =
      let d : (put_back_job s t p r).answer ≡ Ok tt = (put_back_iff s t p r (Ok tt)).1 (K, ((m ∙ sym (variables_of_lem s), n ∙ sym (variables_of_lem s)), (u, e, l, f))) in
      (put_back_zero s t p r d, put_back_plan (problem_of layout s) t p _ (put_back_accepted s t p r d).3)
