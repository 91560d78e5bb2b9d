-- Exported putting back, from what the job answers; what its refusal carries has room. Assumes nothing.
use mathlib.Core.Path.{◌≡◌, sym, ◌∙◌}
use mathlib.Core.List.{List}
use Prim.Native.Nat.{ℕ, ◌<◌}
use Rattle.put_back.specs.PutBack.{put_back_job}
use Rattle.put_back.specs.Call.{back_number, put_back_call, unlawful_fields, FieldsFit}
use native.Mathlib.Omega.{arith}
use Rattle.put_back.specs.declared.PutBackRefusal.{PutBackRefusal}
use Rattle.put_back.specs.declared.PutBackRefusal.TheVariants as refusal
use Rattle.put_back.specs.Numbers.{put_back_refusal_number, PutBackOutcome}
use Rattle.boundary.proofs.Answers.{Listed, sheet_listed}

pub back_says : (s t p b : List ℕ) (x : PutBackOutcome) (w : List ℕ) → x ≡ (put_back_job s t p b).answer → w ≡ (put_back_job s t p b).result
    → (o : PutBackOutcome) → x ≡ o → record { answer = back_number o; result = w } ≡ put_back_call s t p b
unfolding put_back_call
back_says s t p b x w a f o q = λ j. record { answer = back_number ((sym q ∙ a) j); result = f j }

-- what a refusal carries has room above the low byte
pub fields_small : (r : PutBackRefusal) → FieldsFit r → unlawful_fields r < 4294967296
fields_small (refusal.Unlawful k l c) x = omega arith
fields_small (refusal.Sheet r) x = omega arith
fields_small refusal.PlanLength x = omega arith
fields_small refusal.ResultLength x = omega arith
fields_small refusal.TraceFront x = omega arith
fields_small refusal.Malformed x = omega arith
fields_small refusal.Plan x = omega arith

-- a number of the format's table
pub put_back_listed : (r : PutBackRefusal) → Listed (put_back_refusal_number r)
put_back_listed (refusal.Sheet r) = sheet_listed r
put_back_listed refusal.PlanLength = (omega arith, omega arith)
put_back_listed refusal.ResultLength = (omega arith, omega arith)
put_back_listed refusal.TraceFront = (omega arith, omega arith)
put_back_listed refusal.Malformed = (omega arith, omega arith)
put_back_listed (refusal.Unlawful k l c) = (omega arith, omega arith)
put_back_listed refusal.Plan = (omega arith, omega arith)
