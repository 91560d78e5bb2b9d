-- What exported putting back answers, as one number, and what it leaves in the result's buffer.
-- The low byte of the answer is the number of the refusal, from 1 to 255, or 0 where there is none. Above a refusal stands nothing, but what 17
-- carries.
use Rattle.std.specs.Prelude.{List, ℕ, ◌+◌, ◌*◌, ◌<◌, Err, Ok}
use Rattle.put_back.specs.Numbers.{put_back_refusal_number, PutBackOutcome}
use Rattle.put_back.specs.PutBack.{put_back_job}
use Rattle.put_back.specs.declared.PutBackRefusal.{PutBackRefusal}
use Rattle.put_back.specs.declared.PutBackRefusal.TheVariants as refusal

-- the answer and the result's buffer
pub record PutBackCall : Type 0 where
  pub answer : ℕ
  pub result : List ℕ

-- what 17 carries, and it alone: the record's number, the variable and the value
abbrev pub unlawful_fields : PutBackRefusal → ℕ
unlawful_fields (refusal.Unlawful k l c) = k + 65536 * (l + 256 * c)
unlawful_fields (refusal.Sheet r) = 0
unlawful_fields refusal.PlanLength = 0
unlawful_fields refusal.ResultLength = 0
unlawful_fields refusal.TraceFront = 0
unlawful_fields refusal.Malformed = 0
unlawful_fields refusal.Plan = 0

-- they have room: two bytes for the record's number, one each for the variable and the value
abbrev pub FieldsFit : PutBackRefusal → Type 0
FieldsFit (refusal.Unlawful k l c) = (k < 65536) × (l < 256) × (c < 256)
FieldsFit (refusal.Sheet r) = Unit {0}
FieldsFit refusal.PlanLength = Unit {0}
FieldsFit refusal.ResultLength = Unit {0}
FieldsFit refusal.TraceFront = Unit {0}
FieldsFit refusal.Malformed = Unit {0}
FieldsFit refusal.Plan = Unit {0}

abbrev pub BackFits : PutBackOutcome → Type 0
BackFits (Ok _) = Unit {0}
BackFits (Err r) = FieldsFit r

-- bits 0-7 the refusal; of 17, bits 8-23 the record's number, bits 24-31 the variable, bits 32-39 the value
abbrev pub back_number : PutBackOutcome → ℕ
back_number (Ok _) = 0
back_number (Err r) = put_back_refusal_number r + 256 * unlawful_fields r

-- the sheet s, the trace t, the plan p and the result's buffer b: the buffer is as the job leaves it
unfoldable pub put_back_call : (s t p b : List ℕ) → PutBackCall
put_back_call s t p b = record { answer = back_number (put_back_job s t p b).answer; result = (put_back_job s t p b).result }
