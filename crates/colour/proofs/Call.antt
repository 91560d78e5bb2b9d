-- What the number of the exported call tells: a refusal leaves the buffer as it was, everything else is a multiple of 256 from which the bytes
-- written come back. Stated over the definition that the contract cites. Assumes nothing.
use Rattle.std.specs.Prelude.{Ok, Err}
use mathlib.Core.Path.{◌≡◌, sym, ◌∙◌, refl, ap}
use mathlib.Core.List.{List}
use Prim.Native.Nat.{ℕ, ◌/◌, ◌%◌, ◌^◌, ◌≤◌, ◌<◌}
use Rattle.colour.specs.Colour.{Coloured, colour_job, colour_number}
use Rattle.colour.specs.Call.{colour_crossed, colour_call, ColourCall}
use mathlib.Core.Logic.{◌⊎◌, inl, inr, ◌≢◌, ◌↔◌}
use native.Mathlib.Omega.{arith}
use Rattle.boundary.proofs.Answers.{Refuses, refused_keeps, taken_iff, written_unpacked}
use Rattle.colour.specs.declared.ColourRefusal.{ColourRefusal}
use Rattle.colour.specs.declared.ColourRefusal.TheVariants as refusal
use Rattle.colour.proofs.Causes.{colour_unaltered}
use Rattle.colour.proofs.Plans.{colour_longest}

-- the job's answer x, which is o, and its buffer w
pub colour_says : (f : List ℕ) (k : ℕ) (b : List ℕ) (x : Coloured) (w : List ℕ) → x ≡ (colour_job f k b).answer → w ≡ (colour_job f k b).buffer
    → (o : Coloured) → x ≡ o → colour_crossed o w ≡ colour_call f k b
unfolding colour_call
colour_says f k b x w a l o q = λ j. colour_crossed ((sym q ∙ a) j) (l j)

-- a number of the format's table
pub colour_listed : (r : ColourRefusal) → (21 ≤ colour_number r) × (colour_number r ≤ 25)
colour_listed refusal.File = (omega arith, omega arith)
colour_listed refusal.Loop = (omega arith, omega arith)
colour_listed refusal.Count = (omega arith, omega arith)
colour_listed refusal.Range = (omega arith, omega arith)
colour_listed refusal.Buffer = (omega arith, omega arith)

module _ (f : List ℕ) (k : ℕ) (b : List ℕ) where
  -- accepted: the bytes written come back, and fit their bits; the buffer is the job's
  pub colour_unpacked : (w : ℕ) → (colour_job f k b).answer ≡ Ok w
      → ((colour_call f k b).answer % 256 ≡ 0) × ((colour_call f k b).answer / 256 ≡ w) × (w < 2 ^ 24) × ((colour_call f k b).sheet ≡ (colour_job f k b).buffer)
  colour_unpacked w o =
      let e = sym (colour_says f k b _ _ refl refl _ o) in
      let u = written_unpacked _ w (ap (λ (y : ColourCall). y.answer) e) (colour_longest f k b w o) in
      (u.0, u.1, u.2, ap (λ (y : ColourCall). y.sheet) e)

  abbrev pub ColourTaken : Type 0
  ColourTaken = (w : ℕ) × ((colour_job f k b).answer ≡ Ok w)

  abbrev pub ColourKept : Type 0
  ColourKept = ((r : ColourRefusal) × ((colour_job f k b).answer ≡ Err r) × ((colour_call f k b).answer ≡ colour_number r)) × ((colour_call f k b).sheet ≡ b)

  colour_either : ColourTaken ⊎ (Refuses (colour_call f k b).answer × ColourKept)
  colour_either = go (colour_job f k b).answer refl
    where
      go : (o : Coloured) → (colour_job f k b).answer ≡ o → ColourTaken ⊎ (Refuses (colour_call f k b).answer × ColourKept)
      go (Ok w) o = inl (w, o)
      go (Err r) o =
          let e = sym (colour_says f k b _ _ refl refl _ o) in
          let q = ap (λ (y : ColourCall). y.answer) e in
          let l = colour_listed r in
          inr ((omega arith, omega arith), ((r, o, q), ap (λ (y : ColourCall). y.sheet) e ∙ colour_unaltered f k b r o))

  colour_even : ColourTaken → (colour_call f k b).answer % 256 ≡ 0
  colour_even x = (colour_unpacked x.0 x.1).0

  -- refused: the answer is the refusal's number, and the buffer is as it was
  pub colour_refused_keeps : (colour_call f k b).answer % 256 ≢ 0 → ColourKept
  colour_refused_keeps = refused_keeps ColourTaken ColourKept _ colour_either colour_even

  -- the remainder is 0 exactly where the job wrote
  pub colour_taken : ((colour_call f k b).answer % 256 ≡ 0) ↔ ColourTaken
  colour_taken = taken_iff ColourTaken ColourKept _ colour_either colour_even
