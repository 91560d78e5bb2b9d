-- Loops that store entries in a part of a table. Assumes nothing.
use mathlib.Core.Path.{◌≡◌, refl, sym, ap, ◌∙◌, subst}
use mathlib.Core.List.{List}
use mathlib.Core.Logic.{⊎_elim}
use Prim.Native.Nat.{ℕ, ◌+◌, ◌*◌, ◌<◌}
use native.Mathlib.Nat.{not-suc-le-zero}
use native.Mathlib.Numerals.{add-one}
use native.Mathlib.Omega.{arith}
use lib.ListN.{length, get_or, set, length-set}
use lib.Seq.{get_or-set_same, get_or-set_other}
use Rattle.bounded.proofs.Truth.{at_or_below}
use Rattle.problem.specs.Places.{place_list}
use Rattle.problem.specs.Held.{table_length}
use Rattle.places.proofs.Right.{places_right}
use Rattle.table.specs.Parts.{Wrote, HasPlaces}

pub wrote_none : (t : List ℕ) (p : ℕ) (f : ℕ → ℕ) → Wrote 0 t t p f
wrote_none t p f = record { long = refl; there = λ a l. absurd (not-suc-le-zero l); below = λ k l. refl; above = λ k l. refl }

-- one entry more
pub wrote_more : (n : ℕ) (t u : List ℕ) (p : ℕ) (f : ℕ → ℕ) (x : ℕ) → p + n < length t → x ≡ f n → Wrote n t u p f → Wrote (n + 1) t (set u (p + n) x) p f
wrote_more n t u p f x l e w =
    record {
      long = length-set u (p + n) x ∙ w.long;
      there = λ a m.
          ⊎_elim
          (λ q. subst (λ (b : ℕ). get_or (set u (p + n) x) (p + b) 0 ≡ f b) (sym q) (get_or-set_same u (p + n) x 0 (omega (arith, w.long)) ∙ e))
          (λ (q : a < n). get_or-set_other u (p + n) (p + a) x 0 (λ z. absurd (omega arith)) ∙ w.there a q)
          (at_or_below (rw add-one at m));
      below = λ k m. get_or-set_other u (p + n) k x 0 (λ z. absurd (omega arith)) ∙ w.below k m;
      above = λ k m. get_or-set_other u (p + n) k x 0 (λ z. absurd (omega arith)) ∙ w.above k (omega arith);
    }

-- all 1,024 entries of the list of places
pub wrote_places : (t u q : List ℕ) → length t ≡ table_length → q ≡ place_list → Wrote 1024 t u 32 (λ k. get_or q k 0) → HasPlaces t u
wrote_places t u q e p w =
    record {
      located = record { long = w.long ∙ e; places = λ i j li lj. w.there (32 * i + j) (omega arith) ∙ ap (λ (x : List ℕ). get_or x (32 * i + j) 0) p ∙ places_right i j li lj };
      sizes = λ k m. w.below k m;
      rest = λ k m. w.above k m;
    }
