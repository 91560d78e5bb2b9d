-- Loops that store entries from the front of a list, and lists whose entries are all alike. Assumes nothing.
use mathlib.Core.Path.{◌≡◌, refl, sym, ap, ◌∙◌, subst}
use mathlib.Core.List.{List}
use Prim.Native.Nat.{ℕ, zero, suc, ◌+◌, ◌≤◌, ◌<◌}
use native.Mathlib.Nat.{zero-add}
use native.Mathlib.Omega.{arith}
use lib.ListN.{length, get_or, set, replicate, length-replicate}
use Rattle.problem.specs.Held.{place_at}
use Rattle.sheet.specs.Sheet.{layout}
use Rattle.sheet.specs.Relation.{size_of}
use Rattle.table.specs.Parts.{Wrote, HasPlaces, Blank}
use Rattle.table.proofs.Stores.{wrote_more}
use Rattle.table.proofs.Blank.{blank_shows}
use Rattle.read_sheet.specs.Reading.{Clear, Free}

module _ (n : ℕ) (t u : List ℕ) (f : ℕ → ℕ) (w : Wrote n t u 0 f) where
  pub first_there : (k : ℕ) → k < n → get_or u k 0 ≡ f k
  first_there k l = ap (λ (j : ℕ). get_or u j 0) (sym (zero-add k)) ∙ w.there k l

  pub first_rest : (k : ℕ) → n ≤ k → get_or u k 0 ≡ get_or t k 0
  first_rest k l = w.above k (omega arith)

  -- one entry more
  pub first_more : (x : ℕ) → n < length t → x ≡ f n → Wrote (n + 1) t (set u n x) 0 f
  first_more x l e = subst (λ (k : ℕ). Wrote (n + 1) t (set u k x) 0 f) (zero-add n) (wrote_more n t u 0 f x (omega arith) e w)

zeros : (n a : ℕ) → ◌≡◌ {A = ℕ} (get_or (replicate n 0) a 0) 0
zeros zero a = refl
zeros (suc n) zero = refl
zeros (suc n) (suc a) = zeros n a

-- a local of 16 zeros
pub clear_local : Clear (replicate 16 0)
clear_local = record { long = length-replicate {A = ℕ} 16 0; each = zeros 16 }

-- a blank table with the places and the sizes
pub free_table : (s t u v : List ℕ) → Blank t → HasPlaces t u → Wrote 32 u v 0 (size_of layout s) → Free s v
free_table s t u v b p w =
    record {
      located = record { long = w.long ∙ p.located.long; places = λ i j li lj. first_rest 32 u v _ w (place_at i j) (omega arith) ∙ p.located.places i j li lj };
      sizes = first_there 32 u v _ w;
      free = blank_shows v (λ q l m. first_rest 32 u v _ w q (omega arith) ∙ p.rest q l ∙ b.each q m);
    }
