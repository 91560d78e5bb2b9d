-- A record is its kind and its fields, and what its kind's number says. Assumes nothing.
use Rattle.std.specs.Prelude.{Some, None}
use mathlib.Core.Path.{◌≡◌, refl, sym, ap, ◌∙◌, subst}
use mathlib.Core.List.{List, [], ◌∷◌, ◌++◌, append-nil}
use mathlib.Core.Logic.{◌⊎◌, inl, inr}
use Prim.Native.Nat.{ℕ, zero, suc, ◌≤◌, ◌<◌}
use native.Mathlib.Omega.{arith}
use lib.ListN.{length, get_or}
use Rattle.problem.specs.Record.{kind_of, fields_of, effect_of, record_of, item_of, third_of, fourth_of, parts_of}
use Rattle.problem.specs.Run.{kind_bound}
use Rattle.problem.specs.declared.Record.{Record}
use Rattle.problem.specs.declared.Record.TheVariants.{Unsupported, Snake, Triangle, Neighbourhood, SnakeSubstitution}
use Rattle.problem.specs.declared.Parts.{Parts}
use Rattle.problem.specs.declared.Effect.TheVariants.{Eliminates}

none : ◌≡◌ {A = ℕ} 0 1 → ⊥
none e = omega arith

same : {x y : Record} → Some x ≡ Some y → x ≡ y
same e = cc

-- ---- the kind's number

-- a record is the one that its kind and its fields make, whatever stands after them
pub kind_fields : (r : Record) (more : List ℕ) → record_of (kind_of r) (get_or (fields_of r ++ more) 0 0) (get_or (fields_of r ++ more) 1 0) (get_or (fields_of r ++ more) 2 0) ≡ Some r
unfolding record_of
kind_fields (Unsupported i b k) more = refl
kind_fields (Snake i v) more = refl
kind_fields (Triangle i j) more = refl
kind_fields (Neighbourhood i b a) more = refl
kind_fields (SnakeSubstitution i b a) more = refl

pub kind_record : (r : Record) → record_of (kind_of r) (item_of r) (third_of r) (fourth_of r) ≡ Some r
kind_record r = subst (λ (l : List ℕ). record_of (kind_of r) (get_or l 0 0) (get_or l 1 0) (get_or l 2 0) ≡ Some r) (append-nil (fields_of r)) (kind_fields r [])

-- and back: what a number makes of fields has the number for its kind and these fields, of which it may take no third
abbrev pub Made : (k i x y : ℕ) → Record → Type 0
Made k i x y r = (kind_of r ≡ k) × ((fields_of r ≡ i ∷ x ∷ []) ⊎ (fields_of r ≡ i ∷ x ∷ y ∷ []))

pub record_made : (k i x y : ℕ) (r : Record) → record_of k i x y ≡ Some r → Made k i x y r
unfolding record_of
record_made zero i x y r e = absurd (none cc)
record_made (suc zero) i x y r e = subst (Made 1 i x y) (same e) (refl, inr refl)
record_made (suc (suc zero)) i x y r e = subst (Made 2 i x y) (same e) (refl, inl refl)
record_made (suc (suc (suc zero))) i x y r e = subst (Made 3 i x y) (same e) (refl, inl refl)
record_made (suc (suc (suc (suc zero)))) i x y r e = subst (Made 4 i x y) (same e) (refl, inr refl)
record_made (suc (suc (suc (suc (suc zero))))) i x y r e = subst (Made 5 i x y) (same e) (refl, inr refl)
record_made (suc (suc (suc (suc (suc (suc k)))))) i x y r e = absurd (none cc)

-- a record is its kind and its fields
pub same_record : (x y : Record) → kind_of x ≡ kind_of y → item_of x ≡ item_of y → third_of x ≡ third_of y → fourth_of x ≡ fourth_of y → x ≡ y
same_record x y k i b c = cc (kind_record x, kind_record y)

-- no kind has another number
pub no_kind : (k i x y : ℕ) → (k ≡ 1 → ⊥) → (k ≡ 2 → ⊥) → (k ≡ 3 → ⊥) → (k ≡ 4 → ⊥) → (k ≡ 5 → ⊥) → None ≡ record_of k i x y
unfolding record_of
no_kind zero i x y a b c d e = refl
no_kind (suc zero) i x y a b c d e = absurd (a refl)
no_kind (suc (suc zero)) i x y a b c d e = absurd (b refl)
no_kind (suc (suc (suc zero))) i x y a b c d e = absurd (c refl)
no_kind (suc (suc (suc (suc zero)))) i x y a b c d e = absurd (d refl)
no_kind (suc (suc (suc (suc (suc zero))))) i x y a b c d e = absurd (e refl)
no_kind (suc (suc (suc (suc (suc (suc k)))))) i x y a b c d e = refl

-- the kinds that the search goes through
pub kind_within : (x : Record) → (0 < kind_of x) × (kind_of x < kind_bound)
kind_within (Unsupported i b k) = (omega arith, omega arith)
kind_within (Snake i v) = (omega arith, omega arith)
kind_within (Triangle i j) = (omega arith, omega arith)
kind_within (Neighbourhood i b a) = (omega arith, omega arith)
kind_within (SnakeSubstitution i b a) = (omega arith, omega arith)

-- ---- its fields

-- there are two, or three
pub fields_are : (r : Record) → (fields_of r ≡ item_of r ∷ third_of r ∷ []) ⊎ (fields_of r ≡ item_of r ∷ third_of r ∷ fourth_of r ∷ [])
fields_are r = (record_made (kind_of r) (item_of r) (third_of r) (fourth_of r) r (kind_record r)).1

pub fields_few : (r : Record) → (2 ≤ length (fields_of r)) × (length (fields_of r) ≤ 3)
fields_few r = elim (fields_are r) [ inl e ↦ let l = ap length e in (omega arith, omega arith) | inr e ↦ let l = ap length e in (omega arith, omega arith) ]

-- the same of its parts
pub parts_few : (x : Parts) (r : Record) → x ≡ parts_of r → (x.count ≡ length (fields_of r)) × (2 ≤ x.count) × (x.count ≤ 3)
parts_few x r e = let n = ap (λ (y : Parts). y.count) e in let l = fields_few r in (n, omega (arith, n), omega (arith, n))

pub parts_two : (x : Parts) (r : Record) → x ≡ parts_of r → x.count ≡ 2 → x.item ∷ x.third ∷ [] ≡ fields_of r
parts_two x r e n = (λ t. (e t).item ∷ (e t).third ∷ []) ∙ sym (elim (fields_are r) [ inl f ↦ f | inr f ↦ let l = ap length f in let m = (parts_few x r e).0 in absurd (omega arith) ])

pub parts_three : (x : Parts) (r : Record) → x ≡ parts_of r → (x.count ≡ 2 → ⊥) → x.item ∷ x.third ∷ x.fourth ∷ [] ≡ fields_of r
parts_three x r e n = (λ t. (e t).item ∷ (e t).third ∷ (e t).fourth ∷ []) ∙ sym (elim (fields_are r) [ inl f ↦ let l = ap length f in let m = (parts_few x r e).0 in absurd (n (omega arith)) | inr f ↦ f ])

-- ---- what its step does

-- kind 1 eliminates no variable
pub eliminates_later : (r : Record) (i : ℕ) → effect_of r ≡ Eliminates i → 1 < kind_of r
eliminates_later (Unsupported i b k) j e = absurd (none cc)
eliminates_later (Snake i v) j e = omega arith
eliminates_later (Triangle i k) j e = omega arith
eliminates_later (Neighbourhood i b a) j e = omega arith
eliminates_later (SnakeSubstitution i b a) j e = omega arith
