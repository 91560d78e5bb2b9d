-- Two numbers at the front of a line: the digits read one after the other are its fields. Assumes nothing.
use mathlib.Core.Path.{◌≡◌, refl, sym, ap, ◌∙◌}
use mathlib.Core.Bool.{Bool, true, false, ◌&&◌, and-false}
use mathlib.Core.List.{List, [], ◌∷◌, ◌++◌, append-nil}
use mathlib.Core.Logic.{◌⊎◌, inl, inr, ⊎_elim, ◌≢◌}
use Prim.Native.Nat.{ℕ, zero, suc, ◌+◌, ◌≤◌, ◌<◌}
use native.Mathlib.Omega.{arith}
use lib.Dec.{eqb, leb}
use lib.ListN.{length, drop, get_or, length-append}
use borrow.Author.Tests.{leb-true, le-leb, eq-eqb, ne_eqb}
use Rattle.bounded.proofs.Truth.{both, eq_dec, lt_dec, clash}
use Rattle.graph.specs.Graph.{before, line_fields, is_digit, all_digits, is_number, decimal_of, two_numbers}
use Rattle.graph.specs.Scan.{line_in, digits_in}
use Rattle.graph.specs.declared.Line.{Line}
use Rattle.graph.specs.declared.Line.TheVariants.{Bad}
use Rattle.graph.proofs.Lines.{line_none, line_more}

-- ---- the first field of a text, and those after it

unfoldable first_field : List ℕ → List ℕ
first_field [] = []
first_field (x ∷ l) = elim (eqb x 32) [ true ↦ [] | false ↦ x ∷ first_field l ]

unfoldable more_fields : List ℕ → List (List ℕ)
more_fields [] = []
more_fields (x ∷ l) = elim (eqb x 32) [ true ↦ line_fields l | false ↦ more_fields l ]

first_space : (x : ℕ) (l : List ℕ) → eqb x 32 ≡ true → first_field (x ∷ l) ≡ []
unfolding first_field
first_space x l e = rw (e, first_field)

first_more : (x : ℕ) (l : List ℕ) → eqb x 32 ≡ false → first_field (x ∷ l) ≡ x ∷ first_field l
unfolding first_field
first_more x l e = rw (e, first_field)

more_space : (x : ℕ) (l : List ℕ) → eqb x 32 ≡ true → more_fields (x ∷ l) ≡ line_fields l
unfolding more_fields
more_space x l e = rw (e, more_fields)

more_more : (x : ℕ) (l : List ℕ) → eqb x 32 ≡ false → more_fields (x ∷ l) ≡ more_fields l
unfolding more_fields
more_more x l e = rw (e, more_fields)

pub fields_space : (x : ℕ) (l : List ℕ) → eqb x 32 ≡ true → line_fields (x ∷ l) ≡ [] ∷ line_fields l
unfolding line_fields
fields_space x l e = rw (e, line_fields)

pub fields_more : (x : ℕ) (l : List ℕ) → eqb x 32 ≡ false → line_fields (x ∷ l) ≡ before x (line_fields l)
unfolding line_fields
fields_more x l e = rw (e, line_fields)

fields_first : (l : List ℕ) → line_fields l ≡ first_field l ∷ more_fields l
unfolding line_fields first_field more_fields
fields_first [] = refl
fields_first (x ∷ l) = go (eqb x 32) refl (fields_first l)
  where
    go : (t : Bool) → eqb x 32 ≡ t → line_fields l ≡ first_field l ∷ more_fields l → line_fields (x ∷ l) ≡ first_field (x ∷ l) ∷ more_fields (x ∷ l)
    go true e ih = rw (first_space x l e, more_space x l e, fields_space x l e)
    go false e ih = rw (first_more x l e, more_more x l e, fields_more x l e) (ap (before x) ih)

-- ---- digits

digit_apart : (x c : ℕ) → is_digit x ≡ true → c < 48 → eqb x c ≡ false
digit_apart x c d h = let l = leb-true 48 x (both (leb 48 x) (leb x 57) d).0 in ne_eqb x c (λ e. omega arith)

pub digits_more : (m x : ℕ) (r : List ℕ) → is_digit x ≡ true → digits_in (suc m) (x ∷ r) ≡ x ∷ digits_in m r
unfolding digits_in
digits_more m x r e = rw (e, digits_in)

pub digits_stop : (m x : ℕ) (r : List ℕ) → is_digit x ≡ false → digits_in (suc m) (x ∷ r) ≡ []
unfolding digits_in
digits_stop m x r e = rw (e, digits_in)

-- the first field of the line begins with the digits, and goes on after them
first_digits : (m : ℕ) (r : List ℕ) → first_field (line_in r) ≡ digits_in m r ++ first_field (line_in (drop (length (digits_in m r)) r))
unfolding digits_in
first_digits zero r = refl
first_digits (suc m) [] = refl
first_digits (suc m) (x ∷ r) = go (is_digit x) refl (first_digits m r)
  where
    go : (t : Bool) → is_digit x ≡ t → first_field (line_in r) ≡ digits_in m r ++ first_field (line_in (drop (length (digits_in m r)) r)) → first_field (line_in (x ∷ r)) ≡ digits_in (suc m) (x ∷ r) ++ first_field (line_in (drop (length (digits_in (suc m) (x ∷ r))) (x ∷ r)))
    go true e ih =
        rw (digits_more m x r e, line_more x r (digit_apart x 10 e (omega arith)), first_more x (line_in r) (digit_apart x 32 e (omega arith)))
        (ap (λ (l : List ℕ). x ∷ l) ih)
    go false e ih = rw (digits_stop m x r e)

more_digits : (m : ℕ) (r : List ℕ) → more_fields (line_in r) ≡ more_fields (line_in (drop (length (digits_in m r)) r))
unfolding digits_in
more_digits zero r = refl
more_digits (suc m) [] = refl
more_digits (suc m) (x ∷ r) = go (is_digit x) refl (more_digits m r)
  where
    go : (t : Bool) → is_digit x ≡ t → more_fields (line_in r) ≡ more_fields (line_in (drop (length (digits_in m r)) r)) → more_fields (line_in (x ∷ r)) ≡ more_fields (line_in (drop (length (digits_in (suc m) (x ∷ r))) (x ∷ r)))
    go true e ih = rw (digits_more m x r e, line_more x r (digit_apart x 10 e (omega arith)), more_more x (line_in r) (digit_apart x 32 e (omega arith))) ih
    go false e ih = rw (digits_stop m x r e)

-- the line has the digits and what follows them
line_digits : (m : ℕ) (r : List ℕ) → length (line_in r) ≡ length (digits_in m r) + length (line_in (drop (length (digits_in m r)) r))
unfolding digits_in
line_digits zero r = omega arith
line_digits (suc m) [] = omega arith
line_digits (suc m) (x ∷ r) = go (is_digit x) refl (line_digits m r)
  where
    go : (t : Bool) → is_digit x ≡ t → length (line_in r) ≡ length (digits_in m r) + length (line_in (drop (length (digits_in m r)) r)) → length (line_in (x ∷ r)) ≡ length (digits_in (suc m) (x ∷ r)) + length (line_in (drop (length (digits_in (suc m) (x ∷ r))) (x ∷ r)))
    go true e ih = rw (digits_more m x r e, line_more x r (digit_apart x 10 e (omega arith))) (omega arith)
    go false e ih = rw (digits_stop m x r e) (omega arith)

digits_all : (m : ℕ) (r : List ℕ) → all_digits (digits_in m r) ≡ true
unfolding digits_in all_digits
digits_all zero r = refl
digits_all (suc m) [] = refl
digits_all (suc m) (x ∷ r) = go (is_digit x) refl (digits_all m r)
  where
    go : (t : Bool) → is_digit x ≡ t → all_digits (digits_in m r) ≡ true → all_digits (digits_in (suc m) (x ∷ r)) ≡ true
    go true e ih = rw (digits_more m x r e, e) ih
    go false e ih = rw (digits_stop m x r e)

pub digits_few : (m : ℕ) (r : List ℕ) → length (digits_in m r) ≤ m
unfolding digits_in
digits_few zero r = omega arith
digits_few (suc m) [] = omega arith
digits_few (suc m) (x ∷ r) = go (is_digit x) refl (digits_few m r)
  where
    go : (t : Bool) → is_digit x ≡ t → length (digits_in m r) ≤ m → length (digits_in (suc m) (x ∷ r)) ≤ suc m
    go true e ih = rw (digits_more m x r e) (omega arith)
    go false e ih = rw (digits_stop m x r e) (omega arith)

pub digits_within : (m : ℕ) (r : List ℕ) → length (digits_in m r) ≤ length r
unfolding digits_in
digits_within zero r = omega arith
digits_within (suc m) [] = omega arith
digits_within (suc m) (x ∷ r) = go (is_digit x) refl (digits_within m r)
  where
    go : (t : Bool) → is_digit x ≡ t → length (digits_in m r) ≤ length r → length (digits_in (suc m) (x ∷ r)) ≤ length (x ∷ r)
    go true e ih = rw (digits_more m x r e) (omega arith)
    go false e ih = rw (digits_stop m x r e) (omega arith)

-- digits and nothing else are read whole, and what is read whole is digits
pub digits_whole : (m : ℕ) (r : List ℕ) → all_digits r ≡ true → length r ≤ m → digits_in m r ≡ r
unfolding digits_in all_digits
digits_whole zero [] d h = refl
digits_whole zero (x ∷ r) d h = absurd (omega arith)
digits_whole (suc m) [] d h = refl
digits_whole (suc m) (x ∷ r) d h = let q = both (is_digit x) (all_digits r) d in digits_more m x r q.0 ∙ ap (λ (l : List ℕ). x ∷ l) (digits_whole m r q.1 (omega arith))

pub whole_digits : (m : ℕ) (r : List ℕ) → length (digits_in m r) ≡ length r → all_digits r ≡ true
unfolding digits_in all_digits
whole_digits zero [] h = refl
whole_digits zero (x ∷ r) h = absurd (omega arith)
whole_digits (suc m) [] h = refl
whole_digits (suc m) (x ∷ r) h = go (is_digit x) refl h (whole_digits m r)
  where
    go : (t : Bool) → is_digit x ≡ t → length (digits_in (suc m) (x ∷ r)) ≡ length (x ∷ r) → (length (digits_in m r) ≡ length r → all_digits r ≡ true) → all_digits (x ∷ r) ≡ true
    go true e h ih = let l = ap length (digits_more m x r e) in rw e (ih (omega arith))
    go false e h ih = let l = ap length (digits_stop m x r e) in absurd (omega arith)

-- what follows fewer digits than were asked for is none
digits_ended : (m : ℕ) (r : List ℕ) → length (digits_in m r) < m → is_digit (get_or r (length (digits_in m r)) 10) ≡ false
unfolding digits_in
digits_ended zero r h = absurd (omega arith)
digits_ended (suc m) [] h = refl
digits_ended (suc m) (x ∷ r) h = go (is_digit x) refl (digits_ended m r) h
  where
    go : (t : Bool) → is_digit x ≡ t → (length (digits_in m r) < m → is_digit (get_or r (length (digits_in m r)) 10) ≡ false) → length (digits_in (suc m) (x ∷ r)) < suc m → is_digit (get_or (x ∷ r) (length (digits_in (suc m) (x ∷ r))) 10) ≡ false
    go true e ih h = let h' : suc (length (digits_in m r)) < suc m = rw (digits_more m x r e) at h in rw (digits_more m x r e) (ih (omega arith))
    go false e ih h = rw (digits_stop m x r e) e

-- ---- one field of a line

-- "one to nine digits"
pub record Short (d : List ℕ) : Type 0 where
  pub some : 1 ≤ length d
  pub few : length d ≤ 9

digits_number : (r : List ℕ) → Short (digits_in 10 r) → is_number (digits_in 10 r) ≡ true
unfolding is_number
digits_number r h = simp (digits_all 10 r, le-leb _ _ h.some, le-leb _ _ h.few)

all_append : (a b : List ℕ) → all_digits (a ++ b) ≡ true → all_digits b ≡ true
unfolding all_digits
all_append [] b e = e
all_append (x ∷ a) b e = all_append a b (both (is_digit x) (all_digits (a ++ b)) e).1

not_number : (l : List ℕ) → (all_digits l ≡ true → 1 ≤ length l → length l ≤ 9 → ⊥) → is_number l ≡ false
unfolding is_number
not_number l h = go (is_number l) refl
  where
    go : (t : Bool) → is_number l ≡ t → is_number l ≡ false
    go false e = e
    go true e =
        let p = both (all_digits l) (leb 1 (length l) && leb (length l) 9) e in
        let q = both (leb 1 (length l)) (leb (length l) 9) p.1 in
        absurd (h p.0 (leb-true 1 (length l) q.0) (leb-true (length l) 9 q.1))

-- what is left at a byte that is neither a space nor a newline begins with it
first_other : (s : List ℕ) → get_or s 0 10 ≢ 32 → get_or s 0 10 ≢ 10 → is_digit (get_or s 0 10) ≡ false → all_digits (first_field (line_in s)) ≡ false
unfolding all_digits
first_other [] a b d = absurd (b refl)
first_other (x ∷ s) a b d = rw (line_more x s (ne_eqb x 10 b), first_more x (line_in s) (ne_eqb x 32 a), d)

-- at a space, and at the end of the line
at_space : (s : List ℕ) → get_or s 0 10 ≡ 32 → (first_field (line_in s) ≡ []) × ((more_fields (line_in s) ≡ line_fields (line_in (drop 1 s))) × (length (line_in s) ≡ 1 + length (line_in (drop 1 s))))
at_space [] e = absurd (clash {b = eqb 10 32} (eq-eqb 10 32 e) refl)
at_space (x ∷ s) e =
    let n : eqb x 10 ≡ false = ne_eqb x 10 (λ q. omega arith) in
    rw (line_more x s n) (first_space x (line_in s) (eq-eqb x 32 e), (more_space x (line_in s) (eq-eqb x 32 e), omega arith))

at_end : (s : List ℕ) → get_or s 0 10 ≡ 10 → line_in s ≡ []
unfolding line_in
at_end [] e = refl
at_end (x ∷ s) e = line_none x s (eq-eqb x 10 e)

-- ---- a place after others

-- a byte after k others
pub drop_at : (r : List ℕ) (k d : ℕ) → get_or (drop k r) 0 d ≡ get_or r k d
drop_at [] zero d = refl
drop_at [] (suc k) d = refl
drop_at (x ∷ r) zero d = refl
drop_at (x ∷ r) (suc k) d = drop_at r k d

drop_one : (r : List ℕ) (k : ℕ) → drop 1 (drop k r) ≡ drop (suc k) r
drop_one [] zero = refl
drop_one [] (suc k) = refl
drop_one (x ∷ r) zero = refl
drop_one (x ∷ r) (suc k) = drop_one r k

module _ (r : List ℕ) where
  -- the digits at the front
  abbrev ds : List ℕ
  ds = digits_in 10 r

  -- the byte after them, and what is left there
  abbrev sep : ℕ
  sep = get_or r (length ds) 10

  abbrev left : List ℕ
  left = drop (length ds) r

  field_space : sep ≡ 32 → line_fields (line_in r) ≡ ds ∷ line_fields (line_in (drop (suc (length ds)) r))
  field_space e =
      let q = at_space left (drop_at r (length ds) 10 ∙ e) in
      let f : first_field (line_in r) ≡ ds = first_digits 10 r ∙ ap (λ (l : List ℕ). ds ++ l) q.0 ∙ append-nil ds in
      let m : more_fields (line_in r) ≡ line_fields (line_in (drop (suc (length ds)) r)) = more_digits 10 r ∙ q.1.0 ∙ ap (λ (l : List ℕ). line_fields (line_in l)) (drop_one r (length ds)) in
      fields_first (line_in r) ∙ (λ i. f i ∷ m i)

  length_space : sep ≡ 32 → length (line_in r) ≡ length ds + (1 + length (line_in (drop (suc (length ds)) r)))
  length_space e =
      let q = (at_space left (drop_at r (length ds) 10 ∙ e)).1.1 in
      let d = line_digits 10 r in
      let g : length (line_in (drop 1 left)) ≡ length (line_in (drop (suc (length ds)) r)) = ap (λ (l : List ℕ). length (line_in l)) (drop_one r (length ds)) in
      omega arith

  field_end : sep ≡ 10 → line_fields (line_in r) ≡ ds ∷ []
  unfolding first_field more_fields
  field_end e =
      let q = at_end left (drop_at r (length ds) 10 ∙ e) in
      let f : first_field (line_in r) ≡ ds = first_digits 10 r ∙ ap (λ (l : List ℕ). ds ++ first_field l) q ∙ append-nil ds in
      let m : more_fields (line_in r) ≡ [] = more_digits 10 r ∙ ap more_fields q in
      fields_first (line_in r) ∙ (λ i. f i ∷ m i)

  length_end : sep ≡ 10 → length (line_in r) ≡ length ds
  length_end e =
      let q = at_end left (drop_at r (length ds) 10 ∙ e) in
      let d = line_digits 10 r in
      let g : length (line_in left) ≡ 0 = ap length q in
      omega arith

  -- where the digits end at a space or with the line, they are the first field
  first_is : (sep ≡ 32) ⊎ (sep ≡ 10) → first_field (line_in r) ≡ ds
  unfolding first_field
  first_is (inl e) = first_digits 10 r ∙ ap (λ (l : List ℕ). ds ++ l) (at_space left (drop_at r (length ds) 10 ∙ e)).0 ∙ append-nil ds
  first_is (inr e) = first_digits 10 r ∙ ap (λ (l : List ℕ). ds ++ first_field l) (at_end left (drop_at r (length ds) 10 ∙ e)) ∙ append-nil ds

  -- where they end at another byte, or go on, the first field is no number
  first_on : sep ≢ 32 → sep ≢ 10 → is_number (first_field (line_in r)) ≡ false
  first_on a b = not_number (first_field (line_in r)) (λ d s f. ⊎_elim (λ (h : length ds < 10). clash (rest d) (first_other left (at a) (at b) (rw (drop_at r (length ds) 10) (digits_ended 10 r h)))) (λ (h : 10 ≤ length ds). let l = long in omega arith) (lt_dec (length ds) 10))
    where
      at : {c : ℕ} → sep ≢ c → get_or left 0 10 ≢ c
      at n e = n (sym (drop_at r (length ds) 10) ∙ e)

      long : length (first_field (line_in r)) ≡ length ds + length (first_field (line_in left))
      long = ap length (first_digits 10 r) ∙ length-append ds (first_field (line_in left))

      rest : all_digits (first_field (line_in r)) ≡ true → all_digits (first_field (line_in left)) ≡ true
      rest d = all_append ds (first_field (line_in left)) (rw (first_digits 10 r) at d)

  bad_count : (length ds ≡ 0) ⊎ (9 < length ds) → is_number (first_field (line_in r)) ≡ false
  bad_count h = ⊎_elim
      (λ (e : sep ≡ 32). here (inl e))
      (λ (a : sep ≢ 32). ⊎_elim (λ (e : sep ≡ 10). here (inr e)) (λ (b : sep ≢ 10). first_on a b) (eq_dec sep 10))
      (eq_dec sep 32)
    where
      few : (length ds ≡ 0) ⊎ (9 < length ds) → 1 ≤ length ds → length ds ≤ 9 → ⊥
      few (inl z) s f = omega arith
      few (inr z) s f = omega arith

      here : (sep ≡ 32) ⊎ (sep ≡ 10) → is_number (first_field (line_in r)) ≡ false
      here e = rw (first_is e) (not_number ds (λ d. few h))

-- ---- two numbers

module _ (form : ℕ → ℕ → Line) where
  two_first : (g : List ℕ) (l : List (List ℕ)) → is_number g ≡ false → two_numbers form (g ∷ l) ≡ Bad
  unfolding two_numbers
  two_first g [] e = refl
  two_first g (b ∷ []) e = rw e
  two_first g (b ∷ c ∷ l) e = refl

  two_second : (a g : List ℕ) (l : List (List ℕ)) → is_number g ≡ false → two_numbers form (a ∷ g ∷ l) ≡ Bad
  unfolding two_numbers
  two_second a g [] e = rw (e, and-false (is_number a))
  two_second a g (c ∷ l) e = refl

  two_both : (a b : List ℕ) → is_number a ≡ true → is_number b ≡ true → two_numbers form (a ∷ b ∷ []) ≡ form (decimal_of a) (decimal_of b)
  unfolding two_numbers
  two_both a b e f = rw (e, f)

  two_three : (a b c : List ℕ) (l : List (List ℕ)) → two_numbers form (a ∷ b ∷ c ∷ l) ≡ Bad
  unfolding two_numbers
  two_three a b c l = refl

  two_one : (a : List ℕ) → two_numbers form (a ∷ []) ≡ Bad
  unfolding two_numbers
  two_one a = refl

  -- of the numbers that a line begins with
  module _ (r : List ℕ) where
    abbrev Two : Line → Type 0
    Two x = two_numbers form (line_fields (line_in r)) ≡ x

    abbrev next : List ℕ
    next = drop (suc (length (ds r))) r

    pub two_bad_count : (length (digits_in 10 r) ≡ 0) ⊎ (9 < length (digits_in 10 r)) → two_numbers form (line_fields (line_in r)) ≡ Bad
    two_bad_count h = rw (fields_first (line_in r)) (two_first (first_field (line_in r)) (more_fields (line_in r)) (bad_count r h))

    pub two_bad_space : get_or r (length (digits_in 10 r)) 10 ≢ 32 → two_numbers form (line_fields (line_in r)) ≡ Bad
    two_bad_space n = ⊎_elim
        (λ (e : sep r ≡ 10). rw (field_end r e) (two_one (ds r)))
        (λ (b : sep r ≢ 10). rw (fields_first (line_in r)) (two_first (first_field (line_in r)) (more_fields (line_in r)) (first_on r n b)))
        (eq_dec (sep r) 10)

    pub two_bad_second : get_or r (length (digits_in 10 r)) 10 ≡ 32 → (length (digits_in 10 next) ≡ 0) ⊎ (9 < length (digits_in 10 next)) → two_numbers form (line_fields (line_in r)) ≡ Bad
    two_bad_second e h = rw (field_space r e, fields_first (line_in next)) (two_second (ds r) (first_field (line_in next)) (more_fields (line_in next)) (bad_count next h))

    pub two_bad_end : get_or r (length (digits_in 10 r)) 10 ≡ 32 → get_or next (length (digits_in 10 next)) 10 ≢ 10 → two_numbers form (line_fields (line_in r)) ≡ Bad
    two_bad_end e n = ⊎_elim
        (λ (f : sep next ≡ 32).
        rw (field_space r e, field_space next f, fields_first (line_in (drop (suc (length (ds next))) next)))
        (two_three (ds r) (ds next) (first_field (line_in (drop (suc (length (ds next))) next))) (more_fields (line_in (drop (suc (length (ds next))) next)))))
        (λ (a : sep next ≢ 32). rw (field_space r e, fields_first (line_in next)) (two_second (ds r) (first_field (line_in next)) (more_fields (line_in next)) (first_on next a n)))
        (eq_dec (sep next) 32)

    pub two_good : Short (digits_in 10 r) → get_or r (length (digits_in 10 r)) 10 ≡ 32 → Short (digits_in 10 next) → get_or next (length (digits_in 10 next)) 10 ≡ 10
        → two_numbers form (line_fields (line_in r)) ≡ form (decimal_of (digits_in 10 r)) (decimal_of (digits_in 10 next))
    two_good a e b f = rw (field_space r e, field_end next f) (two_both (ds r) (ds next) (digits_number r a) (digits_number next b))

-- the length of a line of two numbers
pub two_length : (r : List ℕ) → get_or r (length (digits_in 10 r)) 10 ≡ 32
    → get_or (drop (suc (length (digits_in 10 r))) r) (length (digits_in 10 (drop (suc (length (digits_in 10 r))) r))) 10 ≡ 10
    → length (line_in r) ≡ length (digits_in 10 r) + (1 + length (digits_in 10 (drop (suc (length (digits_in 10 r))) r)))
two_length r e f = let a = length_space r e in let b = length_end (drop (suc (length (digits_in 10 r))) r) f in omega arith
