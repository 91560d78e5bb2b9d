-- Lines drawn word by word: each word has a place of its own, and a store leaves every other as it was. Assumes nothing.
use mathlib.Core.Path.{◌≡◌, refl, sym, ap, ◌∙◌, subst}
use mathlib.Core.Bool.{true}
use mathlib.Core.List.{List}
use mathlib.Core.Logic.{◌⊎◌, inl, inr, ◌≢◌}
use Prim.Native.Nat.{ℕ, ◌+◌, ◌<◌}
use native.Mathlib.Nat.{not-suc-le-zero}
use native.Mathlib.Omega.{arith}
use lib.Bits.{bit_and}
use lib.Dec.{T}
use lib.ListN.{length, get_or, set, replicate, length-set, length-replicate, get_or-replicate}
use lib.Seq.{get_or-set_same, get_or-set_other}
use borrow.Author.Tests.{not-false}
use Rattle.bounded.specs.Mask.{bit, without}
use Rattle.bounded.proofs.Truth.{T_true, T_of, T_false, T_not, T_dec, and_iff, eq_dec}
use Rattle.bounded.proofs.Mask.{full_bit, bit_and_lem, bit_none, bit_without32}
use Rattle.bounded.proofs.Members.{without_part, without_other, without_gone}
use Rattle.problem.specs.Problem.{Problem, State}
use Rattle.problem.specs.Held.{held, rows_at, far_from}
use Rattle.problem.specs.Masks.{state_of}
use Rattle.problem.specs.declared.Masks.{Masks}
use Rattle.problem.specs.Sentences.{Live}
use Rattle.problem.proofs.HeldTable.{far_free}
use Rattle.held.specs.Ready.{Ready, Near}
use Rattle.held.proofs.Laws.{row_read, live_value}
use Rattle.lines.specs.Lines.{lines_length, line_start, line_word, Drawn, DrawnTo, PairDrawn}

-- the lines of a state are lines of every state that has no value more
pub drawn_less : {P : Problem} {s r : State} {lines : List ℕ} → ((j a : ℕ) → Live r j a → Live s j a) → Drawn P s lines → Drawn P r lines
drawn_less less D = record { long = D.long; says = λ i a j b p q d. D.says i a j b (less i a p) (less j b q) d; own = λ i a p. D.own i a (less i a p) }

-- ---- the lines of i at j

module _ (t lines : List ℕ) (i j : ℕ) where
  pub pair_none : length lines ≡ lines_length → PairDrawn t lines i j 0 lines
  pair_none e = record { long = e; drawn = λ a l. absurd (not-suc-le-zero l); kept = λ k l a p q d. refl }

  -- one word more
  pub pair_more : (n : ℕ) (out : List ℕ) (x : ℕ) → i < 32 → j < 32 → n < 16 → x ≡ get_or t (rows_at i j + n) 0 → PairDrawn t lines i j n out → PairDrawn t lines i j (n + 1) (set out (line_start i n + j) x)
  pair_more n out x li lj ln e D = record { long = length-set out (line_start i n + j) x ∙ D.long; drawn = λ a l. drawn a l (eq_dec a n); kept = kept }
    where
      drawn : (a : ℕ) → a < n + 1 → (a ≡ n) ⊎ (a ≢ n) → line_word (set out (line_start i n + j) x) i a j ≡ get_or t (rows_at i j + a) 0
      drawn a l (inl q) =
          subst (λ (b : ℕ). line_word (set out (line_start i n + j) x) i b j ≡ get_or t (rows_at i j + b) 0) (sym q) (get_or-set_same out (line_start i n + j) x 0 (omega (arith, D.long)) ∙ e)
      drawn a l (inr d) = get_or-set_other out (line_start i n + j) (line_start i a + j) x 0 (λ z. d (omega arith)) ∙ D.drawn a (omega arith)

      kept : (k l a : ℕ) → l < 32 → a < 16 → (k ≡ i → l ≡ j → ⊥) → line_word (set out (line_start i n + j) x) k a l ≡ line_word lines k a l
      kept k l a ll la d = get_or-set_other out (line_start i n + j) (line_start k a + l) x 0 (λ z. d (omega arith) (omega arith)) ∙ D.kept k l a ll la d

-- ---- the lines of i

module _ (t lines : List ℕ) (i others : ℕ) where
  pub variable_none : length lines ≡ lines_length → DrawnTo t lines i others others lines
  variable_none e = record { long = e; drawn = λ j a lj la on off. absurd (off on); kept = λ k j a lj la d. refl }

  -- one variable more
  pub variable_more : (rest j : ℕ) (out next : List ℕ) → j < 32 → T (bit others j) → PairDrawn t out i j 16 next → DrawnTo t lines i others rest out → DrawnTo t lines i others (without 32 rest j) next
  variable_more rest j out next l m H D =
      record {
        long = H.long;
        drawn = λ k a lk la on off. drawn k a lk la on off (eq_dec k j);
        kept = λ k n a ln la d. H.kept k n a ln la (λ p q. d p (subst (λ (x : ℕ). T (bit others x)) (sym q) m)) ∙ D.kept k n a ln la d;
      }
    where
      drawn : (k a : ℕ) → k < 32 → a < 16 → T (bit others k) → (T (bit (without 32 rest j) k) → ⊥) → (k ≡ j) ⊎ (k ≢ j) → line_word next i a k ≡ get_or t (rows_at i k + a) 0
      drawn k a lk la on off (inl e) = subst (λ (x : ℕ). line_word next i a x ≡ get_or t (rows_at i x + a) 0) (sym e) (H.drawn a la)
      drawn k a lk la on off (inr d) = H.kept i k a lk la (λ p. d) ∙ D.drawn k a lk la on (λ y. d (without_gone 32 bit_without32 rest j l k lk y off))

-- ---- all lines

-- at j the word of i is the row of the table, or all are allowed there and the word says so
abbrev Word : (t lines : List ℕ) (i j a : ℕ) → Type 0
Word t lines i j a = (line_word lines i a j ≡ get_or t (rows_at i j + a) 0) ⊎ ((far_from t i j ≡ true) × (line_word lines i a j ≡ 65535))

-- the lines of the active variables that are not in `rest` are drawn, those in it are blank, and so is each word at a line's own variable
pub record LinesDrawn (t : List ℕ) (active rest : ℕ) (lines : List ℕ) : Type 0 where
  pub long : length lines ≡ lines_length
  pub drawn : (i j a : ℕ) → i < 32 → j < 32 → a < 16 → T (bit active i) → (T (bit rest i) → ⊥) → T (bit active j) → j ≢ i → Word t lines i j a
  pub blank : (i j a : ℕ) → i < 32 → j < 32 → a < 16 → T (bit rest i) → line_word lines i a j ≡ 65535
  pub own : (i a : ℕ) → i < 32 → a < 16 → line_word lines i a i ≡ 65535

module _ (t : List ℕ) (active : ℕ) where
  pub lines_none : (lines : List ℕ) → lines ≡ replicate lines_length 65535 → LinesDrawn t active active lines
  lines_none lines e =
      record {
        long = ap length e ∙ length-replicate {A = ℕ} lines_length 65535;
        drawn = λ i j a li lj la on off. absurd (off on);
        blank = λ i j a li lj la on. all i j a li lj la;
        own = λ i a li la. all i i a li li la;
      }
    where
      all : (i j a : ℕ) → i < 32 → j < 32 → a < 16 → line_word lines i a j ≡ 65535
      all i j a li lj la = ap (λ (x : List ℕ). get_or x (line_start i a + j) 0) e ∙ get_or-replicate lines_length (line_start i a + j) 65535 0 (omega arith)

  -- one variable more, drawn at its neighbours
  pub lines_more : (rest i near : ℕ) (lines next : List ℕ) → i < 32 → T (bit rest i) → Near t i near → DrawnTo t lines i (without 32 (bit_and active near) i) 0 next → LinesDrawn t active rest lines → LinesDrawn t active (without 32 rest i) next
  lines_more rest i near lines next l m N H D =
      record {
        long = H.long;
        drawn = λ k j a lk lj la on off on' d. drawn k j a lk lj la on off on' d (eq_dec k i);
        blank = λ k j a lk lj la on. H.kept k j a lj la (λ e. absurd (without_other 32 bit_without32 rest i l k lk on e)) ∙ D.blank k j a lk lj la (without_part 32 rest i k on);
        own = λ k a lk la. H.kept k k a lk la (λ e y. without_other 32 bit_without32 (bit_and active near) i l k lk y e) ∙ D.own k a lk la;
      }
    where
      others : ℕ
      others = without 32 (bit_and active near) i

      -- an active variable but i that is not one of the others is no neighbour
      far : (j : ℕ) → j < 32 → T (bit active j) → j ≢ i → (T (bit others j) → ⊥) → far_from t i j ≡ true
      far j lj on d off =
          not-false _ (sym (N.all j lj) ∙ T_false (bit near j) (λ n. d (without_gone 32 bit_without32 (bit_and active near) i l j lj (subst T (sym (bit_and_lem active near j)) ((and_iff (bit active j) (bit near j)).1 (on, n))) off)))

      here : (j a : ℕ) → j < 32 → a < 16 → T (bit active j) → j ≢ i → T (bit others j) ⊎ (T (bit others j) → ⊥) → Word t next i j a
      here j a lj la on d (inl y) = inl (H.drawn j a lj la y (T_not (bit_none j)))
      here j a lj la on d (inr n) = inr (far j lj on d n, H.kept i j a lj la (λ e. n) ∙ D.blank i j a l lj la m)

      there : (k j a : ℕ) → j < 32 → a < 16 → k ≢ i → Word t lines k j a → Word t next k j a
      there k j a lj la f (inl e) = inl (H.kept k j a lj la (λ g. absurd (f g)) ∙ e)
      there k j a lj la f (inr e) = inr (e.0, H.kept k j a lj la (λ g. absurd (f g)) ∙ e.1)

      drawn : (k j a : ℕ) → k < 32 → j < 32 → a < 16 → T (bit active k) → (T (bit (without 32 rest i) k) → ⊥) → T (bit active j) → j ≢ k → (k ≡ i) ⊎ (k ≢ i) → Word t next k j a
      drawn k j a lk lj la on off on' d (inl e) = subst (λ (x : ℕ). Word t next x j a) (sym e) (here j a lj la on' (λ q. d (q ∙ sym e)) (T_dec (bit others j)))
      drawn k j a lk lj la on off on' d (inr f) = there k j a lj la f (D.drawn k j a lk lj la on (λ y. f (without_gone 32 bit_without32 rest i l k lk y off)) on' d)

-- none left: the lines are those of the state
pub lines_all : {t : List ℕ} {m : Masks} → Ready t m → (rest : ℕ) (lines : List ℕ) → rest ≡ 0 → LinesDrawn t m.active rest lines → Drawn (held t) (state_of m) lines
unfolding state_of
lines_all {t} {m} R rest lines e D =
    record {
      long = D.long;
      says = λ i a j b p q d.
          let v = live_value R i a p in
          let w = live_value R j b q in
          says i a j b p q d (D.drawn i j a v.variable w.variable v.value (R.fits.live_active i a p) (λ y. T_not (ap (λ (x : ℕ). bit x i) e ∙ bit_none i) y) (R.fits.live_active j b q) (λ z. d (sym z)));
      own = λ i a p. let v = live_value R i a p in T_of (ap (λ (x : ℕ). bit x a) (D.own i a v.variable v.value) ∙ full_bit 16 a v.value);
    }
  where
    says : (i a j b : ℕ) → Live (state_of m) i a → Live (state_of m) j b → i ≢ j → Word t lines i j a → bit (line_word lines i a j) b ≡ (held t).allowed i a j b
    says i a j b p q d (inl f) = ap (λ (x : ℕ). bit x b) f ∙ (row_read R.table i a j (live_value R i a p) (λ z. d (sym z))).0 b (R.fits.live_lt j b q)
    says i a j b p q d (inr f) =
        let w = live_value R j b q in
        ap (λ (x : ℕ). bit x b) f.1 ∙ full_bit 16 b w.value ∙ sym (T_true _ (far_free R.table i a j (live_value R i a p).listed d f.0 b (R.fits.live_lt j b q)))
