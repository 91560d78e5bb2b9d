-- docs/FORMAT.md, "State and the five rules": a problem, a state of it, the five rules, and what a step does.
-- Every test reads the problem through `n`, `size` and `allowed` only.
use Rattle.std.specs.Prelude.{◌≡◌, refl, Bool, true, false, not, ◌&&◌, ℕ, eqb, ltb, Option, Some, None}
use Rattle.std.proofs.Common.{lt_irrefl, lt_trans, ltb-true}
use Rattle.bounded.specs.Quantifiers.{imp, all_below, any_below, lowest, at_lowest, sum_to, count_below}

-- A binary constraint problem. The format's items are variables, its settings values, both numbered from 0.
pub record Problem : Type 0 where
  -- how many items
  pub n : ℕ
  -- how many settings each has
  pub size : ℕ → ℕ
  -- setting a of item i may stand with setting b of item j: `allowed i a j b`
  pub allowed : ℕ → ℕ → ℕ → ℕ → Bool
  pub symmetric : (i a j b : ℕ) → allowed i a j b ≡ allowed j b i a

-- x where i < j, y where j < i
abbrev pub lower_tells : (up down x y : Bool) → Bool
lower_tells true down x y = x
lower_tells false true x y = y
lower_tells false false x y = false

-- a test of pairs i < j, asked either way round: the lower variable's side tells, and a variable makes no pair with itself
unfoldable pub both_ways : (ℕ → ℕ → ℕ → ℕ → Bool) → (i a j b : ℕ) → Bool
both_ways f i a j b = lower_tells (ltb i j) (ltb j i) (f i a j b) (f j b i a)

pub both_ways_symmetric : (f : ℕ → ℕ → ℕ → ℕ → Bool) (i a j b : ℕ) → both_ways f i a j b ≡ both_ways f j b i a
unfolding both_ways
both_ways_symmetric f i a j b = go (ltb i j) refl (ltb j i) refl
  where
    go : (x : Bool) → ltb i j ≡ x → (y : Bool) → ltb j i ≡ y → both_ways f i a j b ≡ both_ways f j b i a
    go true e true g = absurd (lt_irrefl i (lt_trans (ltb-true i j e) (ltb-true j i g)))
    go true e false g = rw (e, g)
    go false e true g = rw (e, g)
    go false e false g = rw (e, g)

-- "A state says which items are in and, for each, which settings are on."
pub record State : Type 0 where
  -- the item is in
  pub active : ℕ → Bool
  -- the setting is on at the item
  pub live : ℕ → ℕ → Bool

-- "At first all items are in and all settings on."
unfoldable pub full : Problem → State
full P = record { active = λ i. ltb i P.n; live = λ i a. ltb i P.n && ltb a (P.size i) }

-- the largest numbers of items and of settings of one item that a sheet may list
abbrev pub max_variables : ℕ
max_variables = 32

abbrev pub max_values : ℕ
max_values = 16

-- the cover test's answer, where it is only asked whether the cover holds
abbrev pub unspoilt : Option ℕ → Bool
unspoilt (Some c) = false
unspoilt None = true

-- the break that the answer tells of, where the test was made at l
abbrev pub break_at : (l : ℕ) → Option ℕ → Option (ℕ × ℕ)
break_at l (Some c) = Some (l, c)
break_at l None = None

-- there is no break
abbrev pub unbroken : Option (ℕ × ℕ) → Bool
unbroken (Some (l, c)) = false
unbroken None = true

module _ (P : Problem) (s : State) where
  -- ---- quantifiers: at every item in, at every setting on at l, at some setting on at l, and the lowest such setting

  unfoldable pub all_active : (ℕ → Bool) → Bool
  all_active f = all_below P.n (λ l. imp (s.active l) (f l))

  unfoldable pub all_live : ℕ → (ℕ → Bool) → Bool
  all_live l f = all_below (P.size l) (λ c. imp (s.live l c) (f c))

  unfoldable pub any_live : ℕ → (ℕ → Bool) → Bool
  any_live l f = any_below (P.size l) (λ c. s.live l c && f c)

  unfoldable pub lowest_live : ℕ → (ℕ → Bool) → ℕ
  lowest_live l f = lowest (P.size l) (λ c. s.live l c && f c)

  -- "Other item": one still in that is not i; and every item other than i and j
  unfoldable pub all_other : ℕ → (ℕ → Bool) → Bool
  all_other i f = all_active (λ j. imp (not (eqb j i)) (f j))

  unfoldable pub all_third : ℕ → ℕ → (ℕ → Bool) → Bool
  all_third i j f = all_active (λ l. imp (not (eqb l i)) (imp (not (eqb l j)) (f l)))

  -- cause 11: no item in is not below n, no item out has a setting on, and no setting on is not below its size
  unfoldable pub state_fits : Bool
  state_fits =
      all_below max_variables (λ i. imp (s.active i) (ltb i P.n))
      && all_below max_variables (λ i. all_below max_values (λ a. imp (s.live i a) (s.active i && ltb a (P.size i))))

  -- no item in is without a setting on
  unfoldable pub none_empty : Bool
  none_empty = all_active (λ l. any_live l (λ c. true))

  -- ---- the rules

  -- setting c "spoils the cover at l when it is on at l, allowed with b and barred with a". a is a setting of i and b one of j. The cover of
  -- one item's settings has i for j too; fold compares settings of two items.
  unfoldable pub spoils : (i a j b l c : ℕ) → Bool
  spoils i a j b l c = s.live l c && (P.allowed j b l c && not (P.allowed i a l c))

  -- "the cover test answers the lowest setting at l that spoils it, or that there is none". There is none where a substitutes for b at l:
  -- "Setting a covers b at item l when every setting on at l that is allowed with b is allowed with a."
  unfoldable pub spoiler : (i a j b l : ℕ) → Option ℕ
  spoiler i a j b l = at_lowest (P.size l) (spoils i a j b l) Some None

  -- kind 1, bare: "b is on at i and no setting on at another item k is allowed with it"
  unfoldable pub unsupported : (i b k : ℕ) → Bool
  unsupported i b k = s.live i b && (s.active k && (not (eqb k i) && all_live k (λ c. not (P.allowed i b k c))))

  -- kind 2: w' "is allowed with v and covers w at every item other than i and j"
  unfoldable pub snake_serves : (i v j w w' : ℕ) → Bool
  snake_serves i v j w w' = P.allowed i v j w' && all_third i j (λ l. unspoilt (spoiler j w' j w l))

  -- kind 2, snake: "v is on at i; for every other item j and every setting w on at j barred with v, some w' on at j" serves
  unfoldable pub snake : (i v : ℕ) → Bool
  snake i v = s.live i v && all_other i (λ j. all_live j (λ w. imp (not (P.allowed i v j w)) (any_live j (λ w'. snake_serves i v j w w'))))

  -- kind 3: u "is allowed with v, and covers v at every item other than i and j"
  unfoldable pub triangle_serves : (i j v u : ℕ) → Bool
  triangle_serves i j v u = P.allowed i u j v && all_third i j (λ l. unspoilt (spoiler i u j v l))

  -- kind 3, fold: "j is another item; for every v on at j some u on at i" serves
  unfoldable pub triangle : (i j : ℕ) → Bool
  triangle i j = s.active i && (s.active j && (not (eqb j i) && all_live j (λ v. any_live i (λ u. triangle_serves i j v u))))

  -- kind 4, cover: "a and b are different and on at i; a covers b at every other item"
  unfoldable pub neighbourhood : (i b a : ℕ) → Bool
  neighbourhood i b a = s.live i b && (s.live i a && (not (eqb a b) && all_other i (λ l. unspoilt (spoiler i a i b l))))

  -- kind 5: e "is allowed with a and covers d at every item other than i and k". This is `spare`: i moves to a anyway. Without it i is
  -- kept among these items, as the rule of before had it.
  unfoldable pub substitution_serves : (spare : Bool) (i a k d e : ℕ) → Bool
  substitution_serves spare i a k d e = P.allowed i a k e && all_other k (λ l. imp (not (spare && eqb l i)) (unspoilt (spoiler k e k d l)))

  -- kind 5, slide: "a and b are different and on at i; for each other item k and each d on at k allowed with b, some e on at k" serves
  unfoldable pub snake_substitution : (spare : Bool) (i b a : ℕ) → Bool
  snake_substitution spare i b a =
      s.live i b
      && (s.live i a
      && (not (eqb a b) && all_other i (λ k. all_live k (λ d. imp (P.allowed i b k d) (any_live k (λ e. substitution_serves spare i a k d e))))))

  -- ---- why a cover fails

  -- item l is another item, and there a does not cover b; both are settings of i
  unfoldable pub breaks : (i b a l : ℕ) → Bool
  breaks i b a l = s.active l && (not (eqb l i) && not (unspoilt (spoiler i a i b l)))

  -- "the lowest item where the cover breaks and the lowest setting that spoils it there"; or nowhere
  unfoldable pub first_break : (i b a : ℕ) → Option (ℕ × ℕ)
  first_break i b a = at_lowest P.n (breaks i b a) (λ l. break_at l (spoiler i a i b l)) None

  -- all that kind 4 asks but the cover: "i in, a and b different and on, and no item in left without a setting"
  unfoldable pub cover_asked : (i b a : ℕ) → Bool
  cover_asked i b a = s.active i && (not (eqb a b) && (s.live i a && (s.live i b && none_empty)))

  -- ---- what a step does

  -- "Kinds 1, 4 and 5 switch b off at i."
  unfoldable pub remove : (i b : ℕ) → State
  remove i b = record { active = s.active; live = λ j w. s.live j w && not (eqb j i && eqb w b) }

  -- "Kinds 2 and 3 take i out, all its settings going off, and, in the same step, switch off at every other item each setting that
  -- had no partner on at i." A partner is a setting on there and allowed with it.
  unfoldable pub eliminate : (i : ℕ) → State
  eliminate i =
      record {
        active = λ j. s.active j && not (eqb j i);
        live = λ j w. s.live j w && (not (eqb j i) && any_live i (λ c. P.allowed j w i c));
      }

-- ---- the slide's word: kind 5 spares i, as the paper has it (Cooper, "Strengthening neighbourhood substitution"), or keeps it among the items
-- where e covers d, as the rule of before did

abbrev pub substitution_spares : Bool
substitution_spares = true

abbrev pub substitution_keeps : Bool
substitution_keeps = false

-- how many settings are on, and how many the problem lists
unfoldable pub live_count : Problem → State → ℕ
live_count P s = sum_to P.n (λ i. count_below (P.size i) (s.live i))

unfoldable pub size_sum : Problem → ℕ
size_sum P = sum_to P.n P.size
