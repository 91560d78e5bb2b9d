-- What a question answers of a state, and of the state with a choice made: its sets are the domains, its lines are drawn from the table.
-- Assumes nothing.
use mathlib.Core.Path.{◌≡◌, refl, sym, ap, subst, ◌∙◌}
use mathlib.Core.Bool.{Bool, true, false}
use mathlib.Core.List.{List}
use mathlib.Core.Logic.{◌⊎◌, inl, inr, ◌≢◌}
use Prim.Native.Nat.{ℕ, ◌^◌, ◌<◌}
use native.Mathlib.Omega.{arith}
use lib.Dec.{T}
use lib.ListN.{length, get_or, set, length-set}
use lib.Seq.{get_or-set_same, get_or-set_other}
use Rattle.std.specs.Prelude.{Option, None, Some}
use Rattle.std.proofs.lemmas.Option.{none-some, same_Some}
use Rattle.bounded.specs.Quantifiers.{lowest}
use Rattle.bounded.specs.Mask.{bit}
use Rattle.bounded.proofs.Truth.{T_not, T_of, eqb_iff, eq_dec}
use Rattle.bounded.proofs.Quantifiers.{lowest_unique}
use Rattle.bounded.proofs.Mask.{bit_single, member_some}
use Rattle.bounded.proofs.Members.{lowest_member}
use Rattle.problem.specs.Problem.{Problem, State, none_empty}
use Rattle.problem.specs.Held.{held}
use Rattle.problem.specs.Masks.{state_of, masks_of}
use Rattle.problem.specs.declared.Masks.{Masks}
use Rattle.problem.specs.Sentences.{Active, Live, Solution, NoneEmpty}
use Rattle.problem.proofs.Reflect.{none_empty_iff}
use Rattle.held.specs.Ready.{Ready}
use Rattle.held.proofs.Laws.{live_value, active_32}
use Rattle.held.proofs.After.{state_held, ready_held}
use Rattle.lines.specs.Lines.{line_word, Drawn}
use Rattle.lines.proofs.Laws.{drawn_less}
use Rattle.any_plan.specs.Question.{Queried, PlanWithin, lowest_of, AnyPlan}
use Rattle.first_plan.specs.Steps.{choose}
use Rattle.asked_plan.specs.Steps.{Knows, Answered, GoesOn}
use Rattle.first_plan.proofs.Prune.{choose_active, choose_live, choose_fits, choose_keeps, choose_back}

-- ---- a question of a state

module _ {t : List ℕ} {m : Masks} (R : Ready t m) where
  -- a variable that is asked about has a value, so it is active
  asked_active : (j : ℕ) → Queried m.domains j → Active (state_of m) j
  unfolding state_of
  asked_active j a = R.fits.live_active j _ (lowest_member 16 (get_or m.domains j 0) (R.proper.domain_lt j a.0) a.1).1

  -- and one that has a value is asked about
  live_asked : (j c : ℕ) → Live (state_of m) j c → Queried m.domains j
  unfolding state_of
  live_asked j c o = (active_32 R j (R.fits.live_active j c o), member_some (get_or m.domains j 0) c o)

  -- an active variable without a value: no plan
  pub empty_answered : none_empty (held t) (state_of m) ≡ false → Answered (held t) (state_of m) None
  empty_answered e = record { yes = λ k f. absurd (none-some k f); no = λ _ q A. T_not e ((none_empty_iff R.fits).1 (λ j h. (q j, A.live j h))) }

  module _ {lines : List ℕ} (D : Drawn (held t) (state_of m) lines) where
    -- a plan of the state is one within its domains
    solution_within : (q : ℕ → ℕ) → Solution (held t) (state_of m) q → PlanWithin lines m.domains q
    unfolding state_of
    solution_within q A = record { among = λ j a. live j a; agree = λ k j a b. agree k j a b (eq_dec k j) }
      where
        live : (j : ℕ) → Queried m.domains j → Live (state_of m) j (q j)
        live j a = A.live j (asked_active j a)

        agree : (k j : ℕ) → Queried m.domains k → Queried m.domains j → (k ≡ j) ⊎ (k ≢ j) → T (bit (line_word lines k (q k) j) (q j))
        agree k j a b (inl e) = subst (λ (x : ℕ). T (bit (line_word lines k (q k) x) (q x))) e (D.own k (q k) (live k a))
        agree k j a b (inr d) = subst T (sym (D.says k (q k) j (q j) (live k a) (live j b) d)) (A.ok k j (asked_active k a) (asked_active j b) d)

    -- one within its domains is a plan of the state, where each active variable is asked about
    within_solution : NoneEmpty (held t) (state_of m) → (q : ℕ → ℕ) → PlanWithin lines m.domains q → Solution (held t) (state_of m) q
    unfolding state_of
    within_solution N q W = record { live = live; ok = λ k j hk hj d. subst T (D.says k (q k) j (q j) (live k hk) (live j hj) d) (W.agree k j (asked k hk) (asked j hj)) }
      where
        asked : (j : ℕ) → Active (state_of m) j → Queried m.domains j
        asked j h = let x = N j h in live_asked j x.0 x.1

        live : (j : ℕ) → Active (state_of m) j → Live (state_of m) j (q j)
        live j h = W.among j (asked j h)

    -- what the question answers
    pub no_answered : {left : List ℕ} {r : Bool} → AnyPlan lines m.domains r left → r ≡ false → Answered (held t) (state_of m) None
    no_answered O e = record { yes = λ k f. absurd (none-some k f); no = λ _ q A. O.no e q (solution_within q A) }

    pub yes_answered : {left : List ℕ} {r : Bool} → none_empty (held t) (state_of m) ≡ true → AnyPlan lines m.domains r left → r ≡ true → Answered (held t) (state_of m) (Some left)
    yes_answered {left} n O e =
        record {
          yes = λ k f. subst (Knows (held t) (state_of m)) (same_Some left k f) (record { long = O.sets.long; plan = within_solution ((none_empty_iff R.fits).0 (T_of n)) (lowest_of left) (O.yes e) });
          no = λ f. absurd (none-some left (sym f));
        }

-- ---- a question of the state with a choice made

-- a plan goes by what it has at the active variables
solution_same : {P : Problem} {s : State} {q p : ℕ → ℕ} → ((j : ℕ) → Active s j → p j ≡ q j) → Solution P s q → Solution P s p
solution_same e A = record { live = λ j h. rw (e j h) (A.live j h); ok = λ j k hj hk d. rw (e j hj, e k hk) (A.ok j k hj hk d) }

-- the known plan has v at i
pub known_goes_on : {P : Problem} {s : State} {known : List ℕ} {i v : ℕ} {next : Masks} → next ≡ masks_of (choose P s i v) → Knows P s known → lowest_of known i ≡ v → GoesOn P s i v (Some next) known
known_goes_on {P} {s} {i = i} {v} {next} e K g =
    record { knows = K; yes = λ m f. (sym (same_Some next m f) ∙ e, g); no = λ f. absurd (none-some next (sym f)) }

-- v alone is written at i: it is the lowest there, and nothing else changes
written_own : (known : List ℕ) (i v : ℕ) → i < length known → v < 16 → lowest_of (set known i (2 ^ v)) i ≡ v
written_own known i v l k =
    ap (λ (x : ℕ). lowest 16 (bit x)) (get_or-set_same known i (2 ^ v) 0 l)
    ∙ lowest_unique 16 (bit (2 ^ v)) v (omega arith)
    (λ c m h. let e : c ≡ v = (eqb_iff c v).0 (subst T (bit_single v c) h) in omega arith)
    (λ m. subst T (sym (bit_single v v)) ((eqb_iff v v).1 refl))

written_other : (known : List ℕ) (i j x : ℕ) → j ≢ i → lowest_of (set known i x) j ≡ lowest_of known j
written_other known i j x d = ap (λ (y : ℕ). lowest 16 (bit y)) (get_or-set_other known i j x 0 d)

module _ {t : List ℕ} {m : Masks} (R : Ready t m) (i v : ℕ) (o : Live (state_of m) i v) {next : Masks} (e : next ≡ masks_of (choose (held t) (state_of m) i v)) where
  pub next_says : state_of next ≡ choose (held t) (state_of m) i v
  next_says = ap state_of e ∙ state_held R.table (choose_fits R.fits i v)

  pub next_ready : Ready t next
  next_ready = subst (Ready t) (sym e) (ready_held R.table (choose_fits R.fits i v))

  pub next_drawn : {lines : List ℕ} → Drawn (held t) (state_of m) lines → Drawn (held t) (state_of next) lines
  next_drawn D = rw next_says (drawn_less (λ j c h. ((choose_live R.fits i v j c).0 h).0) D)

  -- a plan with v at i is one of the state with that choice made
  pub next_keeps : (q : ℕ → ℕ) → q i ≡ v → Solution (held t) (state_of m) q → Solution (held t) (state_of next) q
  next_keeps q g A = rw next_says (choose_keeps R.fits i v o q g A)

  -- no plan has v at i
  pub none_goes_on : {known : List ℕ} {r : Option (List ℕ)} → Knows (held t) (state_of m) known → Answered (held t) (state_of next) r → r ≡ None → GoesOn (held t) (state_of m) i v None known
  none_goes_on K A f = record { knows = K; yes = λ k g. absurd (none-some k g); no = λ _ q S g. A.no f q (next_keeps q g S) }

  -- the question found one
  pub found_goes_on : {after : List ℕ} {r : Option (List ℕ)} → Answered (held t) (state_of next) r → r ≡ Some after → GoesOn (held t) (state_of m) i v (Some next) (set after i (2 ^ v))
  found_goes_on {after = after} A f = known_goes_on e (record { long = length-set after i (2 ^ v) ∙ K.long; plan = plan }) own
    where
      K : Knows (held t) (state_of next) after
      K = A.yes after f

      own : lowest_of (set after i (2 ^ v)) i ≡ v
      own = let l = live_value R i v o in written_own after i v (omega (arith, K.long, l.variable)) l.value

      plan : Solution (held t) (state_of m) (lowest_of (set after i (2 ^ v)))
      plan =
          choose_back R.fits i v o (lowest_of (set after i (2 ^ v))) own
          (solution_same (λ j h. written_other after i j (2 ^ v) ((choose_active R.fits i v j).0 h).1) (subst (λ (s : State). Solution (held t) s (lowest_of after)) next_says K.plan))
