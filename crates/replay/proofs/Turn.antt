-- A check turn by turn: what it keeps from record to record. Assumes nothing.
use mathlib.Core.Path.{◌≡◌, refl, sym, ap, ◌∙◌, subst}
use mathlib.Core.Bool.{Bool, true, false}
use mathlib.Core.List.{List}
use Prim.Native.Nat.{ℕ, suc, ◌+◌, ◌-◌, ◌<◌}
use native.Mathlib.Omega.{arith}
use lib.ListN.{length}
use Rattle.problem.specs.Problem.{Problem, State}
use Rattle.problem.specs.Run.{lawful, broken_cover, after, after_trace}
use Rattle.problem.specs.Held.{held}
use Rattle.problem.specs.Masks.{state_of, masks_of}
use Rattle.problem.specs.declared.Masks.{Masks}
use Rattle.problem.specs.declared.Record.{Record}
use Rattle.problem.proofs.Bridge.{masks_back}
use Rattle.held.specs.Ready.{Ready}
use Rattle.trace.specs.Trace.{record_at}
use Rattle.trace.specs.declared.RecordRead.{RecordRead}
use Rattle.trace.specs.declared.RecordRead.TheVariants as record·
use Rattle.trace.specs.Place.{place_after}
use Rattle.trace.proofs.Back.{next_after}
use Rattle.trace.proofs.Place.{after_read}
use Rattle.replay.specs.declared.Checking.{Checking}
use Rattle.replay.specs.declared.TraceEnd.{TraceEnd}
use Rattle.replay.specs.Walk.{checked_from, walk_ended, lawful_end, going_on, ruled_turn, checked_turn}
use Rattle.replay.proofs.Range.{step_on}
use Rattle.replay.proofs.Walk.{checked_end, checked_malformed, checked_unlawful, checked_lawful, ended_more}

-- what a test leaves of a number
abbrev left : Bool → ℕ → ℕ
left true n = n
left false n = 0

module _ (t trace : List ℕ) (first : Masks) where
  abbrev P : Problem
  P = held t

  -- the answer from a place on, with record k there, and the whole answer
  abbrev from : Masks → (k p : ℕ) → TraceEnd
  from m k p = walk_ended P (state_of m) (checked_from P trace (state_of m) k p)

  -- a check that goes on has the whole answer ahead of it, from the place of its reader, and one that has stopped has it. Each record gone
  -- over has a byte before that place, and one is the front.
  abbrev GoodIf : Bool → Checking → ℕ → Type 0
  GoodIf true c p = Ready t c.end.state × ((c.end ≡ lawful_end c.end.state) × ((from first 0 1 ≡ from c.end.state c.count p) × (c.count < p)))
  GoodIf false c p = from first 0 1 ≡ c.end

  abbrev pub Good : Checking → ℕ → Type 0
  Good c p = GoodIf c.on c p

  -- the turns that are left
  abbrev pub turns : Checking → ℕ → ℕ
  turns c p = left c.on (suc (length trace - p))

  pub good_on : (c : Checking) (p : ℕ) → Good c p → c.on ≡ true → GoodIf true c p
  good_on c p g e = subst (λ (b : Bool). GoodIf b c p) e g

  pub good_off : (c : Checking) (p : ℕ) → Good c p → c.on ≡ false → c.end ≡ from first 0 1
  good_off c p g e = sym (subst (λ (b : Bool). GoodIf b c p) e g)

  pub walk_start : Ready t first → Good (going_on first 0) 1
  walk_start R = (R, (refl, (refl, omega arith)))

  -- it is kept, and fewer turns are left
  abbrev Kept : Checking → ℕ → Checking → ℕ → Type 0
  Kept c p c' q = Good c' q × (turns c' q < turns c p)

  -- a turn, with the reader moved past what it stands at
  pub turn_good : (c : Checking) (p : ℕ) → Good c p → c.on ≡ true → Kept c p (checked_turn P c (record_at trace p)) (place_after trace p)
  unfolding after_trace
  turn_good c p h on = go (record_at trace p) refl
    where
      g : GoodIf true c p
      g = good_on c p h on

      s : State
      s = state_of c.end.state

      all : turns c p ≡ suc (length trace - p)
      all = ap (λ (b : Bool). left b (suc (length trace - p))) on

      -- the whole answer, from here
      here : from first 0 1 ≡ walk_ended P s (checked_from P trace s c.count p)
      here = g.1.1.0

      ruled : (r : Record) (q : ℕ) → record_at trace p ≡ record·.Read r q → (b : Bool) → lawful P s r ≡ b
          → Kept c p (ruled_turn b (masks_of (after P s r)) c.count (broken_cover P s r)) q
      ruled r q e true l =
          let n = next_after trace p r q e in
          let few = g.1.1.1 in
          let y = step_on g.0 r (masks_of (after P s r)) refl in (
            (
              y.0,
              (
                refl,
                (
                  here ∙ ap (walk_ended P s) (checked_lawful P trace s c.count p r q e l) ∙ ended_more P s r (checked_from P trace (after P s r) (c.count + 1) q)
                      ∙ ap (λ (z : State). walk_ended P z (checked_from P trace z (c.count + 1) q)) (sym y.1),
                  omega (arith, n, few),
                ),
              ),
            ),
            omega (arith, all),
          )
      ruled r q e false l = (here ∙ ap (walk_ended P s) (checked_unlawful P trace s c.count p r q e l), omega (arith, all))

      go : (x : RecordRead) → record_at trace p ≡ x → Kept c p (checked_turn P c x) (place_after trace p)
      go record·.End e = (here ∙ ap (walk_ended P s) (checked_end P trace s c.count p e) ∙ ap lawful_end (masks_back c.end.state g.0.proper) ∙ sym g.1.0, omega (arith, all))
      go record·.Malformed e = (here ∙ ap (walk_ended P s) (checked_malformed P trace s c.count p e), omega (arith, all))
      go (record·.Read r q) e =
          subst (λ (k : ℕ). Kept c p (ruled_turn (lawful P s r) (masks_of (after P s r)) c.count (broken_cover P s r)) k) (sym (after_read trace p r q e)) (ruled r q e (lawful P s r) refl)
