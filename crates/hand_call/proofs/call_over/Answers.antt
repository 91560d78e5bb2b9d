-- `hand_call::call_over`: a struct's numbers are those that it can hold, so that a state which passes the test of 11 fits. Assumes nothing.
use mathlib.Core.Path.{sym, ap, ◌∙◌}
use lib.ListN.{get_or}
use mir.Val.{Fits}
use mir.Syntax.{w16}
use Rattle.bounded.proofs.Truth.{T_of}
use Rattle.problem.specs.Held.{held}
use Rattle.problem.specs.Masks.{state_of, Proper}
use Rattle.problem.proofs.Bridge.{fits_iff}
use Rattle.held.specs.Ready.{Ready}
use Rattle.hand.specs.Hand.{call_answer}
use Rattle.problem.proofs.OneCall.{call_misfit}
use borrow.Author.Rules.{rules}
use Rattle.hand_call.proofs.call_over.Goals as goal
use Rattle.hand_call.proofs.call_over.Goals.{Start, Else-not-fits}

-- what the struct's own types say
proper : (c : Start) → Proper c.args.st.masks
proper c =
    record {
      active_lt = search rules;
      length_is = search rules;
      domain_lt = λ i l. let h : Fits w16 (get_or c.args.st.masks.domains i 0) = search rules in h.fits;
    }

-- past the test of 11
ready : (c : Else-not-fits) → Proper c.args.st.masks → Ready c.args.t.now c.args.st.masks
ready c p =
    let e = sym c.fits.ensures ∙ c.if-not-fits.false in
    record { table = c.requires; proper = p; fits = (fits_iff (held c.args.t.now) c.args.st.masks p).0 (T_of e) }

pub fits-requires : goal.fits-requires
fits-requires c = (c.requires, proper (goal.at.fits-requires c).Start)

pub returns-then-not-fits : goal.returns-then-not-fits
returns-then-not-fits c =
    let a = c.args in
    let P = held a.t.now in
    let e = sym c.fits.ensures ∙ c.if-not-fits.true in
    c.refused_call.ensures ∙ sym (ap (call_answer P a.st a.i) (call_misfit P (state_of a.st.masks) a.i e))

pub invariant_of-view : goal.invariant_of-view
invariant_of-view c = let at = goal.at.invariant_of-view c in record { ready = ready at.Else-not-fits (proper at.Start) }

pub call_fitting-requires : goal.call_fitting-requires
call_fitting-requires c =
    let at = goal.at.call_fitting-requires c in
    (ready at.Else-not-fits (proper at.Start), c.is_active.ensures, c.none_empty.ensures)
