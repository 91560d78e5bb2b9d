-- `fields::put_step_fields`: two fields or three, one after the other. Assumes nothing.
use mathlib.Core.Path.{◌≡◌, ap, sym, ◌∙◌}
use mathlib.Core.List.{List, [], ◌∷◌, ◌++◌, append-nil}
use Prim.Native.Nat.{ℕ, ◌≤◌}
use native.Mathlib.Omega.{arith}
use lib.ListN.{length}
use Rattle.problem.proofs.Apart.{parts_two, parts_three}
use Rattle.fields.specs.Print.{field, fields_text}
use Rattle.trace.proofs.Parts.{small_parts}
use Rattle.fields.proofs.Laws.{same_text, after}
use Rattle.fields.proofs.put_step_fields.Goals as goal

two_text : (x y : ℕ) → field x ++ field y ≡ fields_text (x ∷ y ∷ [])
unfolding fields_text
two_text x y = ap (λ (w : List ℕ). field x ++ w) (sym (append-nil (field y)))

three_text : (x y z : ℕ) → field x ++ (field y ++ field z) ≡ fields_text (x ∷ y ∷ z ∷ [])
unfolding fields_text
three_text x y z = ap (λ (w : List ℕ). field x ++ (field y ++ w)) (sym (append-nil (field z)))

pub returns-then-parts-eq2 : goal.returns-then-parts-eq2
returns-then-parts-eq2 c =
    let a = c.args in
    let p = c.parts_of-parts in
    let f = c.put_field-p in
    let g = c.put_field-q in
    let room_f : f.result ≤ length a.out.now = omega arith in
    let e = two_text _ _ ∙ ap fields_text (parts_two p.result a.r p.ensures c.if-parts-eq2.true) in
    record { text = same_text _ _ _ _ _ _ e (after _ _ _ _ _ _ _ _ f.ensures.text g.ensures.text room_f); within = omega arith }

pub returns : goal.returns
returns c =
    let a = c.args in
    let p = c.parts_of-parts in
    let f = c.put_field-p in
    let g = c.put_field-q in
    let h = c.put_field in
    let room_f : f.result ≤ length a.out.now = omega arith in
    let room_g : g.result ≤ length f.new.out = omega arith in
    let e = three_text _ _ _ ∙ ap fields_text (parts_three p.result a.r p.ensures (λ e. c.if-parts-eq2.false e)) in
    record { text = same_text _ _ _ _ _ _ e (after _ _ _ _ _ _ _ _ f.ensures.text (after _ _ _ _ _ _ _ _ g.ensures.text h.ensures.text room_g) room_f); within = omega arith }

pub put_field-p-requires : goal.put_field-p-requires
put_field-p-requires c = let s = small_parts _ c.args.r c.parts_of-parts.ensures c.requires.1 in (omega arith, omega arith)

pub put_field-q-requires : goal.put_field-q-requires
put_field-q-requires c = let s = small_parts _ c.args.r c.parts_of-parts.ensures c.requires.1 in (omega arith, omega arith)

pub put_field-requires : goal.put_field-requires
put_field-requires c = let s = small_parts _ c.args.r c.parts_of-parts.ensures c.requires.1 in (omega arith, omega arith)
