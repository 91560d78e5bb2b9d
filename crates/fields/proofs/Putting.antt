-- A loop that writes a text piece by piece: what holds before each turn, at its start, after a turn, and at its end. Assumes nothing.
use mathlib.Core.Path.{◌≡◌, refl, sym, ap, ◌∙◌}
use mathlib.Core.List.{List, [], ◌∷◌, ◌++◌, append_assoc, append-nil}
use Prim.Native.Nat.{ℕ, zero, suc, ◌+◌, ◌*◌, ◌≤◌, ◌<◌}
use native.Mathlib.Nat.{mul-suc, mul-le-mul_left}
use native.Mathlib.Numerals.{add-one}
use native.Mathlib.Omega.{arith}
use lib.ListN.{length, drop, get_or}
use lib.Seq.{drop-cons}
use Rattle.buffers.proofs.Written.{written_nil, length_written}
use Rattle.fields.specs.Print.{field, fields_text}
use Rattle.fields.proofs.Laws.{Puts, same_text, after}

-- Of n pieces of at most `width` bytes, with d in the buffer at first: k are written from `at`, `text` in all, and the whole is these and the rest.
pub record Putting (width n : ℕ) (d : List ℕ) (at : ℕ) (whole : List ℕ) (b : List ℕ) (end k : ℕ) (rest : List ℕ) : Type 0 where
  pub text : List ℕ
  pub puts : Puts d at text b end
  pub split : whole ≡ text ++ rest
  pub within : end ≤ at + width * k
  pub turn : k ≤ n
  pub room : at + width * n ≤ length d

module _ (width n : ℕ) (d : List ℕ) (at : ℕ) (whole : List ℕ) where
  pub putting_start : at + width * n ≤ length d → Putting width n d at whole d at 0 whole
  putting_start l = record { text = []; puts = (sym (written_nil d at), omega arith); split = λ _. whole; within = omega arith; turn = omega arith; room = l }

  module _ (b : List ℕ) (end k : ℕ) (rest : List ℕ) (W : Putting width n d at whole b end k rest) where
    pub kept_length : length b ≡ length d
    kept_length =
        let m : width * k ≤ width * n = mul-le-mul_left width W.turn in
        ap length W.puts.0 ∙ length_written d at W.text (omega (arith, W.puts.1, W.within, W.room))

    one_more : width * (k + 1) ≡ width * k + width
    one_more = ap (λ (x : ℕ). width * x) (add-one k) ∙ mul-suc width k

    -- the longest piece has room
    pub piece_room : k < n → end + width ≤ length b
    piece_room l =
        let m : width * (k + 1) ≤ width * n = mul-le-mul_left width (omega arith) in
        omega (arith, W.within, W.room, kept_length, one_more)

    pub putting_next : k < n → (piece left : List ℕ) → rest ≡ piece ++ left → (b' : List ℕ) (end' : ℕ) → Puts b end piece b' end' → end' ≤ end + width
        → Putting width n d at whole b' end' (k + 1) left
    putting_next l piece left e b' end' p m =
        let r = piece_room l in
        record {
          text = W.text ++ piece;
          puts = after d b b' at end end' W.text piece W.puts p (omega (arith, kept_length));
          split = W.split ∙ ap (λ (x : List ℕ). W.text ++ x) e ∙ sym (append_assoc W.text piece left);
          within = omega (arith, W.within, one_more);
          turn = omega arith;
          room = W.room;
        }

    -- no piece is left
    pub all_put : rest ≡ [] → Puts d at whole b end
    all_put e = same_text d b at end W.text whole (sym (W.split ∙ ap (λ (x : List ℕ). W.text ++ x) e ∙ append-nil W.text)) W.puts

-- ---- numbers one after the other: one more, or none left

pub one_field : (w : List ℕ) (k : ℕ) → k < length w → fields_text (drop k w) ≡ field (get_or w k 0) ++ fields_text (drop (k + 1) w)
unfolding fields_text
one_field w k l = rw (add-one k, drop-cons w k 0 l)

pub no_field : (w : List ℕ) (k : ℕ) → length w ≤ k → fields_text (drop k w) ≡ []
unfolding fields_text
no_field [] zero l = refl
no_field [] (suc k) l = refl
no_field (v ∷ w) zero l = absurd (omega arith)
no_field (v ∷ w) (suc k) l = no_field w k (omega arith)
