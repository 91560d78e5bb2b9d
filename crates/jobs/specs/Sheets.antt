-- Bench sheets of the format, as bytes, in both versions; and what is lent with them.
use Rattle.std.specs.Prelude.{List, [], ◌∷◌, ◌++◌, ℕ, ◌-◌, length, replicate}
use Rattle.problem.specs.declared.Masks.{Masks}

-- a lent buffer: this many bytes of a pattern
abbrev pub lent : ℕ → List ℕ
lent k = replicate k 170

-- a state as masks, the domains of the variables not named being empty
abbrev pub masks : ℕ → List ℕ → Masks
masks a d = record { active = a; domains = d ++ replicate (32 - length d) 0 }

-- A: one item of 2
abbrev pub sheet_a : List ℕ
sheet_a = 1 ∷ 0 ∷ 0 ∷ 0 ∷ 9 ∷ 1 ∷ 0 ∷ 0 ∷ 2 ∷ []

-- B: two items of 2, unequal
abbrev pub sheet_b : List ℕ
sheet_b = 1 ∷ 0 ∷ 0 ∷ 0 ∷ 16 ∷ 2 ∷ 0 ∷ 1 ∷ 2 ∷ 2 ∷ 0 ∷ 1 ∷ 0 ∷ 2 ∷ 0 ∷ 1 ∷ []

-- C: three items of 2, each pair unequal
abbrev pub sheet_c : List ℕ
sheet_c = 1 ∷ 0 ∷ 0 ∷ 0 ∷ 29 ∷ 3 ∷ 0 ∷ 3 ∷ 2 ∷ 2 ∷ 2 ∷ 0 ∷ 1 ∷ 0 ∷ 2 ∷ 0 ∷ 1 ∷ 0 ∷ 2 ∷ 0 ∷ 2 ∷ 0 ∷ 1 ∷ 1 ∷ 2 ∷ 0 ∷ 2 ∷ 0 ∷ 1 ∷ []

-- D: two items of 1, the pair barred
abbrev pub sheet_d : List ℕ
sheet_d = 1 ∷ 0 ∷ 0 ∷ 0 ∷ 14 ∷ 2 ∷ 0 ∷ 1 ∷ 1 ∷ 1 ∷ 0 ∷ 1 ∷ 0 ∷ 0 ∷ []

-- E: items 1, 2, 3 each unequal to item 0, 2 settings
abbrev pub sheet_e : List ℕ
sheet_e = 1 ∷ 0 ∷ 0 ∷ 0 ∷ 30 ∷ 4 ∷ 0 ∷ 3 ∷ 2 ∷ 2 ∷ 2 ∷ 2 ∷ 0 ∷ 1 ∷ 0 ∷ 2 ∷ 0 ∷ 1 ∷ 0 ∷ 2 ∷ 0 ∷ 2 ∷ 0 ∷ 1 ∷ 0 ∷ 3 ∷ 0 ∷ 2 ∷ 0 ∷ 1 ∷ []

-- F: three items of 3; item 0 unequal to 1 and to 2; item 1 at least item 2
abbrev pub sheet_f : List ℕ
sheet_f =
    1 ∷ 0 ∷ 0 ∷ 0 ∷ 35 ∷ 3 ∷ 0 ∷ 3 ∷ 3 ∷ 3 ∷ 3
    ∷ 0 ∷ 1 ∷ 0 ∷ 6 ∷ 0 ∷ 5 ∷ 0 ∷ 3
    ∷ 0 ∷ 2 ∷ 0 ∷ 6 ∷ 0 ∷ 5 ∷ 0 ∷ 3
    ∷ 1 ∷ 2 ∷ 0 ∷ 1 ∷ 0 ∷ 3 ∷ 0 ∷ 7
    ∷ []

-- G: C with item 3 equal to item 0
abbrev pub sheet_g : List ℕ
sheet_g =
    1 ∷ 0 ∷ 0 ∷ 0 ∷ 36 ∷ 4 ∷ 0 ∷ 4 ∷ 2 ∷ 2 ∷ 2 ∷ 2
    ∷ 0 ∷ 1 ∷ 0 ∷ 2 ∷ 0 ∷ 1
    ∷ 0 ∷ 2 ∷ 0 ∷ 2 ∷ 0 ∷ 1
    ∷ 0 ∷ 3 ∷ 0 ∷ 1 ∷ 0 ∷ 2
    ∷ 1 ∷ 2 ∷ 0 ∷ 2 ∷ 0 ∷ 1
    ∷ []

-- H: C with a third setting at item 0 allowed as setting 0 is
abbrev pub sheet_h : List ℕ
sheet_h =
    1 ∷ 0 ∷ 0 ∷ 0 ∷ 33 ∷ 3 ∷ 0 ∷ 3 ∷ 3 ∷ 2 ∷ 2
    ∷ 0 ∷ 1 ∷ 0 ∷ 2 ∷ 0 ∷ 1 ∷ 0 ∷ 2
    ∷ 0 ∷ 2 ∷ 0 ∷ 2 ∷ 0 ∷ 1 ∷ 0 ∷ 2
    ∷ 1 ∷ 2 ∷ 0 ∷ 2 ∷ 0 ∷ 1
    ∷ []

-- a lawful slide: setting 1 of item 0 is allowed with setting 1 of item 1 only, and setting 0 with both
abbrev pub sheet_slide : List ℕ
sheet_slide = 1 ∷ 0 ∷ 0 ∷ 0 ∷ 16 ∷ 2 ∷ 0 ∷ 1 ∷ 2 ∷ 2 ∷ 0 ∷ 1 ∷ 0 ∷ 3 ∷ 0 ∷ 2 ∷ []

-- K: items of 3, 2 and 2; the run takes a slide, and by the rulebook of before it took no step
abbrev pub sheet_k : List ℕ
sheet_k =
    1 ∷ 0 ∷ 0 ∷ 0 ∷ 33 ∷ 3 ∷ 0 ∷ 3 ∷ 3 ∷ 2 ∷ 2
    ∷ 0 ∷ 1 ∷ 0 ∷ 1 ∷ 0 ∷ 2 ∷ 0 ∷ 1
    ∷ 0 ∷ 2 ∷ 0 ∷ 2 ∷ 0 ∷ 1 ∷ 0 ∷ 1
    ∷ 1 ∷ 2 ∷ 0 ∷ 2 ∷ 0 ∷ 3
    ∷ []

-- L: items of 3, 3 and 2; a bare step follows a slide
abbrev pub sheet_l : List ℕ
sheet_l =
    1 ∷ 0 ∷ 0 ∷ 0 ∷ 35 ∷ 3 ∷ 0 ∷ 3 ∷ 3 ∷ 3 ∷ 2
    ∷ 0 ∷ 1 ∷ 0 ∷ 6 ∷ 0 ∷ 1 ∷ 0 ∷ 4
    ∷ 0 ∷ 2 ∷ 0 ∷ 1 ∷ 0 ∷ 1 ∷ 0 ∷ 3
    ∷ 1 ∷ 2 ∷ 0 ∷ 1 ∷ 0 ∷ 3 ∷ 0 ∷ 2
    ∷ []

-- several fitting choices: two items of 3, unequal
abbrev pub sheet_choice : List ℕ
sheet_choice = 1 ∷ 0 ∷ 0 ∷ 0 ∷ 18 ∷ 2 ∷ 0 ∷ 1 ∷ 3 ∷ 3 ∷ 0 ∷ 1 ∷ 0 ∷ 6 ∷ 0 ∷ 5 ∷ 0 ∷ 3 ∷ []

-- a fold that holds only once item 2 is out
abbrev pub sheet_fold : List ℕ
sheet_fold = 1 ∷ 0 ∷ 0 ∷ 0 ∷ 23 ∷ 3 ∷ 0 ∷ 2 ∷ 2 ∷ 2 ∷ 2 ∷ 0 ∷ 1 ∷ 0 ∷ 1 ∷ 0 ∷ 2 ∷ 1 ∷ 2 ∷ 0 ∷ 1 ∷ 0 ∷ 3 ∷ []

-- a removal elsewhere: setting 1 of item 1 has no partner at item 0
abbrev pub sheet_elsewhere : List ℕ
sheet_elsewhere = 1 ∷ 0 ∷ 0 ∷ 0 ∷ 14 ∷ 2 ∷ 0 ∷ 1 ∷ 1 ∷ 2 ∷ 0 ∷ 1 ∷ 0 ∷ 1 ∷ []

-- ---- the sheets in version 2: items have 8 settings or fewer, and a row one byte

abbrev pub short_a : List ℕ
short_a = 2 ∷ 0 ∷ 0 ∷ 0 ∷ 9 ∷ 1 ∷ 0 ∷ 0 ∷ 2 ∷ []

abbrev pub short_b : List ℕ
short_b = 2 ∷ 0 ∷ 0 ∷ 0 ∷ 14 ∷ 2 ∷ 0 ∷ 1 ∷ 2 ∷ 2 ∷ 0 ∷ 1 ∷ 2 ∷ 1 ∷ []

abbrev pub short_c : List ℕ
short_c = 2 ∷ 0 ∷ 0 ∷ 0 ∷ 23 ∷ 3 ∷ 0 ∷ 3 ∷ 2 ∷ 2 ∷ 2 ∷ 0 ∷ 1 ∷ 2 ∷ 1 ∷ 0 ∷ 2 ∷ 2 ∷ 1 ∷ 1 ∷ 2 ∷ 2 ∷ 1 ∷ []

abbrev pub short_d : List ℕ
short_d = 2 ∷ 0 ∷ 0 ∷ 0 ∷ 13 ∷ 2 ∷ 0 ∷ 1 ∷ 1 ∷ 1 ∷ 0 ∷ 1 ∷ 0 ∷ []

abbrev pub short_e : List ℕ
short_e = 2 ∷ 0 ∷ 0 ∷ 0 ∷ 24 ∷ 4 ∷ 0 ∷ 3 ∷ 2 ∷ 2 ∷ 2 ∷ 2 ∷ 0 ∷ 1 ∷ 2 ∷ 1 ∷ 0 ∷ 2 ∷ 2 ∷ 1 ∷ 0 ∷ 3 ∷ 2 ∷ 1 ∷ []

abbrev pub short_f : List ℕ
short_f = 2 ∷ 0 ∷ 0 ∷ 0 ∷ 26 ∷ 3 ∷ 0 ∷ 3 ∷ 3 ∷ 3 ∷ 3 ∷ 0 ∷ 1 ∷ 6 ∷ 5 ∷ 3 ∷ 0 ∷ 2 ∷ 6 ∷ 5 ∷ 3 ∷ 1 ∷ 2 ∷ 1 ∷ 3 ∷ 7 ∷ []

abbrev pub short_g : List ℕ
short_g = 2 ∷ 0 ∷ 0 ∷ 0 ∷ 28 ∷ 4 ∷ 0 ∷ 4 ∷ 2 ∷ 2 ∷ 2 ∷ 2 ∷ 0 ∷ 1 ∷ 2 ∷ 1 ∷ 0 ∷ 2 ∷ 2 ∷ 1 ∷ 0 ∷ 3 ∷ 1 ∷ 2 ∷ 1 ∷ 2 ∷ 2 ∷ 1 ∷ []

abbrev pub short_h : List ℕ
short_h = 2 ∷ 0 ∷ 0 ∷ 0 ∷ 25 ∷ 3 ∷ 0 ∷ 3 ∷ 3 ∷ 2 ∷ 2 ∷ 0 ∷ 1 ∷ 2 ∷ 1 ∷ 2 ∷ 0 ∷ 2 ∷ 2 ∷ 1 ∷ 2 ∷ 1 ∷ 2 ∷ 2 ∷ 1 ∷ []

abbrev pub short_slide : List ℕ
short_slide = 2 ∷ 0 ∷ 0 ∷ 0 ∷ 14 ∷ 2 ∷ 0 ∷ 1 ∷ 2 ∷ 2 ∷ 0 ∷ 1 ∷ 3 ∷ 2 ∷ []

abbrev pub short_k : List ℕ
short_k = 2 ∷ 0 ∷ 0 ∷ 0 ∷ 25 ∷ 3 ∷ 0 ∷ 3 ∷ 3 ∷ 2 ∷ 2 ∷ 0 ∷ 1 ∷ 1 ∷ 2 ∷ 1 ∷ 0 ∷ 2 ∷ 2 ∷ 1 ∷ 1 ∷ 1 ∷ 2 ∷ 2 ∷ 3 ∷ []

abbrev pub short_l : List ℕ
short_l = 2 ∷ 0 ∷ 0 ∷ 0 ∷ 26 ∷ 3 ∷ 0 ∷ 3 ∷ 3 ∷ 3 ∷ 2 ∷ 0 ∷ 1 ∷ 6 ∷ 1 ∷ 4 ∷ 0 ∷ 2 ∷ 1 ∷ 1 ∷ 3 ∷ 1 ∷ 2 ∷ 1 ∷ 3 ∷ 2 ∷ []

abbrev pub short_choice : List ℕ
short_choice = 2 ∷ 0 ∷ 0 ∷ 0 ∷ 15 ∷ 2 ∷ 0 ∷ 1 ∷ 3 ∷ 3 ∷ 0 ∷ 1 ∷ 6 ∷ 5 ∷ 3 ∷ []

abbrev pub short_fold : List ℕ
short_fold = 2 ∷ 0 ∷ 0 ∷ 0 ∷ 19 ∷ 3 ∷ 0 ∷ 2 ∷ 2 ∷ 2 ∷ 2 ∷ 0 ∷ 1 ∷ 1 ∷ 2 ∷ 1 ∷ 2 ∷ 1 ∷ 3 ∷ []

abbrev pub short_elsewhere : List ℕ
short_elsewhere = 2 ∷ 0 ∷ 0 ∷ 0 ∷ 13 ∷ 2 ∷ 0 ∷ 1 ∷ 1 ∷ 2 ∷ 0 ∷ 1 ∷ 1 ∷ []
