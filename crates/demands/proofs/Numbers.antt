-- Each number at a line, by the rules: computed from the reading of the lines, with which the rules agree.
use Prim.Native.Nat.{ℕ}
use mathlib.Core.Path.{◌≡◌, refl}
use mathlib.Core.List.{List, [], ◌∷◌, ◌++◌}
use mathlib.Core.Bool.{Bool, true, false, ◌&&◌, false≢true}
use borrow.Author.Tests.{eqb-true}
use lib.Dec.{eqb}
use lib.ListN.{length}
use Rattle.basics.proofs.Bools.{both}
use Rattle.law.specs.Bytes.{permitted, all_of, begins, ascii}
use Rattle.text_fields.specs.FirstField.{span, ends_well, bare_at, closed_at, quoted_at, field_at, field_of}
use Rattle.text_fields.specs.Fields.{fields_in, fields_of}
use Rattle.number.specs.Numbers.{digit_here, to_count, decimals, whole, body, read_number}
use Rattle.number.specs.Integers.{digits, unsigned, read_integer}
use Rattle.law.specs.Dates.{date_pieces, is_two, fits_in, is_date}
use Rattle.law.specs.Words.{words_of, same_bytes, word_at, named, is_in, folded}
use Rattle.law.specs.Sections.{section_names, sections}
use Rattle.form.specs.Compare.{place_of}
use Rattle.law.specs.Kinds.{kind_at, section_of, line_of, role_of}
use Rattle.law.specs.Layouts.{layout_of, types_of}
use Rattle.law.specs.Fits.{kept, within, barred, meaning, is_empty, good_text, fits, fits_all, well_formed, is_name}
use Rattle.form.specs.Fits.{beyond}
use Rattle.form.specs.Reading.{read_field, read_each, read_fields, line_as, key_from, keyword_of}
use Rattle.law.specs.declared.Rules.TheVariants.{Idf3}
use Rattle.basics.specs.Integers.{eq_z}
use Rattle.order_loops.specs.Loops.{loop_after}
use Rattle.law.specs.Records.{shape_of, many_loops, is_middle, names_a_component}
use Rattle.order.specs.Stages.{may_open, after}
use Rattle.order.specs.Places.{data_kind, key_kind}
use Rattle.order.specs.Automaton.{start, advance, may_stand}
use Rattle.shown_told.specs.Told.{said_at, line_says, Told, ended, broken, told_from}
use Rattle.law.specs.LineFaults.{FaultyAfter}
use Rattle.shown_told.proofs.Numbered.{told_faulty}

-- a line, the lines before it, and the number that it is faulty by
record Case : Type 0 where
  number : ℕ
  before : List (List ℕ)
  line : List ℕ

abbrev by : ℕ → List (List ℕ) → List ℕ → Case
by n ls l = record { number = n; before = ls; line = l }

abbrev is_broken : Told → ℕ → ℕ → Bool
is_broken (ended rs st) k n = false
is_broken (broken j m) k n = eqb j k && eqb m n

-- whether the lines of each case are refused at its line, by its number
abbrev refuses : List Case → Bool
refuses [] = true
refuses (c ∷ cs) = is_broken (told_from Idf3 [] start (c.before ++ (c.line ∷ []))) (length c.before) c.number && refuses cs

abbrev Faulty : List Case → Type 0
Faulty [] = Unit {0}
Faulty (c ∷ cs) = FaultyAfter Idf3 c.before c.line c.number × Faulty cs

broken_is : (t : Told) (k n : ℕ) → is_broken t k n ≡ true → t ≡ broken k n
broken_is (ended rs st) k n h = absurd (false≢true h)
broken_is (broken j m) k n h = let w = both (eqb j k) (eqb m n) h in rw (eqb-true j k w.0, eqb-true m n w.1) refl

refused_all : (cs : List Case) → refuses cs ≡ true → Faulty cs
refused_all [] h = tt
refused_all (c ∷ cs) h =
    let w = both _ (refuses cs) h in
    ((told_faulty Idf3 c.line [] c.before c.number).0 (broken_is _ (length c.before) c.number w.0), refused_all cs w.1)

-- lines before: of a board up to where its title, its outline, its placements, its notes, its holes are expected, and all of it; of a library up to a component's points
abbrev title : List (List ℕ)
title = ascii ".HEADER" ∷ []

abbrev board : List (List ℕ)
board = title ++ (ascii "BOARD_FILE 3.0 s 2024/05/06.07:08:09 1" ∷ ascii "n MM" ∷ ascii ".END_HEADER" ∷ [])

abbrev outline : List (List ℕ)
outline = board ++ (ascii ".BOARD_OUTLINE MCAD" ∷ [])

abbrev middle : List (List ℕ)
middle = outline ++ (ascii "1" ∷ ascii "0 0 0 0" ∷ ascii "0 1 0 360" ∷ ascii ".END_BOARD_OUTLINE" ∷ [])

abbrev notes : List (List ℕ)
notes = middle ++ (ascii ".NOTES" ∷ [])

abbrev holes : List (List ℕ)
holes = middle ++ (ascii ".DRILLED_HOLES" ∷ [])

abbrev placements : List (List ℕ)
placements = middle ++ (ascii ".PLACEMENT" ∷ [])

abbrev all : List (List ℕ)
all = placements ++ (ascii ".END_PLACEMENT" ∷ [])

abbrev component : List (List ℕ)
component = title ++ (ascii "LIBRARY_FILE 3.0 s 2024/05/06.07:08:09 1" ∷ ascii ".END_HEADER" ∷ ascii ".ELECTRICAL" ∷ ascii "g p MM 1" ∷ [])

abbrev circle : List (List ℕ)
circle = component ++ (ascii "0 0 0 0" ∷ ascii "0 1 0 360" ∷ [])

-- 3, forbidden byte: TAB, 13, 127, also where the quoting is broken or the keyword unknown
abbrev with3 : List Case
with3 =
    by 3 [] (9 ∷ [])
    ∷ by 3 title (32 ∷ 13 ∷ [])
    ∷ by 3 title (66 ∷ 127 ∷ [])
    ∷ by 3 [] (46 ∷ 70 ∷ 32 ∷ 34 ∷ 9 ∷ [])
    ∷ []

-- 4, broken quoting, also with an unknown keyword, or where nothing may follow
abbrev with4 : List Case
with4 =
    by 4 [] (ascii ".FOO \"")
    ∷ by 4 placements (ascii "\"a\"b c d")
    ∷ by 4 placements (ascii "a\"b c d")
    ∷ by 4 all (ascii "\"")
    ∷ []

-- 5, no such line here: a blank line and a comment in a section; an unknown keyword; a closing line before the first data line; a point after PROP; one section too many
abbrev with5 : List Case
with5 =
    by 5 title []
    ∷ by 5 title (ascii "# x")
    ∷ by 5 [] (ascii ".HEADERS")
    ∷ by 5 [] (ascii "\".HEADER\"")
    ∷ by 5 outline (ascii ".END_BOARD_OUTLINE x")
    ∷ by 5 board (ascii ".PLACEMENT")
    ∷ by 5 (circle ++ (ascii "PROP a b" ∷ [])) (ascii "0 0 0 0")
    ∷ by 5 all (ascii ".NOTES")
    ∷ []

-- 6, number of fields, before any field
abbrev with6 : List Case
with6 =
    by 6 [] (ascii ".HEADER x")
    ∷ by 6 board (ascii ".BOARD_OUTLINE")
    ∷ by 6 component (ascii "PROP a")
    ∷ by 6 circle (ascii "prop a b c")
    ∷ by 6 circle (ascii "\"PROP\" a b")
    ∷ by 6 circle (ascii "0 5 5")
    ∷ []

-- 7, not a number or integer, or past its magnitude: which is judged without the sixth decimal
abbrev with7 : List Case
with7 =
    by 7 notes (ascii "5. 0 0 0 t")
    ∷ by 7 notes (ascii "1000000.000001 0 0 0 t")
    ∷ by 7 title (ascii "BOARD_FILE \"3.0\" s 2024/05/06.07:08:09 1")
    ∷ by 7 title (ascii "BOARD_FILE 3 s 2024/05/06.07:08:09 1.0")
    ∷ by 7 component (ascii "0 0 0 1000000")
    ∷ []

-- 8, finer than five decimals, before its limit
abbrev with8 : List Case
with8 =
    by 8 notes (ascii "999999.999999 0 0 0 t")
    ∷ by 8 component (ascii "0 0 0 360.000001")
    ∷ by 8 title (ascii "BOARD_FILE 3.000001 s 2024/05/06.07:08:09 1")
    ∷ []

-- 9, word, version, date, BOARD in a board; the first such field before a later one
abbrev with9 : List Case
with9 =
    by 9 board (ascii ".BOARD_OUTLINE \"mcad\"")
    ∷ by 9 board (ascii ".BOARD_OUTLINE top")
    ∷ by 9 title (ascii "BOARD_FILE 2.0 s 2024/05/06.07:08:09 1")
    ∷ by 9 title (ascii "BOARD_FILE 3 s 10/22/96.16:20:19 1")
    ∷ by 9 title (ascii "FOO x s 2024/05/06.07:08:09 1")
    ∷ by 9 placements (ascii "a b \"BOARD\"")
    ∷ by 9 placements (ascii "a b Board")
    ∷ []

-- 10, a sign or an angle, before a later field that is no number
abbrev with10 : List Case
with10 =
    by 10 component (ascii "0 0 0 -360")
    ∷ by 10 holes (ascii "0 x 0 PTH J P MCAD")
    ∷ by 10 component (ascii "5 0 0 400")
    ∷ []

-- 11, the loop rule: the angle of a first point; a closing or PROP line too early; a point after a circle; the same place again; a label
abbrev with11 : List Case
with11 =
    by 11 component (ascii "0 0 0 360")
    ∷ by 11 (outline ++ (ascii "1" ∷ [])) (ascii ".END_BOARD_OUTLINE")
    ∷ by 11 (component ++ (ascii "0 0 0 0" ∷ [])) (ascii "PROP a b")
    ∷ by 11 (component ++ (ascii "0 0 0 0" ∷ [])) (ascii "prop a b")
    ∷ by 11 circle (ascii "0 5 5 0")
    ∷ by 11 (component ++ (ascii "0 0 0 0" ∷ [])) (ascii "0 0 -0.0 0")
    ∷ by 11 component (ascii "2 0 0 0")
    ∷ []

-- 12, geometry and part used before, in either kind of component and however they are quoted
abbrev with12 : List Case
with12 =
    by 12 (circle ++ (ascii ".END_ELECTRICAL" ∷ ascii ".MECHANICAL" ∷ [])) (ascii "g p MM 1")
    ∷ by 12 (circle ++ (ascii ".END_ELECTRICAL" ∷ ascii ".ELECTRICAL" ∷ [])) (ascii "\"g\" \"p\" THOU 2")
    ∷ []

pub each_number : Faulty with3 × Faulty with4 × Faulty with5 × Faulty with6 × Faulty with7 × Faulty with8 × Faulty with9 × Faulty with10 × Faulty with11 × Faulty with12
unfolding told_from line_says said_at line_as begins all_of permitted fields_of fields_in field_of field_at bare_at quoted_at closed_at ends_well span keyword_of key_from folded same_bytes word_at place_of words_of sections section_names kind_at section_of line_of role_of layout_of types_of key_kind data_kind may_stand may_open shape_of advance well_formed fits_all fits good_text is_empty meaning is_name named is_in kept within beyond barred read_fields read_each read_field read_number body whole decimals to_count digit_here read_integer unsigned digits is_date fits_in is_two date_pieces names_a_component loop_after eq_z many_loops is_middle after
each_number = (
  refused_all with3 refl,
  refused_all with4 refl,
  refused_all with5 refl,
  refused_all with6 refl,
  refused_all with7 refl,
  refused_all with8 refl,
  refused_all with9 refl,
  refused_all with10 refl,
  refused_all with11 refl,
  refused_all with12 refl,
)
