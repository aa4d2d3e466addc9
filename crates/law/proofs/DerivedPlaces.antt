-- Places as the rules give them, derived step by step: of quoted fields, of rows, and of the line reader; an edit of a rule is refused here.
use Prim.Native.Nat.{ℕ, ◌+◌, ◌<◌}
use mathlib.Core.Path.{◌≡◌, refl, ap}
use mathlib.Core.List.{List, [], ◌∷◌, ◌++◌}
use mathlib.Core.Bool.{true, false, false≢true}
use native.Mathlib.Omega.{arith}
use lib.IntN.{ℤ, pos}
use lib.ListN.{length, get_or, length-append}
use Rattle.law.specs.Bytes as by
use Rattle.law.specs.Bytes.{permitted, begins, in_bare, ascii, All}
use Rattle.law.specs.Lines as lines
use Rattle.law.specs.Fields as rules
use Rattle.law.specs.Fields.{Field, field, Spells, bare, quoted, Spelled}
use Rattle.law.specs.Words.{same_bytes, named, is_in, folded}
use Rattle.law.specs.Sections.{sections}
use Rattle.law.specs.Kinds.{section_of, line_of, role_of}
use Rattle.law.specs.Layouts.{layout_of}
use Rattle.law.specs.Values.{text, Rec}
use Rattle.law.specs.Fits.{under, meaning, barred, is_name}
use Rattle.law.specs.RecordSpelling as spelled
use Rattle.law.specs.RecordSpelling.{SpellsRecord, as_text, with_prop, as_line}
use Rattle.law.specs.Answers.{reply}
use Rattle.law.specs.declared.Rules.TheVariants.{Idf3}
use Rattle.law.specs.declared.FileType.TheVariants.{Library}
use Rattle.law.specs.declared.Texts.TheVariants.{Plain}
use Rattle.law.specs.FieldPlaces.{SpelledAt, end, space, last, next, numbers_of}
use Rattle.law.specs.Rows.{with_line}
use Rattle.law.specs.RowPlaces as rows
use Rattle.law.specs.RowPlaces.{columns_of_all, RowOf, RowsOf}
use Rattle.law.specs.Viewing.{comment, fields, Shown, no_line, not_permitted, no_fields, too_short, whole, after_0, after_3, after_4, MovesOn, Called, opened, moved, stayed}
use Rattle.law.specs.WordSpelling.{end, same}

-- a bare field, and one that is quoted, in a line that begins at 8
pub quoted_place : SpelledAt 8 (record { at = 8; what = field false (ascii "a") } ∷ record { at = 11; what = field true (ascii "b c") } ∷ []) (97 ∷ 32 ∷ 34 ∷ 98 ∷ 32 ∷ 99 ∷ 34 ∷ [])
quoted_place = next (bare (by.one refl by.none)) (space (last (quoted (by.one refl (by.one refl (by.one refl by.none))))))

-- PROP A A, at its own place
abbrev pub property : List ℕ
property = ascii "PROP A A"

abbrev pub its : Rec
its = record { kind = 143; values = text (ascii "A") ∷ text (ascii "A") ∷ [] }

-- its row, where the texts begin at these places
abbrev pub row_from : ℕ → ℕ → List ℤ
row_from a b = pos 143 ∷ pos a ∷ pos 1 ∷ pos b ∷ pos 1 ∷ pos 0 ∷ pos 0 ∷ pos 0 ∷ pos 0 ∷ pos 0 ∷ []

one_byte : (b : ℕ) → in_bare b ≡ true → Spells (field false (b ∷ [])) (b ∷ [])
one_byte b h = bare (by.one h by.none)

four : Spells (field false (ascii "PROP")) (ascii "PROP")
four = bare (by.one refl (by.one refl (by.one refl (by.one refl by.none))))

spells_property : SpellsRecord (under Idf3 Library) its property
unfolding layout_of section_of line_of role_of sections same_bytes meaning is_name named is_in folded barred permitted
spells_property =
    as_line refl
    (with_prop {p = ascii "PROP"} (same refl (same refl (same refl (same refl end))))
    (spelled.more (as_text {k = Plain} {s = ascii "A"} refl) (spelled.more (as_text {k = Plain} {s = ascii "A"} refl) spelled.none))
    (rules.next four (rules.space (rules.next (one_byte 65 refl) (rules.space (rules.last (one_byte 65 refl))))))
    (by.one refl (by.one refl (by.one refl (by.one refl (by.one refl (by.one refl (by.one refl (by.one refl by.none)))))))))

pub its_row : (b : ℕ) → RowOf b property its (row_from (b + 4 + 1) (b + 4 + 1 + 1 + 1))
unfolding columns_of_all
its_row b =
    record {
      front = record { at = b; what = field false (ascii "PROP") } ∷ [];
      own = record { at = b + 4 + 1; what = field false (ascii "A") } ∷ record { at = b + 4 + 1 + 1 + 1; what = field false (ascii "A") } ∷ [];
      left = 5;
      spelled = next four (space (next (one_byte 65 refl) (space (last (one_byte 65 refl)))));
      each = refl;
      is = refl;
      ten = refl;
    }

-- three such lines: the second begins at 10, behind the bytes 13 and 10 of the first, and the third at 20, behind the byte 10 of the second and
-- that of the empty line 3
abbrev thrice : List ℕ
thrice = property ++ (13 ∷ 10 ∷ (property ++ (10 ∷ 10 ∷ (property ++ (10 ∷ [])))))

pub three_properties : RowsOf (under Idf3 Library) thrice (property ∷ property ∷ [] ∷ property ∷ []) (its ∷ its ∷ its ∷ [])
    (with_line (row_from 5 7) (pos 1) ++ (with_line (row_from 15 17) (pos 2) ++ (with_line (row_from 25 27) (pos 4) ++ [])))
unfolding lines.end_bytes
three_properties =
    rows.line spells_property (its_row 0)
    (rows.line spells_property (its_row 10) (rows.free (lines.blank by.none) (rows.line spells_property (its_row 20) rows.end)))

-- The line reader, over a comment, a tab, a quote before 13 and 10, and two fields, with a slice of two numbers; then with one of five

abbrev four_lines : List ℕ
four_lines = 35 ∷ 120 ∷ 10 ∷ 9 ∷ 10 ∷ 34 ∷ 13 ∷ 10 ∷ 97 ∷ 32 ∷ 98 ∷ 10 ∷ []

abbrev sevens : List ℤ
sevens = pos 7 ∷ pos 7 ∷ []

two_fields : SpelledAt 8 (record { at = 8; what = field false (ascii "a") } ∷ record { at = 10; what = field false (ascii "b") } ∷ []) (97 ∷ 32 ∷ 98 ∷ [])
two_fields = next (one_byte 97 refl) (space (last (one_byte 98 refl)))

-- the lines from each place on
fourth_on : lines.File ((97 ∷ 32 ∷ 98 ∷ []) ∷ []) (97 ∷ 32 ∷ 98 ∷ 10 ∷ [])
unfolding by.ends_in
fourth_on = lines.next (by.one refl (by.one refl (by.one refl by.none))) (lines.by_10 refl) lines.none

third_on : lines.File ((34 ∷ []) ∷ (97 ∷ 32 ∷ 98 ∷ []) ∷ []) (34 ∷ 13 ∷ 10 ∷ 97 ∷ 32 ∷ 98 ∷ 10 ∷ [])
third_on = lines.next (by.one refl by.none) lines.by_13_10 fourth_on

second_on : lines.File ((9 ∷ []) ∷ (34 ∷ []) ∷ (97 ∷ 32 ∷ 98 ∷ []) ∷ []) (9 ∷ 10 ∷ 34 ∷ 13 ∷ 10 ∷ 97 ∷ 32 ∷ 98 ∷ 10 ∷ [])
unfolding by.ends_in
second_on = lines.next (by.one refl by.none) (lines.by_10 refl) third_on

first_on : lines.File ((35 ∷ 120 ∷ []) ∷ (9 ∷ []) ∷ (34 ∷ []) ∷ (97 ∷ 32 ∷ 98 ∷ []) ∷ []) four_lines
unfolding by.ends_in
first_on = lines.next (by.one refl (by.one refl by.none)) (lines.by_10 refl) second_on

tab_barred : All permitted (9 ∷ []) → ⊥
unfolding permitted
tab_barred (by.one h a) = false≢true h

spells_some : {f : Field} {s : List ℕ} → Spells f s → 0 < length s
spells_some (bare a) = omega arith
spells_some (quoted a) = omega arith

quote_alone : {f : Field} {s : List ℕ} → Spells f s → s ≡ 34 ∷ [] → ⊥
quote_alone (bare {b = b} (by.one h a)) e = let i : b ≡ 34 = ap (λ (u : List ℕ). get_or u 0 0) e in false≢true (rw i at h)
quote_alone (quoted {s = s} a) e = omega (arith, ap length e, length-append s (34 ∷ []))

no_quote : {fs : List Field} {s : List ℕ} → Spelled fs s → s ≡ 34 ∷ [] → ⊥
no_quote rules.end e = omega (arith, ap length e)
no_quote (rules.space r) e = omega (arith, ap (λ (u : List ℕ). get_or u 0 0) e)
no_quote (rules.last p) e = quote_alone p e
no_quote (rules.next {s = s} {t = t} p r) e = omega (arith, ap length e, length-append s (32 ∷ t), spells_some p)

-- 0 for the comment, 3 for the tab, 4 for the quote, and 2 where four numbers are needed
pub first_call : Shown four_lines 0 1 sevens (reply 0 0 0) 3 2 sevens
unfolding numbers_of begins lines.end_bytes
first_call = whole (omega arith) first_on (comment refl) (omega arith)

pub second_call : Shown four_lines 3 2 sevens (reply 3 2 0) 5 3 sevens
unfolding begins lines.end_bytes
second_call = not_permitted (omega arith) second_on refl tab_barred

pub third_call : Shown four_lines 5 3 sevens (reply 4 3 0) 8 4 sevens
unfolding begins permitted lines.end_bytes
third_call = no_fields (omega arith) third_on refl (by.one refl by.none) (λ fs p. no_quote p refl)

pub fourth_call : Shown four_lines 8 4 sevens (reply 2 0 2) 8 4 sevens
unfolding begins permitted
fourth_call = too_short (omega arith) fourth_on (fields refl (by.one refl (by.one refl (by.one refl by.none))) two_fields) (omega arith)

pub fifth_call : Shown four_lines 8 4 (pos 7 ∷ pos 7 ∷ pos 7 ∷ sevens) (reply 0 0 2) 12 5 (pos 8 ∷ pos 1 ∷ pos 10 ∷ pos 1 ∷ pos 7 ∷ [])
unfolding begins permitted numbers_of lines.end_bytes
fifth_call = whole (omega arith) fourth_on (fields refl (by.one refl (by.one refl (by.one refl by.none))) two_fields) (omega arith)

pub sixth_call : Shown four_lines 12 5 sevens (reply 13 5 0) 12 5 sevens
sixth_call = no_line (omega arith) lines.none

no_move : {k : ℕ} → MovesOn k → (k ≡ 2 → ⊥) × (k ≡ 13 → ⊥)
no_move after_0 = (λ e. omega arith, λ e. omega arith)
no_move after_3 = (λ e. omega arith, λ e. omega arith)
no_move after_4 = (λ e. omega arith, λ e. omega arith)

-- four of the six moved the reader on
pub six_calls : Called four_lines 4 12 5
six_calls =
    stayed
    (moved
    (stayed (moved (moved (moved opened first_call after_0) second_call after_3) third_call after_4) fourth_call (λ q. (no_move q).0 refl))
    fifth_call after_0)
    sixth_call (λ q. (no_move q).1 refl)
