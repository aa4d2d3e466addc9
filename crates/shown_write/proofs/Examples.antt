-- A small library's rows, written: computed from the definitions, so that no theorem here speaks of nothing.
use Prim.Native.Nat.{ℕ, ◌+◌, ◌≤◌}
use mathlib.Core.Path.{◌≡◌, refl, sym}
use mathlib.Core.List.{List, [], ◌∷◌, ◌++◌}
use native.Mathlib.Omega.{arith}
use lib.IntN.{ℤ, pos}
use lib.ListN.{length, replicate}
use Rattle.rows_texts.specs.Names.{same_names}
use Rattle.basics.specs.Integers.{eq_z}
use Rattle.law.specs.Bytes.{permitted, all_of, begins, ascii}
use Rattle.law.specs.Dates.{date_pieces, is_two, fits_in, is_date}
use Rattle.law.specs.Printing.{numeral_of, decimals_of, magnitude_of, sign_of, printed}
use Rattle.law.specs.Values.{Value, number, word, text, Rec}
use Rattle.law.specs.Words.{words_of, same_bytes, word_at, named, is_in, folded}
use Rattle.law.specs.Sections.{section_names, sections}
use Rattle.law.specs.Kinds.{section_of, line_of, role_of}
use Rattle.law.specs.Layouts.{layout_of, types_of}
use Rattle.form_layouts.specs.Letters.{is_kind}
use Rattle.law.specs.Fits.{within, meaning, barred, is_empty, good_text, fits, fits_all, well_formed, is_name}
use Rattle.law.specs.declared.Rules.TheVariants.{Idf3}
use Rattle.law.specs.Canonical.{needs_quotes, canonical_field, canonical_fields, written, joined, canonical_line, canonical_record, canonical_text}
use Rattle.law.specs.Rows.{none, a_number, a_word, a_date, a_text, with_line, lines_in, RowsSay}
use Rattle.order_loops.specs.Loops.{loop_after}
use Rattle.law.specs.Records.{shape_of, many_loops, names_a_component}
use Rattle.order.specs.Stages.{may_open, after}
use Rattle.order.specs.Automaton.{advance, may_stand, moved, stepped}
use Rattle.law.specs.Lists.{nothing_named}
use Rattle.shown_lists.proofs.Sound.{accepted_permitted}
use Rattle.law.specs.Answers.{limit, reply}
use Rattle.rows_texts.specs.Texts.{same_texts}
use Rattle.read.specs.Replies.{check_reply}
use Rattle.write_columns.specs.Columns.{lies_in, range_fits, integer_fits, word_fits, all_zero, fields_fit, row_fits}
use Rattle.write_columns.specs.Records.{values_in}
use Rattle.write_lines.specs.LineText.{line_text}
use Rattle.write.specs.WholeRows.{chunks, whole_rows}
use Rattle.write.specs.LineNumbers.{rises}
use Rattle.write.specs.Writable.{row_step, carries, names_it, named_in, twice, writable}
use Rattle.write.specs.Outcomes.{text_of, may_write, write_reply, write_text}
use Rattle.law.specs.Rows as rows
use Rattle.shown_write.proofs.RoundTrip.{round_trip}

-- the bytes that the columns below point into
abbrev lent : List ℕ
lent = ascii "2024/05/06.07:08:09gp"

abbrev blank : ℕ → List ℤ
blank k = pos k ∷ replicate 9 (pos 0)

-- the title line's row, with l bytes from the last on and a number behind its values
abbrev title_row : ℕ → ℕ → List ℤ
title_row l z = pos 11 ∷ pos 2 ∷ pos 300_000 ∷ pos 20 ∷ pos l ∷ pos 0 ∷ pos 19 ∷ pos 1 ∷ pos z ∷ pos 0 ∷ []

-- a row on a line
abbrev on : ℕ → List ℤ → List ℤ
on n x = with_line x (pos n)

abbrev header : ℕ → ℕ → List ℤ
header l z = on 1 (blank 10) ++ (on 2 (title_row l z) ++ on 3 (blank 19))

-- ELECTRICAL from line n on, a circle, with the names of one byte that start at a and b
abbrev component : ℕ → ℕ → ℕ → List ℤ
component n a b =
    on n (blank 140)
    ++ (on (n + 1) (pos 141 ∷ pos a ∷ pos 1 ∷ pos b ∷ pos 1 ∷ pos 0 ∷ pos 150_000 ∷ pos 0 ∷ pos 0 ∷ pos 0 ∷ [])
    ++ (on (n + 2) (blank 142) ++ (on (n + 3) (pos 142 ∷ pos 0 ∷ pos 1 ∷ pos 0 ∷ pos 36_000_000 ∷ replicate 5 (pos 0)) ++ on (n + 4) (blank 149))))

-- their text
abbrev header_text : List ℕ
header_text = ascii ".HEADER" ++ (10 ∷ (ascii "LIBRARY_FILE 3.0 p 2024/05/06.07:08:09 1" ++ (10 ∷ (ascii ".END_HEADER" ++ (10 ∷ [])))))

abbrev component_text : List ℕ
component_text =
    ascii ".ELECTRICAL" ++ (10 ∷ (ascii "g p MM 1.50000" ++ (10 ∷ (ascii "0 0.00000 0.00000 0.00000"
    ++ (10 ∷ (ascii "0 0.00001 0.00000 360.00000" ++ (10 ∷ (ascii ".END_ELECTRICAL" ++ (10 ∷ [])))))))))

-- enough room, too little room, more than enough, two numbers behind the last whole row, a component, two of other names
pub writes :
    (write_reply (header 1 0) lent 61 ≡ reply 0 0 61)
    × (write_reply (header 1 0) lent 60 ≡ reply 14 0 61)
    × (write_text (header 1 0) lent (replicate 63 46) ≡ header_text ++ (46 ∷ 46 ∷ []))
    × (write_text (header 1 0) lent (replicate 60 46) ≡ replicate 60 46)
    × (write_reply (header 1 0 ++ (pos 7 ∷ pos 7 ∷ [])) lent 61 ≡ reply 0 0 61)
    × (text_of Idf3 lent (whole_rows (header 1 0 ++ component 4 19 20)) ≡ header_text ++ component_text)
    × (write_reply (header 1 0 ++ component 4 19 20) lent 200 ≡ reply 0 0 158)
    × (write_reply (header 1 0 ++ (component 4 19 20 ++ component 10 20 19)) lent 255 ≡ reply 0 0 255)
unfolding write_reply write_text text_of line_text canonical_record canonical_line canonical_fields canonical_field written joined needs_quotes is_empty all_of begins permitted printed sign_of magnitude_of numeral_of decimals_of words_of word_at layout_of types_of section_of line_of role_of sections section_names is_kind whole_rows chunks may_write rises lines_in writable carries row_step twice named_in names_it same_names same_texts same_bytes row_fits fields_fit all_zero range_fits lies_in integer_fits word_fits fits within good_text meaning is_name named is_in folded barred is_date fits_in is_two date_pieces stepped may_stand moved may_open after shape_of many_loops loop_after eq_z values_in
writes = (refl, refl, refl, refl, refl, refl, refl, refl)

-- 15: no rows; a header that ends too early; bytes past those lent; a number behind the values; a kind that no section has; a name used twice;
-- lines that begin at 0, that stay, that fall
pub refuses :
    (write_reply [] lent 100 ≡ reply 15 0 0)
    × (write_reply (on 1 (blank 10) ++ on 2 (title_row 1 0)) lent 100 ≡ reply 15 0 0)
    × (write_reply (header 2 0) lent 100 ≡ reply 15 0 0)
    × (write_reply (header 1 1) lent 100 ≡ reply 15 0 0)
    × (write_reply (header 1 0 ++ on 4 (blank 160)) lent 100 ≡ reply 15 0 0)
    × (write_reply (header 1 0 ++ (component 4 19 20 ++ component 9 19 20)) lent 100 ≡ reply 15 0 0)
    × (write_reply (on 0 (blank 10) ++ (on 1 (title_row 1 0) ++ on 2 (blank 19))) lent 100 ≡ reply 15 0 0)
    × (write_reply (on 1 (blank 10) ++ (on 2 (title_row 1 0) ++ on 2 (blank 19))) lent 100 ≡ reply 15 0 0)
    × (write_reply (on 1 (blank 10) ++ (on 3 (title_row 1 0) ++ on 2 (blank 19))) lent 100 ≡ reply 15 0 0)
unfolding write_reply write_text text_of line_text canonical_record canonical_line canonical_fields canonical_field written joined needs_quotes is_empty all_of begins permitted printed sign_of magnitude_of numeral_of decimals_of words_of word_at layout_of types_of section_of line_of role_of sections section_names is_kind whole_rows chunks may_write rises lines_in writable carries row_step twice named_in names_it same_names same_texts same_bytes row_fits fields_fit all_zero range_fits lies_in integer_fits word_fits fits within good_text meaning is_name named is_in folded barred is_date fits_in is_two date_pieces stepped may_stand moved may_open after shape_of many_loops loop_after eq_z values_in
refuses = (refl, refl, refl, refl, refl, refl, refl, refl, refl)

abbrev of : ℕ → List Value → Rec
of k vs = record { kind = k; values = vs }

abbrev library : List Rec
library = of 10 [] ∷ of 11 (word 2 ∷ number (pos 300_000) ∷ text (ascii "p") ∷ text (ascii "2024/05/06.07:08:09") ∷ number (pos 1) ∷ []) ∷ of 19 [] ∷ []

-- the rows of the header say this list, and its text is within the limit
pub says : RowsSay lent library (header 1 0)
unfolding lines_in advance well_formed fits_all fits within good_text meaning is_name named is_in folded barred all_of permitted same_bytes words_of word_at is_empty is_date fits_in is_two date_pieces may_open after shape_of many_loops names_a_component layout_of types_of section_of line_of role_of sections
says = record {
  means = rows.row (pos 1) (record { columns = []; left = 9; is = refl; ten = refl; means = none })
      (rows.row (pos 2) (record { columns = _; left = 2; is = refl; ten = refl; means = a_word (a_number refl (a_text {a = 20} {l = 1} (omega arith) (a_date {a = 0} {l = 19} (omega arith) (a_number refl none)))) })
      (rows.row (pos 3) (record { columns = []; left = 9; is = refl; ten = refl; means = none }) rows.none));
  permitted = accepted_permitted Idf3 library refl;
  distinct = nothing_named;
  rising = rows.next refl (rows.next refl (rows.next refl rows.none));
}

pub text_of_lem : canonical_text Idf3 library ≡ header_text
unfolding canonical_text canonical_record canonical_line canonical_fields canonical_field written joined needs_quotes is_empty all_of begins printed sign_of magnitude_of numeral_of decimals_of words_of word_at layout_of section_of line_of sections section_names
text_of_lem = refl

pub within_limit : length (canonical_text Idf3 library) ≤ limit
within_limit = rw text_of_lem (omega arith)

-- so it is accepted, with three rows
pub accepted : check_reply header_text ≡ reply 0 0 3
accepted = rw (sym text_of_lem) (round_trip says.permitted says.distinct within_limit).0
