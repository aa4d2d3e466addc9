-- What the tables and tests of the law give on either side of each rule, computed.
use Prim.Native.Nat.{ℕ}
use Prim.Native.String.{String}
use mathlib.Core.Path.{◌≡◌, refl}
use mathlib.Core.List.{List, [], ◌∷◌, ◌++◌}
use mathlib.Core.Bool.{true, false}
use lib.IntN.{pos, negsuc}
use lib.ListN.{length, replicate}
use Rattle.law.specs.Bytes.{permitted, all_of, begins, ascii}
use Rattle.law.specs.Fields.{field}
use Rattle.law.specs.Dates.{date_pieces, is_two, fits_in, is_date}
use Rattle.law.specs.Words.{words_of, same_bytes, word_at, named, is_in, folded}
use Rattle.law.specs.Sections.{SectionForm, sections, section_names}
use Rattle.law.specs.Kinds.{section_of, line_of, role_of}
use Rattle.law.specs.Layouts.{layout_of, types_of}
use Rattle.law.specs.Values.{number, word, Rec, text}
use Rattle.law.specs.Fits.{under, within, meaning, barred, good_text, is_empty, fits, fits_all, well_formed, is_name}
use Rattle.law.specs.RecordSpelling.{is_data}
use Rattle.law.specs.Records.{is_middle}
use Rattle.law.specs.Files.{titled}
use Rattle.law.specs.Rows.{with_line, whole, lines_in}
use Rattle.law.specs.RowPlaces.{up_from}
use Rattle.law.specs.Printing as form
use Rattle.law.specs.Printing.{decimal, numeral_of, decimals_of, magnitude_of, sign_of, printed}
use Rattle.law.specs.Canonical.{needs_quotes, canonical_field, canonical_fields, written, joined, canonical_line, canonical_record, canonical_text}
use Rattle.law.specs.declared.Rules.TheVariants.{Idf3}
use Rattle.law.specs.declared.FileType.TheVariants.{Board, Panel}
use Rattle.law.specs.declared.Words.TheVariants.{FileTypes, Units, Owners, Faces, Sides, Layers, Plates, Statuses}
use Rattle.law.proofs.Samples.{of, said, count, title, part, electrical, library}
use Rattle.law.specs.declared.Texts.TheVariants.{Plain, Reference, Hole}
use Rattle.law.specs.declared.FieldType.TheVariants.{Text as T}

-- bytes
pub bytes :
    (permitted 31 ≡ false) × (permitted 32 ≡ true) × (permitted 126 ≡ true) × (permitted 127 ≡ false) × (permitted 128 ≡ true) × (permitted 255 ≡ true)
    × (permitted 256 ≡ false)
unfolding permitted
bytes = (refl, refl, refl, refl, refl, refl, refl)

-- a first field that is bare and begins with a period makes no data line
pub periods : (is_data (field false (ascii ".A") ∷ []) ≡ false) × (is_data (field true (ascii ".A") ∷ []) ≡ true)
unfolding is_data begins
periods = (refl, refl)

-- dates
pub dates :
    (is_date (ascii "2024/05/06.07:08:09") ≡ true)
    × (is_date (ascii "0000/12/31.23:59:59") ≡ true)
    × (is_date (ascii "2024/13/06.07:08:09") ≡ false)
    × (is_date (ascii "2024/00/06.07:08:09") ≡ false)
    × (is_date (ascii "2024/05/32.07:08:09") ≡ false)
    × (is_date (ascii "2024/05/06.24:08:09") ≡ false)
    × (is_date (ascii "2024/05/06 07:08:09") ≡ false)
unfolding is_date fits_in is_two date_pieces
dates = (refl, refl, refl, refl, refl, refl, refl)

-- the last word of each list, and none behind it
pub words :
    (word_at (words_of Idf3 FileTypes) 2 ≡ ascii "LIBRARY_FILE")
    × (word_at (words_of Idf3 Units) 1 ≡ ascii "THOU")
    × (word_at (words_of Idf3 Units) 2 ≡ [])
    × (word_at (words_of Idf3 Owners) 2 ≡ ascii "UNOWNED")
    × (word_at (words_of Idf3 Faces) 1 ≡ ascii "BOTTOM")
    × (word_at (words_of Idf3 Faces) 2 ≡ [])
    × (word_at (words_of Idf3 Sides) 2 ≡ ascii "BOTH")
    × (word_at (words_of Idf3 Layers) 3 ≡ ascii "INNER")
    × (word_at (words_of Idf3 Plates) 1 ≡ ascii "NPTH")
    × (word_at (words_of Idf3 Statuses) 3 ≡ ascii "ECAD")
unfolding words_of word_at
words = (refl, refl, refl, refl, refl, refl, refl, refl, refl, refl)

-- names mean their capitals where a text may be one, and all else its bytes
pub names :
    (meaning (T Reference) (ascii "nOrefdes") ≡ ascii "NOREFDES")
    × (meaning (T Reference) (ascii "Board") ≡ ascii "BOARD")
    × (meaning (T Reference) (ascii "panel") ≡ ascii "panel")
    × (meaning (T Reference) (ascii "boards") ≡ ascii "boards")
    × (meaning (T Hole) (ascii "norefdes") ≡ ascii "NOREFDES")
    × (meaning (T Hole) (ascii "board") ≡ ascii "BOARD")
    × (meaning (T Hole) (ascii "paneL") ≡ ascii "PANEL")
    × (meaning (T Plain) (ascii "norefdes") ≡ ascii "norefdes")
unfolding meaning is_name named is_in folded same_bytes
names = (refl, refl, refl, refl, refl, refl, refl, refl)

-- BOARD is a reference in a panel, and not in a board; in small letters no record holds it
pub references :
    (fits (under Idf3 Panel) (T Reference) (text (ascii "BOARD")) ≡ true)
    × (fits (under Idf3 Board) (T Reference) (text (ascii "BOARD")) ≡ false)
    × (fits (under Idf3 Panel) (T Reference) (text (ascii "board")) ≡ false)
    × (fits (under Idf3 Board) (T Reference) (text (ascii "panel")) ≡ true)
unfolding fits barred good_text all_of permitted meaning is_name named is_in folded same_bytes
references = (refl, refl, refl, refl)

-- a section's number is its place in the table
abbrev numbers_in : List SectionForm → List ℕ
numbers_in [] = []
numbers_in (d ∷ ds) = d.number ∷ numbers_in ds

pub numbers : numbers_in (sections Idf3) ≡ 1 ∷ 2 ∷ 3 ∷ 4 ∷ 5 ∷ 6 ∷ 7 ∷ 8 ∷ 9 ∷ 10 ∷ 11 ∷ 12 ∷ 13 ∷ 14 ∷ 15 ∷ []
unfolding sections
numbers = refl

-- how many fields the lines of each kind have: where a section opens, and its data lines
abbrev fields_of : List ℕ → List ℕ
fields_of [] = []
fields_of (k ∷ ks) = length (types_of Idf3 k) ∷ fields_of ks

pub field_counts :
    (fields_of (10 ∷ 20 ∷ 30 ∷ 40 ∷ 50 ∷ 60 ∷ 70 ∷ 80 ∷ 90 ∷ 100 ∷ 110 ∷ 120 ∷ 130 ∷ 140 ∷ 150 ∷ []) ≡ 0 ∷ 1 ∷ 1 ∷ 1 ∷ 1 ∷ 1 ∷ 1 ∷ 1 ∷ 1 ∷ 1 ∷ 0 ∷ 0 ∷ 0 ∷ 0 ∷ 0 ∷ [])
    × (fields_of (11 ∷ 21 ∷ 31 ∷ 41 ∷ 51 ∷ 61 ∷ 71 ∷ 81 ∷ 91 ∷ 101 ∷ 111 ∷ 121 ∷ 131 ∷ 141 ∷ 151 ∷ []) ≡ 5 ∷ 1 ∷ 1 ∷ 3 ∷ 1 ∷ 2 ∷ 1 ∷ 4 ∷ 2 ∷ 2 ∷ 7 ∷ 5 ∷ 3 ∷ 4 ∷ 4 ∷ [])
    × (fields_of (12 ∷ 22 ∷ 32 ∷ 42 ∷ 52 ∷ 62 ∷ 72 ∷ 82 ∷ 92 ∷ 102 ∷ 112 ∷ 122 ∷ 132 ∷ 142 ∷ 143 ∷ 152 ∷ 153 ∷ []) ≡ 2 ∷ 4 ∷ 4 ∷ 4 ∷ 4 ∷ 4 ∷ 4 ∷ 0 ∷ 4 ∷ 4 ∷ 0 ∷ 0 ∷ 6 ∷ 4 ∷ 2 ∷ 4 ∷ 0 ∷ [])
unfolding types_of layout_of section_of line_of role_of sections
field_counts = (refl, refl, refl)

-- the limits of the table: a sign where one is asked for, and where none is; angles; the version; BOARD
abbrev good : Rec → Type 0
good r = well_formed (under Idf3 Board) r ≡ true

abbrev bad : Rec → Type 0
bad r = well_formed (under Idf3 Board) r ≡ false

pub limits :
    good (of 21 (number (negsuc 0) ∷ []))
    × bad (of 41 (said "i" ∷ number (negsuc 0) ∷ word 0 ∷ []))
    × good (of 41 (said "i" ∷ count 0 ∷ word 1 ∷ []))
    × bad (of 41 (said "i" ∷ count 0 ∷ word 2 ∷ []))
    × bad (of 61 (word 2 ∷ number (negsuc 0) ∷ []))
    × bad (of 91 (word 3 ∷ count 0 ∷ []))
    × bad (of 111 (count 0 ∷ count 0 ∷ count 0 ∷ word 0 ∷ said "J" ∷ said "P" ∷ word 0 ∷ []))
    × good (of 111 (count 1 ∷ count 0 ∷ count 0 ∷ word 0 ∷ said "J" ∷ said "P" ∷ word 0 ∷ []))
    × bad (of 132 (count 0 ∷ count 0 ∷ number (negsuc 0) ∷ count 0 ∷ word 0 ∷ word 0 ∷ []))
    × good (of 132 (count 0 ∷ count 0 ∷ count 0 ∷ count 72_000_000 ∷ word 0 ∷ word 3 ∷ []))
    × good (of 141 (said "g" ∷ said "p" ∷ word 1 ∷ number (negsuc 0) ∷ []))
    × good (of 142 (count 0 ∷ count 0 ∷ count 0 ∷ count 36_000_000 ∷ []))
    × bad (of 142 (count 0 ∷ count 0 ∷ count 0 ∷ count 36_000_001 ∷ []))
    × bad (of 142 (count 0 ∷ count 0 ∷ count 0 ∷ number (negsuc 35_999_999) ∷ []))
    × good (of 142 (count 0 ∷ count 0 ∷ count 0 ∷ number (negsuc 35_999_998) ∷ []))
    × bad (of 121 (count 100_000_000_000 ∷ count 0 ∷ count 0 ∷ count 0 ∷ said "t" ∷ []))
    × good (of 132 (count 0 ∷ count 0 ∷ count 0 ∷ number (negsuc 99_999_999_998) ∷ word 0 ∷ word 3 ∷ []))
    × bad (of 132 (count 0 ∷ count 0 ∷ count 0 ∷ number (negsuc 99_999_999_999) ∷ word 0 ∷ word 3 ∷ []))
    × bad (of 11 (word 0 ∷ count 200_000 ∷ said "s" ∷ said "2024/05/06.07:08:09" ∷ count 1 ∷ []))
    × bad (part "g" "p" "BOARD")
    × (well_formed (under Idf3 Panel) (part "g" "p" "BOARD") ≡ true)
unfolding well_formed fits_all fits within good_text meaning is_name named is_in folded barred all_of permitted same_bytes is_empty word_at words_of is_date fits_in is_two date_pieces layout_of section_of line_of role_of sections section_names
limits = (refl, refl, refl, refl, refl, refl, refl, refl, refl, refl, refl, refl, refl, refl, refl, refl, refl, refl, refl, refl, refl)

-- between outline and PLACEMENT
pub middle : (is_middle Idf3 3 ≡ false) × (is_middle Idf3 4 ≡ true) × (is_middle Idf3 12 ≡ true) × (is_middle Idf3 13 ≡ false)
unfolding is_middle
middle = (refl, refl, refl, refl)

-- the file's type stands in the title line
pub title_line : titled (of 10 [] ∷ title 1 ∷ []) ≡ Panel
title_line = refl

-- when a text is quoted
pub quotes :
    (needs_quotes (ascii ".a") ≡ true) × (needs_quotes (ascii "#") ≡ true) × (needs_quotes [] ≡ true) × (needs_quotes (ascii "a b") ≡ true)
    × (needs_quotes (ascii "a.#") ≡ false)
unfolding needs_quotes is_empty all_of begins
quotes = (refl, refl, refl, refl, refl)

-- numbers with exactly five decimals, - only below zero
pub prints :
    (printed decimal (negsuc 0) ≡ ascii "-0.00001")
    × (printed decimal (pos 2_500_000) ≡ ascii "25.00000")
    × (printed form.whole (pos 0) ≡ ascii "0")
unfolding printed sign_of magnitude_of numeral_of decimals_of
prints = (refl, refl, refl)

-- the listing of document 01
abbrev lines : List String → List ℕ
lines [] = []
lines (l ∷ ls) = ascii l ++ (10 ∷ lines ls)

pub listing :
    canonical_text Idf3 (library (electrical "R1206" "10K"))
    ≡ lines
    (".HEADER"
    ∷ "LIBRARY_FILE 3.0 \"CAD 1\" 2024/05/06.07:08:09 1"
    ∷ ".END_HEADER"
    ∷ ".ELECTRICAL"
    ∷ "R1206 10K THOU 25.00000"
    ∷ "0 0.00000 0.00000 0.00000"
    ∷ "0 50.00000 0.00000 360.00000"
    ∷ ".END_ELECTRICAL"
    ∷ [])
unfolding canonical_text canonical_record canonical_line canonical_fields canonical_field joined written needs_quotes is_empty all_of begins printed sign_of magnitude_of numeral_of decimals_of layout_of section_of line_of role_of sections section_names word_at words_of
listing = refl

-- what is left behind the whole rows is not looked at
pub rows_whole : (whole (replicate 12 (pos 0)) ≡ replicate 11 (pos 0)) × (whole (replicate 10 (pos 0)) ≡ [])
rows_whole = (refl, refl)

-- the line of a row stands behind its record's numbers
pub rows_lines : lines_in 2 (with_line (replicate 10 (pos 5)) (pos 3) ++ with_line (replicate 10 (pos 6)) (negsuc 0)) ≡ pos 3 ∷ negsuc 0 ∷ []
unfolding lines_in
rows_lines = refl

-- lines that are counted
pub counted_lines : up_from 1 3 ≡ pos 1 ∷ pos 2 ∷ pos 3 ∷ []
unfolding up_from
counted_lines = refl
