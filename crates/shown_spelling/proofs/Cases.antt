-- Document 01's cases on lines and canonical text, computed from the definitions.
use Prim.Native.Nat.{ℕ}
use Prim.Native.String.{String}
use mathlib.Core.Path.{◌≡◌, refl}
use mathlib.Core.List.{List, [], ◌∷◌}
use lib.IntN.{pos, negsuc}
use Rattle.law.specs.Bytes.{permitted, all_of, begins, none, ascii}
use Rattle.law.specs.Lines.{blank, comment}
use Rattle.text_fields.specs.FirstField.{span, ends_well, bare_at, closed_at, quoted_at, field_at, field_of}
use Rattle.text_fields.specs.Fields.{fields_in, fields_of}
use Rattle.number.specs.Numbers.{digit_here, to_count, decimals, whole, body, read_number}
use Rattle.law.specs.Printing.{numeral_of, decimals_of, magnitude_of, sign_of, printed}
use Rattle.law.specs.Values.{Value, number, word, text, Rec}
use Rattle.form.specs.Values.{Reply, good, refused}
use Rattle.law.specs.declared.refusals.Refusal.TheVariants.{Misplaced, WrongWord}
use Rattle.law.specs.Words.{words_of, same_bytes, word_at, named, is_in, folded}
use Rattle.law.specs.Sections.{section_names, sections}
use Rattle.form.specs.Compare.{place_of}
use Rattle.law.specs.Kinds.{section_of, line_of, role_of}
use Rattle.law.specs.Layouts.{Front, keyword, prop, plain, layout_of}
use Rattle.law.specs.Fits.{under, kept, within, meaning, barred, is_empty, is_name}
use Rattle.form.specs.Reading.{read_field, read_each, read_fields, line_as, read_line}
use Rattle.law.specs.declared.Rules.TheVariants.{Idf3}
use Rattle.law.specs.declared.FileType.TheVariants.{Board, Library}
use Rattle.law.specs.declared.Words.TheVariants.{Units, Owners, Faces}
use Rattle.law.specs.declared.Limit.TheVariants.{Length as L}
use Rattle.law.specs.declared.FieldType.{FieldType}
use Rattle.law.specs.declared.FieldType.TheVariants.{Text as T, Number as N, Word as W}
use Rattle.law.specs.declared.Texts.TheVariants.{Plain, Reference}
use Rattle.number.specs.Integers.{digits, unsigned, read_integer}
use Rattle.law.specs.Dates.{date_pieces, is_two, fits_in, is_date}
use Rattle.law.specs.LineSpelling.{outside, SpellsLines, end, free, line}
use Rattle.shown_spelling.proofs.RecordSpelling.{record_sound}
use Rattle.law.specs.Canonical.{needs_quotes, canonical_field, canonical_fields, written, joined, canonical_line, canonical_record}

-- a line of a board
abbrev reads : Front → List FieldType → String → Reply (List Value)
reads f ts s = read_line (under Idf3 Board) f ts (ascii s)

abbrev txt : String → Value
txt s = text (ascii s)

abbrev writes : ℕ → List Value → List ℕ
writes k vs = canonical_record Idf3 (record { kind = k; values = vs })

-- spaces in front and quotes; a keyword in any case; a PROP line; a comment, and space then #; a bare period in front; a word and BOARD in quotes
pub lines :
    (reads plain (T Plain ∷ T Plain ∷ W Units ∷ N L ∷ []) "  R1206 \"10K\" THOU 25" ≡ good (txt "R1206" ∷ txt "10K" ∷ word 1 ∷ number (pos 2_500_000) ∷ []))
    × (reads (keyword (ascii "BOARD_OUTLINE")) (W Owners ∷ []) " .Board_outline  ECAD " ≡ good (word 1 ∷ []))
    × (reads prop (T Plain ∷ T Plain ∷ []) "PROP .a \"#\"" ≡ good (txt ".a" ∷ txt "#" ∷ []))
    × (reads plain (T Plain ∷ []) "#a" ≡ refused Misplaced)
    × (reads plain (T Plain ∷ []) " #a" ≡ good (txt "#a" ∷ []))
    × (reads plain (T Plain ∷ []) ".5x" ≡ refused Misplaced)
    × (reads plain (W Faces ∷ []) "\"TOP\"" ≡ refused WrongWord)
    × (reads plain (T Reference ∷ []) "\"BOARD\"" ≡ refused WrongWord)
unfolding read_line line_as begins all_of permitted fields_of fields_in field_of field_at bare_at quoted_at closed_at ends_well span read_fields read_each read_field meaning is_name named is_in barred kept within read_number body whole decimals to_count digit_here words_of place_of same_bytes folded
lines = (refl, refl, refl, refl, refl, refl, refl, refl)

-- the listing's second line, the reasons for quotes, a value below zero, a closing line
pub canonical_lines_lem :
    (writes 11 (word 2 ∷ number (pos 300_000) ∷ txt "CAD 1" ∷ txt "2024/05/06.07:08:09" ∷ number (pos 1) ∷ []) ≡ ascii "LIBRARY_FILE 3.0 \"CAD 1\" 2024/05/06.07:08:09 1")
    × (writes 131 (txt "#g" ∷ txt ".p" ∷ txt "" ∷ []) ≡ ascii "\"#g\" \".p\" \"\"")
    × (writes 141 (txt "PROP" ∷ txt "a.#" ∷ word 0 ∷ number (negsuc 0) ∷ []) ≡ ascii "PROP a.# MM -0.00001")
    × (writes 149 [] ≡ ascii ".END_ELECTRICAL")
unfolding canonical_record canonical_line canonical_fields canonical_field written joined needs_quotes is_empty all_of begins printed sign_of magnitude_of numeral_of decimals_of words_of word_at layout_of section_of line_of sections section_names
canonical_lines_lem = (refl, refl, refl, refl)

abbrev of : ℕ → List Value → Rec
of k vs = record { kind = k; values = vs }

-- a library of a header, with a comment before it and a blank line behind it
pub library_lines :
    SpellsLines (under Idf3 Library) outside (of 10 [] ∷ of 11 (word 2 ∷ number (pos 300_000) ∷ txt "s" ∷ txt "2024/05/06.07:08:09" ∷ number (pos 1) ∷ []) ∷ of 19 [] ∷ [])
    (ascii "# made by hand" ∷ ascii ".header" ∷ ascii "LIBRARY_FILE 3.0 s 2024/05/06.07:08:09 1" ∷ ascii ".END_HEADER" ∷ [] ∷ [])
unfolding read_line line_as begins all_of permitted fields_of fields_in field_of field_at bare_at quoted_at closed_at ends_well span read_fields read_each read_field meaning is_name named is_in barred kept within read_number body whole decimals to_count digit_here words_of place_of same_bytes folded layout_of section_of line_of sections section_names word_at role_of is_date fits_in is_two date_pieces read_integer unsigned digits
library_lines = free comment (line (record_sound (record { layout = _; known = refl; reads = refl })) (line (record_sound (record { layout = _; known = refl; reads = refl })) (line (record_sound (record { layout = _; known = refl; reads = refl })) (free (blank none) end))))
