-- Document 01's proved table, its cases marked P: one statement over the definitions, computed.
use Prim.Native.String.{String}
use mathlib.Core.Path.{◌≡◌, refl}
use mathlib.Core.List.{[], ◌∷◌, ◌++◌}
use mathlib.Core.Bool.{false}
use lib.IntN.{pos, negsuc}
use Rattle.basics.specs.Integers.{eq_z}
use Rattle.law.specs.declared.refusals.Refusal.TheVariants.{NoNumber, TooFine as FineRefusal, BeyondLimit}
use Rattle.law.specs.Refusals.{number_of}
use Rattle.law.specs.Bytes.{permitted, all_of, begins, ascii}
use Rattle.law.specs.Fields.{field}
use Rattle.text_fields.specs.FirstField.{span, ends_well, bare_at, field_at, field_of}
use Rattle.text_fields.specs.Fields.{fields_in, fields_of}
use Rattle.text.specs.Lines.{end_len, content_len, line_end}
use Rattle.law.specs.Limits.{largest_length}
use Rattle.number.specs.Numbers.{digit_here, to_count, decimals, whole, body, read_number}
use Rattle.number.specs.Integers.{digits, unsigned, read_integer}
use Rattle.law.specs.Dates.{date_pieces, is_two, fits_in, is_date}
use Rattle.law.specs.Values.{Value, number}
use Rattle.form.specs.Values.{Reply, good, refused}
use Rattle.law.specs.Words.{words_of, same_bytes, named, is_in, folded}
use Rattle.law.specs.Sections.{section_names, sections}
use Rattle.form.specs.Compare.{place_of}
use Rattle.law.specs.Kinds.{kind_at, section_of, line_of, role_of}
use Rattle.law.specs.Layouts.{layout_of, types_of}
use Rattle.law.specs.Fits.{kept, within, meaning, under, barred, is_name}
use Rattle.form.specs.Fits.{beyond}
use Rattle.form.specs.Reading.{read_field, line_as, key_from, keyword_of}
use Rattle.law.specs.declared.Rules.TheVariants.{Idf3}
use Rattle.law.specs.declared.FileType.TheVariants.{Board}
use Rattle.law.specs.declared.Limit.TheVariants.{Length, Included}
use Rattle.law.specs.declared.FieldType.TheVariants.{Number}
use Rattle.line_rows.specs.LineKinds.{kind_of}
use Rattle.line_rows.specs.Rows.{entry_at, fill_from, filled}
use Rattle.law.specs.Records.{shape_of}
use Rattle.order.specs.Stages.{may_open}
use Rattle.order.specs.Places.{data_kind, key_kind}
use Rattle.order.specs.Automaton.{may_stand, moved, stepped}
use Rattle.walk.specs.Judging.{filled_by, of_kind, data_by, judged}
use Rattle.walk.specs.Walks.{line_in, turn_of, trace_in, trace_at}
use Rattle.names.specs.Names.{repeat_in}
use Rattle.law.specs.Answers.{reply}
use Rattle.read.specs.Replies.{ended_by, surveyed, check_reply}

-- a bare field where a length stands, and where the angle of a point stands: its count, or its refusal, whose number the table has too
abbrev as_length : String → Reply Value
as_length s = read_field (under Idf3 Board) (Number Length) (field false (ascii s))

abbrev as_angle : String → Reply Value
as_angle s = read_field (under Idf3 Board) (Number Included) (field false (ascii s))

pub p_table :
    (as_length "-0.00001" ≡ good (number (negsuc 0)))
    × (as_length "-0" ≡ good (number (pos 0)))
    × (as_length "+007" ≡ good (number (pos 700_000)))
    × (as_length "1.000010" ≡ good (number (pos 100_001)))
    × (as_length "999999.99999" ≡ good (number (pos largest_length)))
    × (largest_length ≡ 99_999_999_999)
    × (as_length "1000000" ≡ refused NoNumber)
    × (as_length "1.000001" ≡ refused FineRefusal)
    × (as_length "5." ≡ refused NoNumber)
    × (as_length "1e3" ≡ refused NoNumber)
    × (as_angle "360.00001" ≡ refused BeyondLimit)
    × (as_angle "-360" ≡ refused BeyondLimit)
    × (as_angle "-359.99999" ≡ good (number (negsuc 35_999_998)))
    × (number_of NoNumber ≡ 7)
    × (number_of FineRefusal ≡ 8)
    × (number_of BeyondLimit ≡ 10)
    × (check_reply [] ≡ reply 13 1 0)
    × (check_reply (ascii ".HEADER" ++ (10 ∷ (ascii "LIBRARY_FILE 3.0 s 2024/05/06.07:08:09 1" ++ (10 ∷ (ascii ".END_HEADER" ++ (10 ∷ [])))))) ≡ reply 0 0 3)
unfolding check_reply surveyed ended_by repeat_in trace_at trace_in turn_of line_in judged of_kind data_by filled_by kind_of filled fill_from entry_at line_end content_len end_len line_as begins all_of permitted fields_of fields_in field_of field_at bare_at ends_well span keyword_of key_from folded same_bytes place_of words_of sections section_names kind_at section_of line_of role_of layout_of types_of key_kind data_kind may_stand may_open moved stepped shape_of eq_z meaning is_name named is_in barred kept within beyond read_field read_number body whole decimals to_count digit_here read_integer unsigned digits is_date fits_in is_two date_pieces
p_table = (refl, refl, refl, refl, refl, refl, refl, refl, refl, refl, refl, refl, refl, refl, refl, refl, refl, refl)
