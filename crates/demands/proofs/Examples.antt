-- Small files, rows and boards that meet the premises of the demands: the answers are computed, so that no statement speaks of nothing.
use Prim.Native.Nat.{ℕ, ◌≤◌, ◌<◌}
use Prim.Native.String.{String}
use mathlib.Core.Path.{◌≡◌, refl, sym, ap, subst}
use mathlib.Core.List.{List, [], ◌∷◌, ◌++◌}
use native.Mathlib.Omega.{arith}
use lib.ListN.{length, replicate, length-replicate}
use Rattle.rows_texts.specs.Names.{same_names, refers}
use Rattle.basics.specs.Integers.{eq_z}
use Rattle.law.specs.Bytes.{permitted, all_of, begins, ends_in, ascii}
use Rattle.law.specs.Lines.{closed, copied, windows}
use Rattle.text_fields.specs.FirstField.{span, ends_well, bare_at, closed_at, quoted_at, field_at, field_of}
use Rattle.text_fields.specs.Fields.{fields_in, fields_of}
use Rattle.text.specs.Lines.{end_len, content_len, line_end, lines_of}
use Rattle.text.proofs.LineSpelling.{lines_sound}
use Rattle.number.specs.Numbers.{digit_here, to_count, decimals, whole, body, read_number}
use Rattle.number.specs.Integers.{digits, unsigned, read_integer}
use Rattle.law.specs.Dates.{date_pieces, is_two, fits_in, is_date}
use Rattle.law.specs.Printing.{numeral_of, decimals_of, magnitude_of, sign_of, printed}
use Rattle.law.specs.Values.{Rec}
use Rattle.law.specs.Words.{words_of, same_bytes, word_at, named, is_in, folded}
use Rattle.law.specs.Sections.{section_names, sections}
use Rattle.form.specs.Compare.{place_of}
use Rattle.law.specs.Kinds.{kind_at, section_of, line_of, role_of}
use Rattle.law.specs.Layouts.{layout_of, types_of}
use Rattle.form_layouts.specs.Letters.{is_kind}
use Rattle.law.specs.Fits.{kept, within, meaning, barred, is_empty, good_text, fits, is_name}
use Rattle.form.specs.Fits.{beyond}
use Rattle.form.specs.Reading.{read_field, line_as, key_from, keyword_of}
use Rattle.law.specs.declared.Rules.TheVariants.{Idf3}
use Rattle.law.specs.Canonical as canonical
use Rattle.law.specs.Canonical.{needs_quotes, canonical_field, canonical_fields, joined, canonical_line, canonical_record, canonical_text}
use Rattle.line_rows.specs.LineKinds.{kind_of}
use Rattle.line_rows.specs.Rows.{entry_at, fill_from, filled}
use Rattle.order_loops.specs.Loops.{loop_after}
use Rattle.law.specs.Records.{shape_of, many_loops}
use Rattle.order.specs.Stages.{may_open, after}
use Rattle.order.specs.Places.{data_kind, key_kind}
use Rattle.order.specs.Automaton.{may_stand, moved, stepped}
use Rattle.walk.specs.Judging.{filled_by, of_kind, data_by, judged}
use Rattle.law.specs.Answers.{limit, reply, verdict}
use Rattle.walk.specs.Walks.{line_in, turn_of, trace_in, trace_at}
use Rattle.rows_texts.specs.Texts.{text_is, same_meanings, same_texts}
use Rattle.names.specs.Names.{used_in, repeat_in}
use Rattle.read.specs.Replies.{ended_by, surveyed, rows_in, rows_of, check_reply, read_reply, examined, type_from}
use Rattle.write_columns.specs.Columns.{lies_in, range_fits, integer_fits, word_fits, all_zero, fields_fit, row_fits}
use Rattle.write_columns.specs.Records.{values_in}
use Rattle.write_lines.specs.LineText.{line_text}
use Rattle.write.specs.WholeRows.{chunks, whole_rows}
use Rattle.write.specs.LineNumbers.{rises}
use Rattle.write.specs.Writable.{row_step, carries, names_it, named_in, twice, writable}
use Rattle.write.specs.Outcomes.{text_of, may_write, write_reply, write_text}
use Rattle.same.specs.Ignoring.{ignored_at}
use Rattle.same.specs.SameRows.{same_field, agrees_at, same_from, same_row}
use Rattle.same.specs.SameLists.{list_in, same_lists}
use Rattle.same.specs.Verdicts.{same_reply}
use Rattle.judge.specs.Entries as entries
use Rattle.judge.specs.Verdicts as judging
use Rattle.judge.specs.Verdicts.{judge_reply}
use Rattle.law.specs.declared.Reply.{Reply}
use Rattle.law.specs.Files.{FileSays, Continues}
use Rattle.shown_read.proofs.Checked.{check_large}
use Rattle.law.specs.Rows.{lines_in, RowsSay}
use Rattle.shown_write.proofs.RowsWritten.{unwritable_iff}
use Rattle.shown_write.proofs.RoundTrip.{file_rows}
use Rattle.law.specs.Judging.{Judged}
use Rattle.demands.specs.Outcomes.{Checks}
use Rattle.law.specs.Given.{Fails, Short}
use Rattle.demands.proofs.Demands.{accepted_iff, first_line, too_early, same_iff, written_iff, judged as judged_iff}
use Rattle.demands.proofs.WriteAnswers.{written_zero}

-- lines, each with the byte 10 that ends it
abbrev file : List String → List ℕ
file [] = []
file (l ∷ ls) = ascii l ++ (10 ∷ file ls)

abbrev library : List ℕ
library = file (".HEADER" ∷ "LIBRARY_FILE 3.0 s 2024/05/06.07:08:09 1" ∷ ".END_HEADER" ∷ [])

-- the same in other words, and another system
abbrev other_words : List ℕ
other_words = file ("# a comment" ∷ ".header" ∷ "LIBRARY_FILE  3 \"s\" 2024/05/06.07:08:09 +01" ∷ ".End_Header" ∷ "" ∷ [])

abbrev other_list : List ℕ
other_list = file (".HEADER" ∷ "LIBRARY_FILE 3.0 t 2024/05/06.07:08:09 1" ∷ ".END_HEADER" ∷ [])

-- refused on line 1; on line 2; too early
abbrev misplaced : List ℕ
misplaced = file ("LIBRARY_FILE" ∷ [])

abbrev misquoted : List ℕ
misquoted = file (".HEADER" ∷ "\"s" ∷ [])

abbrev begun : List ℕ
begun = file (".HEADER" ∷ [])

-- a board with one part, by its title line, its outline's opening line, and the part's two lines
abbrev board_of : String → String → String → String → List ℕ
board_of title opening part position =
    file
    (".HEADER"
    ∷ title
    ∷ "n MM"
    ∷ ".END_HEADER"
    ∷ opening
    ∷ "1.6"
    ∷ "0 0 0 0"
    ∷ "0 5 0 360"
    ∷ ".END_BOARD_OUTLINE"
    ∷ ".PLACEMENT"
    ∷ part
    ∷ position
    ∷ ".END_PLACEMENT"
    ∷ [])

abbrev board : List ℕ
board = board_of "BOARD_FILE 3.0 s 2024/05/06.07:08:09 1" ".BOARD_OUTLINE MCAD" "g p R1" "1 1 0 90 TOP PLACED"

-- a library with the part's entry, electrical or mechanical
abbrev entry_of : String → String → List ℕ
entry_of opening closing = library ++ file (opening ∷ "g p MM 1.5" ∷ "0 0 0 0" ∷ "0 1 0 360" ∷ closing ∷ [])

abbrev entry : List ℕ
entry = entry_of ".ELECTRICAL" ".END_ELECTRICAL"

-- checked, read, compared and judged
pub answers :
    (check_reply library ≡ reply 0 0 3)
    × (check_reply other_words ≡ reply 0 0 3)
    × (check_reply other_list ≡ reply 0 0 3)
    × (check_reply misplaced ≡ reply 5 1 0)
    × (check_reply misquoted ≡ reply 4 2 0)
    × (check_reply begun ≡ reply 13 2 0)
    × (check_reply board ≡ reply 0 0 13)
    × (check_reply entry ≡ reply 0 0 8)
    × (read_reply library 32 ≡ reply 2 0 3)
    × (read_reply library 35 ≡ reply 0 0 3)
    × (same_reply library other_words ≡ verdict 0 0 1 0)
    × (same_reply library other_list ≡ verdict 0 0 0 0)
    × (judge_reply board entry ≡ verdict 0 0 1 0)
    × (judge_reply board library ≡ verdict 16 0 1 1)
    × (judge_reply library entry ≡ verdict 17 0 0 1)
    × (judge_reply board board ≡ verdict 17 0 0 2)
unfolding judge_reply judging.with_library judging.matched judging.placed judging.placed_from examined type_from entries.lacks_entry entries.has_entry entries.entry_in refers same_names same_texts same_meanings text_is same_reply same_lists same_row same_from agrees_at same_field ignored_at list_in read_reply check_reply surveyed ended_by repeat_in used_in rows_in trace_at trace_in turn_of line_in judged of_kind data_by filled_by kind_of filled fill_from entry_at line_end content_len end_len line_as begins all_of permitted fields_of fields_in field_of field_at bare_at closed_at quoted_at ends_well span keyword_of key_from folded same_bytes place_of words_of sections section_names kind_at section_of line_of role_of layout_of types_of key_kind data_kind may_stand may_open after moved stepped shape_of many_loops loop_after eq_z meaning is_name named is_in barred kept within beyond read_field read_number body whole decimals to_count digit_here read_integer unsigned digits is_date fits_in is_two date_pieces
answers = (refl, refl, refl, refl, refl, refl, refl, refl, refl, refl, refl, refl, refl, refl, refl, refl)

-- lines that end with 13 and 10: the Windows copy, and a 13 at the end of a file, which a 10 behind it mends
abbrev returned : List ℕ
returned = library ++ (13 ∷ [])

abbrev mended : List ℕ
mended = library ++ (13 ∷ 10 ∷ [])

pub endings :
    (check_reply (windows library) ≡ reply 0 0 3)
    × (same_reply library (windows library) ≡ verdict 0 0 1 0)
    × (check_reply returned ≡ reply 3 4 0)
    × (check_reply mended ≡ reply 0 0 3)
unfolding copied same_meanings same_reply same_lists same_row same_from agrees_at same_field ignored_at list_in read_reply check_reply surveyed ended_by repeat_in used_in rows_in trace_at trace_in turn_of line_in judged of_kind data_by filled_by kind_of filled fill_from entry_at line_end content_len end_len line_as begins all_of permitted fields_of fields_in field_of field_at bare_at closed_at quoted_at ends_well span keyword_of key_from folded same_bytes place_of words_of sections section_names kind_at section_of line_of role_of layout_of types_of key_kind data_kind may_stand may_open after moved stepped shape_of many_loops loop_after eq_z meaning is_name named is_in barred kept within beyond read_field read_number body whole decimals to_count digit_here read_integer unsigned digits is_date fits_in is_two date_pieces
endings = (refl, refl, refl, refl)

-- words in small letters, and norefdes: no electrical part, and the same as in capitals; Board is refused
abbrev bolt : List ℕ
bolt = board_of "BOARD_FILE 3.0 s 2024/05/06.07:08:09 1" ".BOARD_OUTLINE MCAD" "g p NOREFDES" "1 1 0 90 TOP PLACED"

abbrev small_bolt : List ℕ
small_bolt = board_of "board_file 3.0 s 2024/05/06.07:08:09 1" ".BOARD_OUTLINE mCaD" "g p norefdes" "1 1 0 90 top Placed"

pub letters :
    (check_reply small_bolt ≡ reply 0 0 13)
    × (same_reply bolt small_bolt ≡ verdict 0 0 1 0)
    × (judge_reply small_bolt entry ≡ verdict 16 0 1 1)
    × (judge_reply small_bolt (entry_of ".MECHANICAL" ".END_MECHANICAL") ≡ verdict 0 0 1 0)
    × (check_reply (board_of "BOARD_FILE 3.0 s 2024/05/06.07:08:09 1" ".BOARD_OUTLINE MCAD" "g p Board" "1 1 0 90 TOP PLACED") ≡ reply 9 11 0)
unfolding judge_reply judging.with_library judging.matched judging.placed judging.placed_from examined type_from entries.lacks_entry entries.has_entry entries.entry_in refers same_names same_texts same_meanings text_is same_reply same_lists same_row same_from agrees_at same_field ignored_at list_in read_reply check_reply surveyed ended_by repeat_in used_in rows_in trace_at trace_in turn_of line_in judged of_kind data_by filled_by kind_of filled fill_from entry_at line_end content_len end_len line_as begins all_of permitted fields_of fields_in field_of field_at bare_at closed_at quoted_at ends_well span keyword_of key_from folded same_bytes place_of words_of sections section_names kind_at section_of line_of role_of layout_of types_of key_kind data_kind may_stand may_open after moved stepped shape_of many_loops loop_after eq_z meaning is_name named is_in barred kept within beyond read_field read_number body whole decimals to_count digit_here read_integer unsigned digits is_date fits_in is_two date_pieces
letters = (refl, refl, refl, refl, refl)

-- the rows of a file, written over its bytes: enough room, too little; no rows
pub written :
    (write_reply (rows_of library) library 61 ≡ reply 0 0 61)
    × (write_reply (rows_of library) library 60 ≡ reply 14 0 61)
    × (write_reply [] library 60 ≡ reply 15 0 0)
    × (write_text (rows_of other_words) other_words (replicate 61 46) ≡ library)
unfolding write_reply write_text text_of line_text canonical_record canonical_line canonical_fields canonical_field canonical.written joined needs_quotes is_empty printed sign_of magnitude_of numeral_of decimals_of word_at is_kind whole_rows chunks may_write rises lines_in writable carries row_step twice named_in names_it same_names same_texts same_meanings row_fits fields_fit all_zero range_fits lies_in integer_fits word_fits fits good_text values_in rows_in trace_at trace_in turn_of line_in judged of_kind data_by filled_by kind_of filled fill_from entry_at line_end content_len end_len line_as begins all_of permitted fields_of fields_in field_of field_at bare_at closed_at quoted_at ends_well span keyword_of key_from folded same_bytes place_of words_of sections section_names kind_at section_of line_of role_of layout_of types_of key_kind data_kind may_stand may_open after moved stepped shape_of many_loops loop_after eq_z meaning is_name named is_in barred kept within beyond read_field read_number body whole decimals to_count digit_here read_integer unsigned digits is_date fits_in is_two date_pieces
written = (refl, refl, refl, refl)

-- so they meet the premises

checked : {f : List ℕ} {r : Reply} → check_reply f ≡ r → Checks f r
checked e = record { answer = sym e }

listed : (f : List ℕ) {n : ℕ} → check_reply f ≡ reply 0 0 n → length f ≤ limit → (rs : List Rec) × FileSays Idf3 rs f
listed f e h = (accepted_iff (checked e) h).0 refl

-- files within the limit that say a list, two of them the same one; and rows that do
pub library_says : (rs : List Rec) × FileSays Idf3 rs library
library_says = listed library answers.0 (omega arith)

pub other_says : FileSays Idf3 library_says.0 other_words
other_says =
    let o = listed other_words answers.1 (omega arith) in
    let e = (same_iff {v = verdict 0 0 1 0} (record { answer = sym answers.10 }) (omega arith) (omega arith) library_says.1 o.1).0.0 refl in
    subst (λ (rs : List Rec). FileSays Idf3 rs other_words) (sym e) o.1

pub board_says : (rs : List Rec) × FileSays Idf3 rs board
board_says = listed board answers.6 (omega arith)

pub entry_says : (rs : List Rec) × FileSays Idf3 rs entry
entry_says = listed entry answers.7 (omega arith)

pub rows_say : RowsSay library library_says.0 (rows_of library)
rows_say = file_rows library library_says.1

-- a list whose canonical text is within the limit
pub text_small : length (canonical_text Idf3 library_says.0) ≤ limit
text_small = (written_zero (rows_of library) library (replicate 61 46) rows_say (written_iff.0 (record { answer = sym written.0; left = refl })) refl).0

-- a file that says none, and whose first line, or second, no further lines can mend; one that only ends too early; one over the limit
pub fails_at_once : Fails (lines_of misplaced) 0
fails_at_once = (first_line (checked answers.3) (omega arith) (lines_sound misplaced) 0).0 (omega arith, omega arith, refl)

pub fails_later : Fails (lines_of misquoted) 1
fails_later = (first_line (checked answers.4) (omega arith) (lines_sound misquoted) 1).0 (omega arith, omega arith, refl)

-- so the last line of a file that ends in 13 is rightly left out of the sentence over bytes
pub fails_and_continues : Fails (lines_of returned) 3 × Continues Idf3 (closed returned)
unfolding ends_in
fails_and_continues =
    let m = listed mended endings.3 (omega arith) in
    ((first_line (checked endings.2) (omega arith) (lines_sound returned) 3).0 (omega arith, omega arith, refl), record { more = []; records = m.0; say = m.1 })

pub ends_early : Short (lines_of begun) begun
ends_early = (too_early (checked answers.5) (omega arith) (lines_sound begun)).0.0 refl

pub over_the_limit : (n : ℕ) → limit < n → Checks (replicate n 35) (reply 1 0 0)
over_the_limit n h = checked (check_large (replicate n 35) (omega (arith, length-replicate {A = ℕ} n 35)))

-- rows that say no list
pub nothing_said : (rs : List Rec) → RowsSay library rs [] → ⊥
nothing_said rs s = (unwritable_iff [] library 60).0 (ap (λ (r : Reply). r.number) written.2) (rs, s)

-- a board that is served, and one that lacks an entry
pub board_judged : Judged board_says.0 entry_says.0 (verdict 0 0 1 0) × Judged board_says.0 library_says.0 (verdict 16 0 1 1)
board_judged = (
  (judged_iff (omega arith) (omega arith) board_says.1 entry_says.1).0 (record { answer = sym answers.12 }),
  (judged_iff (omega arith) (omega arith) board_says.1 library_says.1).0 (record { answer = sym answers.13 }),
)
