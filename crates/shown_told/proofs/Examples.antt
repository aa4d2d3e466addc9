-- Small files, told line by line: computed from the definitions.
use Prim.Native.Nat.{ℕ}
use mathlib.Core.Path.{◌≡◌, refl}
use mathlib.Core.List.{List, [], ◌∷◌}
use mathlib.Core.Bool.{true, false}
use lib.IntN.{pos}
use Rattle.law.specs.Bytes.{permitted, all_of, begins, ascii}
use Rattle.text_fields.specs.FirstField.{span, ends_well, bare_at, field_at, field_of}
use Rattle.text_fields.specs.Fields.{fields_in, fields_of}
use Rattle.number.specs.Numbers.{digit_here, to_count, decimals, whole, body, read_number}
use Rattle.number.specs.Integers.{digits, unsigned, read_integer}
use Rattle.law.specs.Dates.{date_pieces, is_two, fits_in, is_date}
use Rattle.law.specs.Values.{Value, number, word, text, Rec}
use Rattle.law.specs.Words.{words_of, same_bytes, word_at, named, is_in, folded}
use Rattle.law.specs.Sections.{section_names, sections}
use Rattle.form.specs.Compare.{place_of}
use Rattle.law.specs.Kinds.{kind_at, section_of, line_of, role_of}
use Rattle.law.specs.Layouts.{layout_of, types_of}
use Rattle.law.specs.Fits.{kept, within, meaning, is_empty, good_text, fits, fits_all, well_formed, barred, is_name}
use Rattle.form.specs.Reading.{read_field, read_each, read_fields, line_as, key_from, keyword_of}
use Rattle.law.specs.declared.Rules.TheVariants.{Idf3}
use Rattle.law.specs.declared.FileType.TheVariants.{Library}
use Rattle.law.specs.Records.{shape_of, names_a_component}
use Rattle.order.specs.Stages.{may_open}
use Rattle.order.specs.Places.{data_kind, key_kind}
use Rattle.order.specs.Automaton.{start, accepting, advance, may_stand}
use Rattle.order.specs.declared.Stage.TheVariants.{Headed}
use Rattle.order.specs.declared.State.TheVariants.{Between}
use Rattle.shown_told.specs.Told.{said_at, line_says, Told, ended, told_from}

abbrev told : List (List ℕ) → Told
told ls = told_from Idf3 [] start ls

abbrev of : ℕ → List Value → Rec
of k vs = record { kind = k; values = vs }

-- no lines are told to the end, and may not end there
pub empty : (told [] ≡ ended [] start) × (accepting start ≡ false)
unfolding told_from
empty = (refl, refl)

-- a library of a header, with a comment before it and a blank line behind it, may end
pub library :
    (told (ascii "# made by hand" ∷ ascii ".header" ∷ ascii "LIBRARY_FILE 3.0 s 2024/05/06.07:08:09 1" ∷ ascii ".END_HEADER" ∷ [] ∷ [])
    ≡ ended (of 10 [] ∷ of 11 (word 2 ∷ number (pos 300_000) ∷ text (ascii "s") ∷ text (ascii "2024/05/06.07:08:09") ∷ number (pos 1) ∷ []) ∷ of 19 [] ∷ []) (Between (Headed Library)))
    × (accepting (Between (Headed Library)) ≡ true)
unfolding told_from line_says said_at line_as begins all_of permitted fields_of fields_in field_of field_at bare_at ends_well span keyword_of key_from folded same_bytes word_at place_of words_of sections section_names kind_at section_of line_of role_of layout_of types_of key_kind data_kind may_stand may_open shape_of advance well_formed fits_all fits good_text is_empty meaning is_name named is_in barred kept within read_fields read_each read_field read_number body whole decimals to_count digit_here read_integer unsigned digits is_date fits_in is_two date_pieces names_a_component
library = (refl, refl)
