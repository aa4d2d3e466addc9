-- The canonical line of a row: what stands before its fields, its fields, a byte behind each; and lengths up to the size limit.
use Rattle.std.specs.Prelude.{ℕ, ◌+◌, List, [], ◌∷◌, ◌++◌, cond, ltb, eqb, ℤ, length}
use Rattle.rows.specs.Columns.{column_at}
use Rattle.law.specs.Bytes.{ascii}
use Rattle.law.specs.Words.{prop_word}
use Rattle.form_layouts.specs.Letters.{width_of}
use Rattle.form_words.specs.Padded.{trimmed, no_keyword, name_row, closing_row}
use Rattle.law.specs.Fits.{under, is_empty}
use Rattle.law.specs.declared.Role.{Role}
use Rattle.law.specs.declared.Role.TheVariants.{Opening as opening, Closing as closing, Prop as prop}
use Rattle.order.specs.Automaton.{is_role}
use Rattle.law.specs.declared.Rules.{Rules}
use Rattle.law.specs.declared.Context.{Context}
use Rattle.law.specs.declared.FileType.TheVariants.{Library}
use Rattle.law.specs.declared.Texts.{Texts}
use Rattle.law.specs.declared.FieldType.{FieldType}
use Rattle.rows_texts.specs.Texts.{text_at}
use Rattle.write_texts.specs.Meant.{meant_text}
use Rattle.law.specs.Canonical.{canonical_field, canonical_record, written}
use Rattle.law.specs.Answers.{limit}
use Rattle.write_columns.specs.Records.{value_in, record_in}

-- the line of a row, with the byte 10 that ends it
unfoldable pub line_text : Rules → List ℕ → List ℤ → List ℕ
line_text v bytes row = canonical_record v (record_in v bytes row) ++ 10 ∷ []

-- BOARD as a reference is permitted here: what fits in some file fits here
abbrev pub anywhere : Rules → Context
anywhere v = under v Library

-- lengths are told apart up to the limit only
unfoldable pub up_to : ℕ → ℕ
up_to n = cond (ltb limit n) (limit + 1) n

-- piece by piece

-- by a line's role: the period of a keyword, or PROP
abbrev pub mark_of : Role → List ℕ
mark_of role = cond (is_role role opening) (ascii ".") (cond (is_role role closing) (ascii ".") (cond (is_role role prop) prop_word []))

-- behind the period: the name of section s in its opening line, its closing form in its closing line, as padded rows
abbrev pub name_at : Role → ℕ → List ℕ
name_at role s = cond (is_role role opening) (name_row s) (cond (is_role role closing) (closing_row s) no_keyword)

-- the byte behind a field, by the number of those that follow it
abbrev pub behind_of : ℕ → ℕ
behind_of n = cond (eqb n 0) 10 32

-- what stands before n fields
unfoldable pub front_text : Role → ℕ → ℕ → List ℕ
front_text role s n = cond (is_empty (mark_of role)) [] (mark_of role ++ (trimmed (name_at role s) ++ behind_of n ∷ []))

-- what a text means at its field, with the quotes that it needs
abbrev pub part_text : Texts → List ℕ → ℤ → ℤ → List ℕ
part_text k bytes a b = meant_text k (text_at bytes a b)

-- a field's bytes
unfoldable pub value_text : Rules → FieldType → List ℕ → ℤ → ℤ → List ℕ
value_text v t bytes a b = written (canonical_field v t (value_in t bytes a b))

-- with the byte behind it, before n more fields
unfoldable pub ended_text : Rules → FieldType → List ℕ → ℤ → ℤ → ℕ → List ℕ
ended_text v t bytes a b n = value_text v t bytes a b ++ behind_of n ∷ []

-- the field from column i on
abbrev pub column_text : Rules → FieldType → List ℕ → List ℤ → ℕ → ℕ → List ℕ
column_text v t bytes row i n = ended_text v t bytes (column_at row i) (column_at row (i + 1)) n

unfoldable pub fields_text : Rules → List ℕ → List ℤ → List FieldType → ℕ → List ℕ
fields_text v bytes row [] i = []
fields_text v bytes row (t ∷ ts) i = column_text v t bytes row i (length ts) ++ fields_text v bytes row ts (i + width_of t)
