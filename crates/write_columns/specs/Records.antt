-- The record that a row holds, over the bytes lent with it.
use Rattle.std.specs.Prelude.{ℕ, ◌+◌, List, [], ◌∷◌, ℤ, nat_abs}
use Rattle.rows.specs.Columns.{column_at}
use Rattle.law.specs.Values.{Value, number, word, text, Rec}
use Rattle.form_layouts.specs.Letters.{width_of}
use Rattle.law.specs.Layouts.{types_of}
use Rattle.law.specs.Fits.{meaning}
use Rattle.law.specs.declared.Rules.{Rules}
use Rattle.law.specs.declared.FieldType.{FieldType}
use Rattle.law.specs.declared.FieldType.TheVariants.{Text as T, Date as D, Integer as I, Number as N, Word as W}
use Rattle.rows_texts.specs.Texts.{text_at}
use Rattle.write_columns.specs.Columns.{kind_in}

-- the value in columns a and b; b counts for a text or a date only
abbrev pub value_in : FieldType → List ℕ → ℤ → ℤ → Value
value_in (T k) bytes a b = text (meaning (T k) (text_at bytes a b))
value_in D bytes a b = text (text_at bytes a b)
value_in I bytes a b = number a
value_in (N l) bytes a b = number a
value_in (W l) bytes a b = word (nat_abs a)

-- values from column i on
unfoldable pub values_in : List ℕ → List ℤ → List FieldType → ℕ → List Value
values_in bytes row [] i = []
values_in bytes row (t ∷ ts) i = value_in t bytes (column_at row i) (column_at row (i + 1)) ∷ values_in bytes row ts (i + width_of t)

abbrev pub record_in : Rules → List ℕ → List ℤ → Rec
record_in v bytes row = record { kind = kind_in row; values = values_in bytes row (types_of v (kind_in row)) 1 }
