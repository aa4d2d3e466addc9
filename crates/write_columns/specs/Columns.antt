-- Which rows hold the values of a record, over the bytes lent with them, and which record that is.
use Rattle.std.specs.Prelude.{ℕ, ◌+◌, ◌-◌, List, [], ◌∷◌, Bool, true, not, ◌&&◌, ◌||◌, leb, ℤ, pos, nat_abs, length, drop}
use Rattle.rows.specs.Columns.{column_at, kind_column}
use Rattle.basics.specs.Integers.{eq_z}
use Rattle.law.specs.Limits.{largest_integer, below}
use Rattle.law.specs.Values.{number, text}
use Rattle.form_layouts.specs.Letters.{width_of, is_kind}
use Rattle.law.specs.Layouts.{types_of}
use Rattle.law.specs.Fits.{good_word, meaning, fits}
use Rattle.law.specs.declared.Rules.{Rules}
use Rattle.law.specs.declared.Context.{Context}
use Rattle.law.specs.declared.Words.{Words}
use Rattle.law.specs.declared.FieldType.{FieldType}
use Rattle.law.specs.declared.FieldType.TheVariants.{Text as T, Date as D, Integer as I, Number as N, Word as W}
use Rattle.rows_texts.specs.Texts.{text_at}

-- a start and a length, neither below zero, whose end is not past n bytes
unfoldable pub lies_in : ℕ → ℤ → ℤ → Bool
lies_in n a l = not (below a || below l) && (leb (nat_abs l) n && leb (nat_abs a) (n - nat_abs l))

-- bytes whose meaning may be held at a field of a type
unfoldable pub range_fits : Context → FieldType → List ℕ → ℤ → ℤ → Bool
range_fits c t bytes a l = lies_in (length bytes) a l && fits c t (text (meaning t (text_at bytes a l)))

unfoldable pub integer_fits : ℤ → Bool
integer_fits z = leb (nat_abs z) largest_integer

-- the place of a word is not below zero
unfoldable pub word_fits : Rules → Words → ℤ → Bool
word_fits v l z = not (below z) && good_word v l (nat_abs z)

-- columns a and b hold a value of a type; b counts for a text or a date only
abbrev pub field_fits : Context → FieldType → List ℕ → ℤ → ℤ → Bool
field_fits c (T k) bytes a b = range_fits c (T k) bytes a b
field_fits c D bytes a b = range_fits c D bytes a b
field_fits c I bytes a b = integer_fits a
field_fits c (N l) bytes a b = fits c (N l) (number a)
field_fits c (W l) bytes a b = word_fits c.rules l a

abbrev pub column_fits : Context → FieldType → List ℕ → List ℤ → ℕ → Bool
column_fits c t bytes row i = field_fits c t bytes (column_at row i) (column_at row (i + 1))

unfoldable pub all_zero : List ℤ → Bool
all_zero [] = true
all_zero (z ∷ zs) = eq_z z (pos 0) && all_zero zs

-- from column i on: a value of each type, then 0
unfoldable pub fields_fit : Context → List ℕ → List ℤ → List FieldType → ℕ → Bool
fields_fit c bytes row [] i = all_zero (drop i row)
fields_fit c bytes row (t ∷ ts) i = column_fits c t bytes row i && fields_fit c bytes row ts (i + width_of t)

-- the kind of a row
abbrev pub kind_in : List ℤ → ℕ
kind_in row = nat_abs (kind_column row)

-- a row of a kind that some section has
unfoldable pub row_fits : Context → List ℕ → List ℤ → Bool
row_fits c bytes row = not (below (kind_column row)) && (is_kind c.rules (kind_in row) && fields_fit c bytes row (types_of c.rules (kind_in row)) 1)
