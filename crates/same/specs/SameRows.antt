-- Two records by their rows, each in its own file.
use Rattle.std.specs.Prelude.{ℕ, ◌+◌, List, [], ◌∷◌, Bool, true, false, cond, ◌&&◌, ◌||◌, ℤ, nat_abs, drop}
use Rattle.rows.specs.Columns.{column_at, kind_column}
use Rattle.basics.specs.Integers.{eq_z}
use Rattle.law.specs.Layouts.{types_of}
use Rattle.form_layouts.specs.Letters.{width_of}
use Rattle.law.specs.declared.Rules.TheVariants.{Idf3}
use Rattle.law.specs.declared.FieldType.{FieldType}
use Rattle.law.specs.declared.FieldType.TheVariants.{Text as T, Date as D, Integer as I, Number as N, Word as W}
use Rattle.rows_texts.specs.Texts.{same_meanings}
use Rattle.same.specs.Ignoring.{ignored_at}
use Rattle.same.specs.declared.Ignored.{Ignored}

-- fields that are held as bytes of the file; all others are held in the row itself
abbrev pub holds_bytes : FieldType → Bool
holds_bytes (T k) = true
holds_bytes D = true
holds_bytes I = false
holds_bytes (N l) = false
holds_bytes (W l) = false

-- a field of type t at the front of what is left of two rows: numbers and words by their column, texts and dates by what their bytes mean
unfoldable pub same_field : FieldType → List ℕ → List ℤ → List ℕ → List ℤ → Bool
same_field t f xs h ys =
    cond (holds_bytes t)
    (same_meanings t f (column_at xs 0) (column_at xs 1) h (column_at ys 0) (column_at ys 1))
    (eq_z (column_at xs 0) (column_at ys 0))

-- field i of records of kind k is left out or the same
unfoldable pub agrees_at : Ignored → ℕ → ℕ → FieldType → List ℕ → List ℤ → List ℕ → List ℤ → Bool
agrees_at g k i t f xs h ys = ignored_at g k i || same_field t f xs h ys

-- the fields from number i on, of these types, in what is left of two rows
unfoldable pub same_from : Ignored → ℕ → ℕ → List FieldType → List ℕ → List ℤ → List ℕ → List ℤ → Bool
same_from g k i [] f xs h ys = true
same_from g k i (t ∷ ts) f xs h ys = agrees_at g k i t f xs h ys && same_from g k (i + 1) ts f (drop (width_of t) xs) h (drop (width_of t) ys)

-- all fields of two rows of kind k
abbrev pub same_fields : Ignored → ℕ → List ℕ → List ℤ → List ℕ → List ℤ → Bool
same_fields g k f x h y = same_from g k 0 (types_of Idf3 k) f (drop 1 x) h (drop 1 y)

-- the same kind, and the same fields but those that are left out
unfoldable pub same_row : Ignored → List ℕ → List ℤ → List ℕ → List ℤ → Bool
same_row g f x h y = eq_z (kind_column x) (kind_column y) && same_fields g (nat_abs (kind_column x)) f x h y
