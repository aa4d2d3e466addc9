-- "Canonical text: one line per row, ending in byte 10, one space between fields, keywords in capitals, version as 3.0. A text is quoted
-- exactly if empty, holding a space, or beginning with # or a period."
use Rattle.std.specs.Prelude.{ℕ, List, [], ◌∷◌, ◌++◌, Bool, true, false, not, ◌||◌, ℤ}
use Rattle.std.proofs.Math.Option.{Option, none, some}
use Rattle.law.specs.Bytes.{is_space, ascii, all_of, begins}
use Rattle.law.specs.Fields.{Field, field}
use Rattle.law.specs.Printing.{printed_count, printed_integer}
use Rattle.law.specs.Values.{Value, Rec}
use Rattle.law.specs.Words.{words_of, prop_word, word_at}
use Rattle.law.specs.Records.{num_of, word_of, bytes_of}
use Rattle.law.specs.Layouts.{Front, keyword, prop, plain, Layout, layout_of}
use Rattle.law.specs.Fits.{is_empty}
use Rattle.law.specs.declared.Rules.{Rules}
use Rattle.law.specs.declared.Rules.TheVariants.{Idf3}
use Rattle.law.specs.declared.Limit.{Limit}
use Rattle.law.specs.declared.Limit.TheVariants.{Length as L, NotBelow as L0, Above as Lp, Included as A, Rotation as R, Version as Ver}
use Rattle.law.specs.declared.FieldType.{FieldType}
use Rattle.law.specs.declared.FieldType.TheVariants.{Text as T, Date as D, Integer as I, Number as N, Word as W}

-- a byte other than a space
abbrev pub no_space : ℕ → Bool
no_space b = not (is_space b)

-- a text is quoted exactly if empty, holding a space, or beginning with # or a period
unfoldable pub needs_quotes : List ℕ → Bool
needs_quotes s = is_empty s || (not (all_of no_space s) || (begins 35 s || begins 46 s))

-- the version as 3.0
abbrev pub version_text : Rules → List ℕ
version_text Idf3 = ascii "3.0"

-- numbers with exactly five decimals, the version aside
abbrev pub printed_number : Rules → Limit → ℤ → List ℕ
printed_number v L z = printed_count z
printed_number v L0 z = printed_count z
printed_number v Lp z = printed_count z
printed_number v A z = printed_count z
printed_number v R z = printed_count z
printed_number v Ver z = version_text v

-- the field of a value at its type: texts alone are quoted, numbers alone have decimals, words stand in their list
unfoldable pub canonical_field : Rules → FieldType → Value → Field
canonical_field v (T k) x = field (needs_quotes (bytes_of x)) (bytes_of x)
canonical_field v D x = field false (bytes_of x)
canonical_field v I x = field false (printed_integer (num_of x))
canonical_field v (N l) x = field false (printed_number v l (num_of x))
canonical_field v (W l) x = field false (word_at (words_of v l) (word_of x))

-- one field for each type, while there are values
unfoldable pub canonical_fields : Rules → List FieldType → List Value → List Field
canonical_fields v [] xs = []
canonical_fields v (t ∷ ts) [] = []
canonical_fields v (t ∷ ts) (x ∷ xs) = canonical_field v t x ∷ canonical_fields v ts xs

-- a field's bytes, with its quotes
unfoldable pub written : Field → List ℕ
written (field true s) = 34 ∷ (s ++ (34 ∷ []))
written (field false s) = s

-- one space between fields
unfoldable pub joined : List Field → List ℕ
joined [] = []
joined (f ∷ []) = written f
joined (f ∷ g ∷ fs) = written f ++ (32 ∷ joined (g ∷ fs))

-- what stands before a record's fields is a field too: a keyword in capitals, or PROP
abbrev pub with_front : Front → List Field → List Field
with_front (keyword k) fs = field false (46 ∷ k) ∷ fs
with_front prop fs = field false prop_word ∷ fs
with_front plain fs = fs

-- the line of a front and values, without the byte 10 that ends it
unfoldable pub canonical_line : Rules → Front → List FieldType → List Value → List ℕ
canonical_line v f ts xs = joined (with_front f (canonical_fields v ts xs))

-- by a layout, where there is one
abbrev pub canonical_by : Rules → Option Layout → List Value → List ℕ
canonical_by v none xs = []
canonical_by v (some l) xs = canonical_line v l.front l.types xs

-- a record's line, by the layout of its kind; a kind that no section has has none
unfoldable pub canonical_record : Rules → Rec → List ℕ
canonical_record v r = canonical_by v (layout_of v r.kind) r.values

-- the canonical line of each record, with the byte 10 that ends it
unfoldable pub canonical_text : Rules → List Rec → List ℕ
canonical_text v [] = []
canonical_text v (r ∷ rs) = (canonical_record v r ++ 10 ∷ []) ++ canonical_text v rs
