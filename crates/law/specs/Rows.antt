-- "Each keyword or data line gives one row of ten signed 64-bit numbers: the kind, then its fields in order. A word is its place from 0; a
-- text is two numbers, its start and length in the file, quotes left off; number and integer are themselves. Unused columns are 0."
-- W-205: "Each row gains an eleventh number, the line it came from, from 1. The slice now holds length/11 rows. Meaning and sameness ignore the
-- new number […] The writer checks it: the numbers must rise strictly from row to row, starting at 1 or more."
use Rattle.std.specs.Prelude.{ℕ, zero, suc, ◌+◌, ◌*◌, ◌/◌, ◌≤◌, List, [], ◌∷◌, ◌++◌, ◌≡◌, Bool, true, false, ℤ, pos, length, take, drop, get_or, replicate}
use Rattle.std.specs.Int.Signed.{lt_z}
use Rattle.law.specs.Values.{Value, number, word, text, Rec}
use Rattle.law.specs.Layouts.{types_of}
use Rattle.law.specs.Fits.{meaning}
use Rattle.law.specs.Lists.{Permitted, Distinct}
use Rattle.law.specs.declared.Texts.{Texts}
use Rattle.law.specs.declared.FieldType.{FieldType}
use Rattle.law.specs.declared.Words.{Words}
use Rattle.law.specs.declared.FieldType.TheVariants.{Text as T, Date as D, Integer as I, Number as N, Word as W}
use Rattle.law.specs.declared.Rules.TheVariants.{Idf3}

-- how many numbers a record has: its kind and nine columns
abbrev pub width : ℕ
width = 10

-- how many numbers of a slice a row takes: those of its record, and its line's
abbrev pub stride : ℕ
stride = 11

-- how many rows n numbers hold
abbrev pub capacity : ℕ → ℕ
capacity n = n / stride

abbrev pub is_number : FieldType → Bool
is_number (T k) = false
is_number D = false
is_number I = true
is_number (N l) = true
is_number (W l) = false

-- what columns mean in a file: a number itself, a word its place, a text or a date the bytes from a start on, all of them in the file
pub data Means (file : List ℕ) : List FieldType → List ℤ → List Value → Type 0 where
  none : Means file [] [] []
  a_number : {t : FieldType} {z : ℤ} {ts : List FieldType} {cs : List ℤ} {vs : List Value} → is_number t ≡ true → Means file ts cs vs → Means file (t ∷ ts) (z ∷ cs) (number z ∷ vs)
  a_word : {l : Words} {n : ℕ} {ts : List FieldType} {cs : List ℤ} {vs : List Value} → Means file ts cs vs → Means file (W l ∷ ts) (pos n ∷ cs) (word n ∷ vs)
  a_date : {a l : ℕ} {ts : List FieldType} {cs : List ℤ} {vs : List Value} → a + l ≤ length file → Means file ts cs vs → Means file (D ∷ ts) (pos a ∷ pos l ∷ cs) (text (take l (drop a file)) ∷ vs)
  a_text : {k : Texts} {a l : ℕ} {ts : List FieldType} {cs : List ℤ} {vs : List Value} → a + l ≤ length file → Means file ts cs vs → Means file (T k ∷ ts) (pos a ∷ pos l ∷ cs) (text (meaning (T k) (take l (drop a file))) ∷ vs)

-- a row of kind k holds values: the kind, columns that mean the values, and 0 in what is left of its columns
pub record Holds (file : List ℕ) (k : ℕ) (ts : List FieldType) (row : List ℤ) (vs : List Value) : Type 0 where
  pub columns : List ℤ
  pub left : ℕ
  pub is : row ≡ pos k ∷ (columns ++ replicate left (pos 0))
  pub ten : suc (length columns) + left ≡ width
  pub means : Means file ts columns vs

-- a row: the numbers of a record with its line's behind them
abbrev pub with_line : List ℤ → ℤ → List ℤ
with_line x n = x ++ (n ∷ [])

-- rows one after the other hold the values of records, one by one, whatever their lines
pub data RowsMean (file : List ℕ) : List Rec → List ℤ → Type 0 where
  none : RowsMean file [] []
  row : {r : Rec} {rs : List Rec} {x xs : List ℤ} (n : ℤ) → Holds file r.kind (types_of Idf3 r.kind) x r.values → RowsMean file rs xs
      → RowsMean file (r ∷ rs) (with_line x n ++ xs)

-- the rows of a slice that are whole, one after the other
abbrev pub whole : List ℤ → List ℤ
whole rows = take (stride * capacity (length rows)) rows

-- the lines of the first k rows of a slice
unfoldable pub lines_in : ℕ → List ℤ → List ℤ
lines_in zero rows = []
lines_in (suc k) rows = get_or rows width (pos 0) ∷ lines_in k (drop stride rows)

-- "the numbers must rise strictly from row to row": each is above the one before it, the first above m
pub data Rises : ℤ → List ℤ → Type 0 where
  none : {m : ℤ} → Rises m []
  next : {m n : ℤ} {ns : List ℤ} → lt_z m n ≡ true → Rises n ns → Rises m (n ∷ ns)

-- the whole rows of a slice, over the bytes lent with them, mean a list that a file may say, and their lines rise from 1 or more
pub record RowsSay (bytes : List ℕ) (rs : List Rec) (rows : List ℤ) : Type 0 where
  pub means : RowsMean bytes rs (whole rows)
  pub permitted : Permitted Idf3 rs
  pub distinct : Distinct Idf3 rs
  pub rising : Rises (pos 0) (lines_in (capacity (length rows)) rows)
