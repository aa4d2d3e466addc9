-- "Each keyword or data line gives one row": the row of a record by the line that spells it, with its texts where they stand, and the rows of
-- the lines of a file, each with the number of its line, from 1, in which free lines count too (W-205).
use Rattle.std.specs.Prelude.{ℕ, zero, suc, ◌+◌, ◌*◌, ◌≡◌, List, [], ◌∷◌, ◌++◌, ℤ, pos, length, replicate}
use Rattle.law.specs.Lines.{place_behind, Free}
use Rattle.law.specs.Values.{Value, number, word, text, Rec}
use Rattle.law.specs.declared.Context.{Context}
use Rattle.law.specs.Rows.{width, stride, with_line}
use Rattle.law.specs.RecordSpelling.{SpellsRecord}
use Rattle.law.specs.FieldPlaces.{Spot, SpelledAt, start_and_length}

-- the columns of a value: a number itself, a word its place in its list, a text or a date the start and the length of its field
abbrev pub columns_of : Value → Spot → List ℤ
columns_of (number z) p = z ∷ []
columns_of (word n) p = pos n ∷ []
columns_of (text s) p = start_and_length p

-- of each value, which its own field spells
unfoldable pub columns_of_all : List Value → List Spot → List ℤ
columns_of_all [] ps = []
columns_of_all (v ∷ vs) [] = []
columns_of_all (v ∷ vs) (p ∷ ps) = columns_of v p ++ columns_of_all vs ps

-- the numbers of the record r, by its line l, which begins at b in the file: its kind, the columns of its values, and 0 in what is left.
-- The last fields of the line spell the values, one each; a keyword or PROP stands before them
pub record RowOf (b : ℕ) (l : List ℕ) (r : Rec) (row : List ℤ) : Type 0 where
  pub front : List Spot
  pub own : List Spot
  pub left : ℕ
  pub spelled : SpelledAt b (front ++ own) l
  pub each : length own ≡ length r.values
  pub is : row ≡ pos r.kind ∷ (columns_of_all r.values own ++ replicate left (pos 0))
  pub ten : length row ≡ width

-- the rows of lines of a file that spell these records, the first of which begins at b and is line n: a free line has none, and every other has
-- its record's numbers and its own
pub data RowsAt (c : Context) (file : List ℕ) : ℕ → ℕ → List (List ℕ) → List Rec → List ℤ → Type 0 where
  end : {b n : ℕ} → RowsAt c file b n [] [] []
  free : {b n : ℕ} {l : List ℕ} {ls : List (List ℕ)} {rs : List Rec} {xs : List ℤ} → Free l → RowsAt c file (place_behind file b l) (n + 1) ls rs xs
      → RowsAt c file b n (l ∷ ls) rs xs
  line : {b n : ℕ} {l : List ℕ} {ls : List (List ℕ)} {r : Rec} {rs : List Rec} {x xs : List ℤ}
      → SpellsRecord c r l → RowOf b l r x → RowsAt c file (place_behind file b l) (n + 1) ls rs xs
      → RowsAt c file b n (l ∷ ls) (r ∷ rs) (with_line x (pos n) ++ xs)

-- of all lines of a file: the first begins at its first byte and is line 1
abbrev pub RowsOf : Context → List ℕ → List (List ℕ) → List Rec → List ℤ → Type 0
RowsOf c file ls rs xs = RowsAt c file 0 1 ls rs xs

-- k numbers from n on: the lines of rows where every line has one
unfoldable pub up_from : ℕ → ℕ → List ℤ
up_from n zero = []
up_from n (suc k) = pos n ∷ up_from (n + 1) k

-- the first byte of the line that stands behind these lines of a file, the first of which begins at b
unfoldable pub start_after : List ℕ → ℕ → List (List ℕ) → ℕ
start_after file b [] = b
start_after file b (l ∷ ls) = start_after file (place_behind file b l) ls

-- the row of the line l, which begins at b and is line n: it is that of the record which l spells, and stands behind the rows of the records before it
pub record LineRow (c : Context) (b n : ℕ) (l : List ℕ) (rs : List Rec) (xs : List ℤ) : Type 0 where
  pub before : List Rec
  pub its : Rec
  pub after : List Rec
  pub above : List ℤ
  pub row : List ℤ
  pub below : List ℤ
  pub records : rs ≡ before ++ (its ∷ after)
  pub rows : xs ≡ above ++ (with_line row (pos n) ++ below)
  pub as_many : length above ≡ stride * length before
  pub spells : SpellsRecord c its l
  pub is : RowOf b l its row
