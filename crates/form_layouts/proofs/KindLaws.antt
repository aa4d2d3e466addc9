-- Laws of kinds and of the table of layouts.
use Prim.Native.Nat.{ℕ, zero, suc, ◌+◌, ◌*◌, ◌/◌, ◌-◌, ◌≤◌, ◌<◌}
use mir.Syntax.{w64}
use mir.Val.{Fits}
use mathlib.Core.Path.{◌≡◌, refl, ◌∙◌}
use mathlib.Core.List.{List, [], ◌∷◌}
use mathlib.Core.Bool.{Bool, true, false, not, ◌&&◌}
use native.Mathlib.Omega.{arith}
use borrow.Author.Tests.{le-leb, lt-leb, leb-true, lt-ltb, le-ltb}
use lib.Dec.{leb, eqb}
use lib.ListN.{length, get_or, drop}
use lib.Seq.{drop-cons}
use native.Mathlib.Numerals.{add-one}
use Rattle.rows.proofs.EachKind.{each_kind}
use Rattle.basics.proofs.Bytes.{bytes_true}
use Rattle.basics.proofs.Tables.{all_below}
use Rattle.basics.proofs.Bools.{and_left, and_right, same_flag, flag_eq}
use Rattle.law.specs.Sections.{section_names, sections}
use Rattle.law.specs.Words.{same_bytes, word_at}
use Rattle.law.specs.Kinds.{section_of, line_of, last_kind}
use Rattle.law.specs.Layouts.{layout_of, types_of}
use Rattle.form_layouts.specs.Letters.{letter_at, row_of, row_for, widths, is_kind, layout_table, line_table, letter_of, letters, type_at, limit_at, words_at, plain_named, type_named, width_of}
use Rattle.law.specs.declared.Words.{Words}
use Rattle.law.specs.declared.Words.TheVariants.{FileTypes, Units, Owners, Faces, Sides, Layers, Plates, Statuses}
use Rattle.law.specs.declared.Limit.{Limit}
use Rattle.law.specs.declared.Limit.TheVariants.{Length as L, NotBelow as L0, Above as Lp, Included as A, Rotation as R, Version as Ver}
use Rattle.law.specs.declared.FieldType.{FieldType}
use Rattle.law.specs.declared.Texts.TheVariants.{Plain, Reference, Hole}
use Rattle.law.specs.declared.FieldType.TheVariants.{Text as T, Date as D, Integer as I, Number as N, Word as W}
use Rattle.law.specs.declared.Rules.{Rules}
use Rattle.law.specs.declared.Rules.TheVariants.{Idf3}

-- ten kinds to a section, and none above
pub in_section : (v : Rules) (k s : ℕ) → s ≤ 15 → 10 * s ≤ k → k ≤ 10 * s + 9 → s ≡ section_of v k
unfolding section_of
in_section Idf3 k s h l u = let e : s ≡ k / 10 = omega arith in rw (le-leb k last_kind (omega arith)) e

pub no_section : (v : Rules) (k : ℕ) → last_kind < k → 0 ≡ section_of v k
unfolding section_of
no_section Idf3 k h = rw (lt-leb k last_kind h)

-- what the tables say of a kind: its letter has a row, the row is that of its types, and @ alone is no kind
abbrev letter_right : Rules → ℕ → Bool
letter_right v k = leb 64 (letter_at v k) && leb (letter_at v k) 80

abbrev row_right : Rules → ℕ → Bool
row_right v k = same_bytes (row_of v k) (row_for (types_of v k))

abbrev kind_right : Rules → ℕ → Bool
kind_right v k = same_flag (not (eqb (letter_at v k) 64)) (is_kind v k)

abbrev right : Rules → ℕ → Bool
right v k = letter_right v k && (row_right v k && kind_right v k)

table_right : (v : Rules) → all_below (suc last_kind) (right v) ≡ true
unfolding letter_at row_of row_for types_of layout_of is_kind section_of line_of sections section_names word_at layout_table line_table same_bytes
table_right Idf3 = refl

beyond : (v : Rules) (k : ℕ) → leb k last_kind ≡ false → right v k ≡ true
unfolding letter_at row_of row_for types_of layout_of is_kind section_of line_of sections layout_table same_bytes
beyond Idf3 k h = rw h

all_right : (v : Rules) (k : ℕ) → right v k ≡ true
all_right v = each_kind (right v) (table_right v) (beyond v)

pub letter_low : (v : Rules) (k : ℕ) → 64 ≤ letter_at v k
letter_low v k = leb-true 64 (letter_at v k) (and_left (leb 64 (letter_at v k)) _ (and_left (letter_right v k) _ (all_right v k)))

pub letter_high : (v : Rules) (k : ℕ) → letter_at v k ≤ 80
letter_high v k = leb-true (letter_at v k) 80 (and_right (leb 64 (letter_at v k)) _ (and_left (letter_right v k) _ (all_right v k)))

pub row_is : (v : Rules) (k : ℕ) → row_of v k ≡ row_for (types_of v k)
row_is v k = bytes_true (row_of v k) (row_for (types_of v k)) (and_left (row_right v k) _ (and_right (letter_right v k) _ (all_right v k)))

pub kind_is : (v : Rules) (k : ℕ) → not (eqb (letter_at v k) 64) ≡ is_kind v k
kind_is v k = flag_eq _ _ (and_right (row_right v k) _ (and_right (letter_right v k) _ (all_right v k)))

-- what the code reads off the tables: l is the letter of a kind, row its row
pub letter_kind : (v : Rules) (k l : ℕ) → l ≡ letter_at v k → not (eqb l 64) ≡ is_kind v k
letter_kind v k l e = rw e (kind_is v k)

module _ (v : Rules) (k : ℕ) (row : List ℕ) (e : row ≡ row_of v k) where
  same : row ≡ row_for (types_of v k)
  same = e ∙ row_is v k

  digit_one : get_or row 0 0 ≡ 48 + length (types_of v k)
  unfolding row_for
  digit_one = rw same

  pub count_from : 48 ≤ get_or row 0 0
  count_from = omega (arith, digit_one)

  pub count_is : get_or row 0 0 - 48 ≡ length (types_of v k)
  count_is = omega (arith, digit_one)

  -- field i
  pub type_letter : (i : ℕ) → i < length (types_of v k) → i < 7 → get_or row (i + 1) 0 ≡ letter_of (type_at (types_of v k) i)
  unfolding row_for
  type_letter i h l = let z : i + 1 ≡ suc i = omega arith in rw (same, z) (at 7 (types_of v k) i h l)
    where
      at : (n : ℕ) (ts : List FieldType) (i : ℕ) → i < length ts → i < n → get_or (letters n ts) i 0 ≡ letter_of (type_at ts i)
      at zero ts i h l = absurd (omega arith)
      at (suc n) [] i h l = absurd (omega arith)
      at (suc n) (t ∷ ts) zero h l = refl
      at (suc n) (t ∷ ts) (suc i) h l = at n ts i (omega arith) (omega arith)

-- no layout has more than seven fields, or fills more than nine columns
short : Rules → ℕ → Bool
short v k = leb (length (types_of v k)) 7 && leb (widths (types_of v k)) 9

short_table : (v : Rules) → all_below (suc last_kind) (short v) ≡ true
unfolding short types_of layout_of section_of line_of sections section_names word_at widths
short_table Idf3 = refl

short_none : (v : Rules) (k : ℕ) → leb k last_kind ≡ false → short v k ≡ true
unfolding short types_of layout_of section_of widths
short_none Idf3 k h = rw h

all_short : (v : Rules) (k : ℕ) → short v k ≡ true
all_short v = each_kind (short v) (short_table v) (short_none v)

pub seven : (v : Rules) (k : ℕ) → length (types_of v k) ≤ 7
unfolding short
seven v k = leb-true (length (types_of v k)) 7 (and_left (leb (length (types_of v k)) 7) _ (all_short v k))

pub nine : (v : Rules) (k : ℕ) → widths (types_of v k) ≤ 9
unfolding short
nine v k = leb-true (widths (types_of v k)) 9 (and_right (leb (length (types_of v k)) 7) _ (all_short v k))

-- a type by its letter
pub named : (t : FieldType) → type_named (letter_of t) ≡ t
unfolding type_named
named (T Plain) = refl
named (T Reference) = refl
named (T Hole) = refl
named D = refl
named I = refl
named (N L) = refl
named (N L0) = refl
named (N Lp) = refl
named (N A) = refl
named (N R) = refl
named (N Ver) = refl
named (W FileTypes) = refl
named (W Units) = refl
named (W Owners) = refl
named (W Faces) = refl
named (W Sides) = refl
named (W Layers) = refl
named (W Plates) = refl
named (W Statuses) = refl

module _ (b : ℕ) where
  pub named_plain : (t : FieldType) → b < 97 → t ≡ plain_named b → t ≡ type_named b
  unfolding type_named
  named_plain t h e = rw (lt-ltb b 97 h) e

  pub named_number : (l : Limit) → 97 ≤ b → b < 103 → l ≡ limit_at (b - 97) → N l ≡ type_named b
  unfolding type_named
  named_number l h k e = rw (le-ltb b 97 h, lt-ltb b 103 k, e)

  pub named_word : (l : Words) → 97 ≤ b → 103 ≤ b → l ≡ words_at (b - 103) → W l ≡ type_named b
  unfolding type_named
  named_word l h k e = rw (le-ltb b 97 h, le-ltb b 103 k, e)

-- so few fields are counted in a word
module _ (v : Rules) (k : ℕ) (row : List ℕ) (e : row ≡ row_of v k) where
  pub count_fits : Fits w64 (get_or row 0 0 - 48)
  count_fits = omega (arith, count_is v k row e, seven v k)

-- field i of a layout in front of those behind it, and the columns that they fill
module _ (ts : List FieldType) (i : ℕ) (h : i < length ts) where
  pub type_here : drop i ts ≡ type_at ts i ∷ drop (i + 1) ts
  type_here = rw (add-one i) (drop-cons ts i (T Plain) h)

  pub widths_here : widths (drop i ts) ≡ width_of (type_at ts i) + widths (drop (i + 1) ts)
  unfolding widths
  widths_here = rw type_here
