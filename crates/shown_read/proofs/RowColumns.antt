-- A row's columns beside the values that they mean: the point in the row of a point line, the file's type in that of a title line, a component's name in that of a leading line.
use Prim.Native.Nat.{ℕ, zero, suc, ◌≤◌}
use mathlib.Core.Path.{◌≡◌, refl}
use mathlib.Core.List.{List, [], ◌∷◌, ◌++◌}
use mathlib.Core.Bool.{Bool, true, false, not, ◌&&◌, ◌||◌, false≢true}
use native.Mathlib.Omega.{arith}
use lib.IntN.{ℤ, pos}
use lib.ListN.{get_or, replicate}
use Rattle.rows_texts.specs.Names.{geometry_in, part_in}
use Rattle.rows.proofs.EachKind.{each_kind}
use Rattle.rows.specs.RowKinds.{leads_component}
use Rattle.rows.specs.Columns.{point_in, type_in_row}
use Rattle.basics.proofs.Bools.{other, both}
use Rattle.basics.specs.Integers.{eq_z}
use Rattle.law.specs.Values.{Value, word, Rec}
use Rattle.law.specs.Sections.{sections}
use Rattle.law.specs.Kinds.{section_of, line_of, role_of}
use Rattle.law.specs.declared.Role.TheVariants.{Title as title, Point as point}
use Rattle.law.specs.Layouts.{layout_of, types_of}
use Rattle.law.specs.Fits.{under, WellFormed}
use Rattle.law.specs.declared.Rules.{Rules}
use Rattle.law.specs.declared.Rules.TheVariants.{Idf3}
use Rattle.law.specs.declared.FileType.{FileType}
use Rattle.law.specs.declared.Texts.TheVariants.{Plain}
use Rattle.law.specs.declared.FieldType.{FieldType}
use Rattle.law.specs.declared.FieldType.TheVariants.{Text as T, Date as D, Integer as I, Number as N, Word as W}
use Rattle.law.specs.Rows.{is_number, Means, none, a_number, a_word, a_date, a_text, Holds}
use Rattle.basics.proofs.Meanings.{plain_meaning}
use Rattle.law.specs.Records.{num_of, word_of, bytes_of, type_in, Named, names_a_component, name_in}
use Rattle.order.specs.Marks.{point_of}
use Rattle.order.specs.Automaton.{is_role}
use Rattle.shown_lists.proofs.Tables.{component_fields}
use Rattle.shown_read.proofs.PointKinds.{numbers_to, number_first, included_at, length_at, turn_at_lem, fits_types}

-- the component in the row of a leading line: the texts of its first two fields
abbrev pub name_at : List ℕ → List ℤ → Named
name_at file x = record { geometry = geometry_in file x; number = part_in file x }

-- What the types in front of a layout are
abbrev is_word : FieldType → Bool
is_word (T k) = false
is_word D = false
is_word I = false
is_word (N l) = false
is_word (W l) = true

abbrev word_first : List FieldType → Bool
word_first [] = false
word_first (t ∷ ts) = is_word t

word_alone : (t : FieldType) → is_word t ≡ true → is_number t ≡ true → ⊥
word_alone (T k) h i = false≢true h
word_alone D h i = false≢true h
word_alone I h i = false≢true h
word_alone (N l) h i = false≢true h
word_alone (W l) h i = false≢true i

-- a point is four numbers, the last an included angle, and a title begins with a word
abbrev point_like : List FieldType → Bool
point_like ts = numbers_to 3 ts && included_at 3 ts

abbrev asked : Rules → ℕ → Bool
asked v k = (not (is_role (role_of v k) point) || point_like (types_of v k)) && (not (is_role (role_of v k) title) || word_first (types_of v k))

as_asked : (v : Rules) (k : ℕ) → asked v k ≡ true
unfolding role_of types_of layout_of section_of line_of sections
as_asked Idf3 = each_kind (asked Idf3) refl (λ k e. rw e)

point_types : (v : Rules) (k : ℕ) → is_role (role_of v k) point ≡ true → point_like (types_of v k) ≡ true
point_types v k e = other (not (is_role (role_of v k) point)) _ (rw e) (both (not (is_role (role_of v k) point) || point_like (types_of v k)) _ (as_asked v k)).0

title_word : (v : Rules) (k : ℕ) → is_role (role_of v k) title ≡ true → word_first (types_of v k) ≡ true
title_word v k e = other (not (is_role (role_of v k) title)) _ (rw e) (both (not (is_role (role_of v k) point) || point_like (types_of v k)) _ (as_asked v k)).1

-- Columns in front of zs, and the values that they mean
module _ {file : List ℕ} (zs : List ℤ) where
  number_column : {ts : List FieldType} {cs : List ℤ} {vs : List Value} → Means file ts cs vs → (n i : ℕ) → i ≤ n → numbers_to n ts ≡ true
      → get_or (cs ++ zs) i (pos 0) ≡ num_of (get_or vs i (word 0))
  number_column none n i h e = absurd (false≢true e)
  number_column (a_number k m) n zero h e = refl
  number_column (a_number k m) zero (suc i) h e = absurd (omega arith)
  number_column (a_number {t = t} {ts = ts} k m) (suc n) (suc i) h e = number_column m n i (omega arith) (both (is_number t) (numbers_to n ts) e).1
  number_column (a_word {l = l} {ts = ts} m) n i h e = absurd (false≢true (number_first n (W l) ts e))
  number_column (a_date {ts = ts} j m) n i h e = absurd (false≢true (number_first n D ts e))
  number_column (a_text {k = k} {ts = ts} j m) n i h e = absurd (false≢true (number_first n (T k) ts e))

  word_column : {ts : List FieldType} {cs : List ℤ} {vs : List Value} → Means file ts cs vs → word_first ts ≡ true → get_or (cs ++ zs) 0 (pos 0) ≡ pos (word_of (get_or vs 0 (word 0)))
  word_column none e = absurd (false≢true e)
  word_column (a_number {t = t} k m) e = absurd (word_alone t e k)
  word_column (a_word m) e = refl
  word_column (a_date j m) e = absurd (false≢true e)
  word_column (a_text j m) e = absurd (false≢true e)

  name_columns : {ts : List FieldType} {cs : List ℤ} {vs : List Value} → Means file (T Plain ∷ T Plain ∷ ts) cs vs
      → name_at file (pos 0 ∷ (cs ++ zs)) ≡ record { geometry = bytes_of (get_or vs 0 (word 0)); number = bytes_of (get_or vs 1 (word 0)) }
  name_columns (a_number h m) = absurd (false≢true h)
  name_columns (a_text j (a_number i m)) = absurd (false≢true i)
  name_columns (a_text j (a_text l m)) = rw (plain_meaning _, plain_meaning _)

-- What a row says of its record
module _ (file : List ℕ) (v : Rules) (k : ℕ) (row : List ℤ) (vs : List Value) (h : Holds file k (types_of v k) row vs) where
  abbrev its : Rec
  its = record { kind = k; values = vs }

  pub point_in_lem : (t : FileType) → WellFormed (under v t) its → is_role (role_of v k) point ≡ true → point_in row ≡ point_of its
  point_in_lem t w e =
      let m = h.means in
      let p = both (numbers_to 3 (types_of v k)) (included_at 3 (types_of v k)) (point_types v k e) in
      let n = p.0 in
      let f = fits_types (under v t) k vs w in
      let z = replicate h.left (pos 0) in
      rw (
        h.is,
        number_column z m 3 0 (omega arith) n,
        number_column z m 3 1 (omega arith) n,
        number_column z m 3 2 (omega arith) n,
        number_column z m 3 3 (omega arith) n,
        length_at (under v t) (types_of v k) vs 3 1 (omega arith) n f,
        length_at (under v t) (types_of v k) vs 3 2 (omega arith) n f,
        turn_at_lem (under v t) (types_of v k) vs 3 p.1 f,
      )

  pub type_in_lem : is_role (role_of v k) title ≡ true → type_in_row row ≡ type_in its
  unfolding eq_z
  type_in_lem e = rw (h.is, word_column (replicate h.left (pos 0)) h.means (title_word v k e))

  pub name_in_lem : names_a_component v k ≡ true → name_at file row ≡ name_in its
  name_in_lem e = let c = component_fields v k e in rw h.is (name_columns (replicate h.left (pos 0)) (rw c.1 at h.means))

-- the kind in front says whether a row names a component
pub names_is : (file : List ℕ) (v : Rules) (k : ℕ) (row : List ℤ) (vs : List Value) → Holds file k (types_of v k) row vs → leads_component row ≡ names_a_component v k
unfolding eq_z names_a_component
names_is file Idf3 k row vs h = rw h.is
