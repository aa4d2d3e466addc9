-- Laws of two records by their rows, as the code leaves them.
use Prim.Native.Nat.{ℕ, ◌+◌, ◌≤◌, ◌<◌}
use mathlib.Core.Path.{◌≡◌, refl, sym, ap, ◌∙◌}
use mathlib.Core.List.{List}
use mathlib.Core.Bool.{Bool, true, false, not, ◌&&◌, false≢true}
use native.Mathlib.Omega.{arith}
use mir.Syntax.{w64}
use mir.Val.{Fits, SFits, of_z}
use mir.ValLaws.{to_z-of_z}
use borrow.Author.Tests.{not-true, not-false, eq-eqb, ne_eqb}
use lib.Dec.{eqb}
use lib.IntN.{ℤ, pos, nat_abs}
use lib.ListN.{length, drop, drop_of_length-le}
use lib.Seq.{drop-drop, get_or-drop}
use Rattle.basics.proofs.Integers.{back, back_same, bits_same}
use Rattle.rows.proofs.ColumnLaws.{column}
use Rattle.rows.specs.Columns.{column_at, kind_column}
use Rattle.basics.specs.Integers.{eq_z}
use Rattle.law.specs.Layouts.{types_of}
use Rattle.form_layouts.specs.Letters.{width_of, widths, type_at}
use Rattle.law.specs.declared.Rules.TheVariants.{Idf3}
use Rattle.law.specs.declared.FieldType.{FieldType}
use Rattle.law.specs.declared.FieldType.TheVariants.{Text as T, Date as D, Integer as I, Number as N, Word as W}
use Rattle.form_layouts.proofs.KindLaws.{seven, nine, type_here, widths_here}
use Rattle.law.specs.Rows.{width}
use Rattle.rows_texts.specs.Texts.{same_meanings}
use Rattle.same.specs.declared.Ignored.{Ignored}
use Rattle.same.specs.SameRows.{holds_bytes, same_field, agrees_at, same_from, same_fields, same_row}

-- the first columns of what is left of a row
first_column : (x : List ℤ) (c : ℕ) → column_at (drop c x) 0 ≡ column_at x c
first_column x c = let z : c + 0 ≡ c = omega arith in get_or-drop c x 0 (pos 0) ∙ rw z

second_column : (x : List ℤ) (c : ℕ) → column_at (drop c x) 1 ≡ column_at x (c + 1)
second_column x c = get_or-drop c x 1 (pos 0)

wide_bytes : (t : FieldType) → holds_bytes t ≡ true → width_of t ≡ 2
wide_bytes (T k) h = refl
wide_bytes D h = refl
wide_bytes I h = absurd (false≢true h)
wide_bytes (N l) h = absurd (false≢true h)
wide_bytes (W l) h = absurd (false≢true h)

wide_some : (t : FieldType) → 1 ≤ width_of t
wide_some (T k) = omega arith
wide_some D = omega arith
wide_some I = omega arith
wide_some (N l) = omega arith
wide_some (W l) = omega arith

module _ (t : FieldType) (c : ℕ) (r : c + width_of t ≤ width) where
  pub column_within : c < width
  column_within = omega (arith, wide_some t)

  module _ (p : Bool) (e : p ≡ holds_bytes t) (h : p ≡ true) where
    pub second_within : c + 1 < width
    second_within = omega (arith, wide_bytes t (sym e ∙ h))

    pub second_fits : Fits w64 (c + 1)
    second_fits = omega (arith, second_within)

module _ (t : FieldType) (f : List ℕ) (x : List ℤ) (h : List ℕ) (y : List ℤ) (c : ℕ) (p q : Bool) (e : p ≡ holds_bytes t) (f0 : SFits w64 (column_at x c)) (g0 : SFits w64 (column_at y c)) where
  pub field_bytes : p ≡ true → SFits w64 (column_at x (c + 1)) → SFits w64 (column_at y (c + 1))
      → q ≡ same_meanings t f (column x c) (column x (c + 1)) h (column y c) (column y (c + 1)) → q ≡ same_field t f (drop c x) h (drop c y)
  unfolding same_field same_meanings
  field_bytes i f1 g1 j =
      j ∙ rw (
        sym e ∙ i,
        first_column x c,
        first_column y c,
        second_column x c,
        second_column y c,
        to_z-of_z w64 (column_at x c) f0,
        to_z-of_z w64 (column_at y c) g0,
        to_z-of_z w64 (column_at x (c + 1)) f1,
        to_z-of_z w64 (column_at y (c + 1)) g1,
      )

  pub field_column : (r : Bool) → p ≡ false → r ≡ eq_z (back (column_at x c)) (back (column_at y c)) → r ≡ same_field t f (drop c x) h (drop c y)
  unfolding same_field
  field_column r i j = back_same (column_at x c) (column_at y c) r f0 g0 j ∙ rw (sym e ∙ i, first_column x c, first_column y c)

-- what is left of two rows tells whether all their fields agree
pub record Agreeing (g : Ignored) (k : ℕ) (f : List ℕ) (x : List ℤ) (h : List ℕ) (y : List ℤ) (n c i : ℕ) : Type 0 where
  pub count : n ≡ length (types_of Idf3 k)
  pub columns : c + widths (drop i (types_of Idf3 k)) ≤ width
  pub left : same_from g k i (drop i (types_of Idf3 k)) f (drop c x) h (drop c y) ≡ same_fields g k f x h y

pub agreeing_start : (g : Ignored) (k : ℕ) (f : List ℕ) (x : List ℤ) (h : List ℕ) (y : List ℤ) (n : ℕ) → n ≡ length (types_of Idf3 k) → Agreeing g k f x h y n 1 0
agreeing_start g k f x h y n e = record { count = e; columns = omega (arith, nine Idf3 k); left = refl }

module _ (g : Ignored) (k : ℕ) (f : List ℕ) (x : List ℤ) (h : List ℕ) (y : List ℤ) (n c i : ℕ) (r : Agreeing g k f x h y n c i) where
  pub agreeing_over : n ≤ i → true ≡ same_fields g k f x h y
  unfolding same_from
  agreeing_over l =
      let z : length (types_of Idf3 k) ≤ i = omega (arith, r.count) in
      rw (drop_of_length-le (types_of Idf3 k) z) at r.left

  module _ (l : i < n) where
    pub agreeing_type : i < length (types_of Idf3 k)
    agreeing_type = omega (arith, r.count)

    pub agreeing_place : i < 7
    agreeing_place = omega (arith, r.count, seven Idf3 k)

    module _ (t : FieldType) (e : t ≡ type_at (types_of Idf3 k) i) where
      pub agreeing_room : c + width_of t ≤ width
      agreeing_room = rw e (omega (arith, r.columns, widths_here (types_of Idf3 k) i agreeing_type))

      module _ (p : Bool) (d : p ≡ agrees_at g k i t f (drop c x) h (drop c y)) where
        step : same_fields g k f x h y ≡ (p && same_from g k (i + 1) (drop (i + 1) (types_of Idf3 k)) f (drop (c + width_of t) x) h (drop (c + width_of t) y))
        unfolding same_from
        step = sym r.left ∙ rw (type_here (types_of Idf3 k) i agreeing_type, sym e, sym d, drop-drop (width_of t) c x, drop-drop (width_of t) c y)

        pub agreeing_not : not p ≡ true → false ≡ same_fields g k f x h y
        agreeing_not j = let z = not-true p j in sym (step ∙ rw z)

        module _ (u : ℕ) (w : u ≡ width_of t) where
          pub agreeing_fits : Fits w64 (c + u)
          agreeing_fits = omega (arith, agreeing_room, w)

          pub agreeing_more : not p ≡ false → Agreeing g k f x h y n (c + u) (i + 1)
          agreeing_more j =
              let z = not-false p j in
              let v : width_of t ≡ width_of (type_at (types_of Idf3 k) i) = ap width_of e in
              record {
                count = r.count;
                columns = omega (arith, r.columns, widths_here (types_of Idf3 k) i agreeing_type, w, v);
                left = rw w (sym (step ∙ rw z));
              }

-- two rows
module _ (g : Ignored) (f : List ℕ) (x : List ℤ) (h : List ℕ) (y : List ℤ) (f0 : SFits w64 (kind_column x)) (g0 : SFits w64 (kind_column y)) where
  kinds : eqb (of_z w64 (kind_column x)) (of_z w64 (kind_column y)) ≡ eq_z (kind_column x) (kind_column y)
  kinds = bits_same (kind_column x) (kind_column y) f0 g0

  pub rows_differ : (of_z w64 (kind_column x) ≡ of_z w64 (kind_column y) → ⊥) → false ≡ same_row g f x h y
  unfolding same_row
  rows_differ j = rw (sym kinds ∙ ne_eqb (of_z w64 (kind_column x)) (of_z w64 (kind_column y)) j)

  pub rows_by_fields : (n : ℕ) (q : Bool) → of_z w64 (kind_column x) ≡ of_z w64 (kind_column y) → n ≡ nat_abs (back (kind_column x)) → q ≡ same_fields g n f x h y → q ≡ same_row g f x h y
  unfolding same_row
  rows_by_fields n q j i l =
      rw (sym kinds ∙ eq-eqb (of_z w64 (kind_column x)) (of_z w64 (kind_column y)) j) (l ∙ rw (i, to_z-of_z w64 (kind_column x) f0))
