-- Laws of the fields of a row, one after the other, and of the row.
use Prim.Native.Nat.{ℕ, ◌+◌, ◌≤◌, ◌<◌}
use mathlib.Core.Path.{◌≡◌, refl, sym, ap, ◌∙◌}
use mathlib.Core.List.{List}
use mathlib.Core.Bool.{Bool, true, false, not, ◌&&◌}
use native.Mathlib.Omega.{arith}
use mir.Syntax.{w64}
use mir.Val.{Fits, SFits}
use mir.ValLaws.{to_z-of_z}
use borrow.Author.Tests.{not-true, not-false}
use lib.IntN.{ℤ, pos, nat_abs}
use lib.Signed.{lt_z}
use Rattle.number_print.proofs.PrintLaws.{below_zero}
use lib.ListN.{length, drop, drop_of_length-le}
use Rattle.rows.specs.Columns.{kind_column}
use Rattle.basics.proofs.Integers.{back}
use Rattle.law.specs.Limits.{below}
use Rattle.law.specs.Layouts.{types_of}
use Rattle.form_layouts.specs.Letters.{width_of, widths, type_at, is_kind}
use Rattle.law.specs.declared.Context.{Context}
use Rattle.law.specs.declared.FieldType.{FieldType}
use Rattle.form_layouts.proofs.KindLaws.{nine, type_here, widths_here}
use Rattle.law.specs.Rows.{width}
use Rattle.write_columns.specs.Columns.{column_fits, all_zero, fields_fit, row_fits}

-- the fields passed fit, and there is room for those that are left
pub record Fitting (c : Context) (kind : ℕ) (bytes : List ℕ) (row : List ℤ) (n i k : ℕ) : Type 0 where
  pub count : n ≡ length (types_of c.rules kind)
  pub within : i ≤ n
  pub columns : k + widths (drop i (types_of c.rules kind)) ≤ width
  pub left : fields_fit c bytes row (drop i (types_of c.rules kind)) k ≡ fields_fit c bytes row (types_of c.rules kind) 1

pub fit_start : (c : Context) (kind : ℕ) (bytes : List ℕ) (row : List ℤ) (n : ℕ) → n ≡ length (types_of c.rules kind) → Fitting c kind bytes row n 0 1
fit_start c kind bytes row n e = record { count = e; within = omega arith; columns = omega (arith, nine c.rules kind); left = refl }

module _ (c : Context) (kind : ℕ) (bytes : List ℕ) (row : List ℤ) (n i k : ℕ) (r : Fitting c kind bytes row n i k) where
  pub fit_few : k < 100
  fit_few = let h = r.columns in omega arith

  pub fit_over : (x : Bool) → n ≤ i → x ≡ all_zero (drop k row) → x ≡ fields_fit c bytes row (types_of c.rules kind) 1
  unfolding fields_fit
  fit_over x h e =
      let l : length (types_of c.rules kind) ≤ i = omega (arith, r.count) in
      e ∙ rw (drop_of_length-le (types_of c.rules kind) l) at r.left

  module _ (h : i < n) where
    pub fit_type : i < length (types_of c.rules kind)
    fit_type = omega (arith, r.count)

    module _ (t : FieldType) (e : t ≡ type_at (types_of c.rules kind) i) (x : Bool) (f : x ≡ column_fits c t bytes row k) where
      step : fields_fit c bytes row (drop i (types_of c.rules kind)) k ≡ (x && fields_fit c bytes row (drop (i + 1) (types_of c.rules kind)) (k + width_of t))
      unfolding fields_fit
      step = rw (type_here (types_of c.rules kind) i fit_type, f, e)

      pub fit_not : not x ≡ true → false ≡ fields_fit c bytes row (types_of c.rules kind) 1
      fit_not q = sym (rw (not-true x q) at step) ∙ r.left

      pub fit_more : (w : ℕ) → not x ≡ false → w ≡ width_of t → Fitting c kind bytes row n (i + 1) (k + w)
      fit_more w q g =
          let a : w ≡ width_of (type_at (types_of c.rules kind) i) = g ∙ ap width_of e in
          record {
            count = r.count;
            within = omega arith;
            columns = omega (arith, r.columns, widths_here (types_of c.rules kind) i fit_type, a);
            left = rw g (sym (rw (not-false x q) at step) ∙ r.left);
          }

      pub fit_fits : (w : ℕ) → w ≡ width_of t → Fits w64 (k + w)
      fit_fits w g = let a : w ≡ width_of (type_at (types_of c.rules kind) i) = g ∙ ap width_of e in omega (arith, r.columns, widths_here (types_of c.rules kind) i fit_type, a)

-- a row, by its kind
module _ (c : Context) (bytes : List ℕ) (row : List ℤ) (fz : SFits w64 (kind_column row)) where
  sign : lt_z (back (kind_column row)) (pos 0) ≡ below (kind_column row)
  sign = below_zero (kind_column row) fz

  pub row_below : lt_z (back (kind_column row)) (pos 0) ≡ true → false ≡ row_fits c bytes row
  unfolding row_fits
  row_below h = rw (sym sign ∙ h)

  module _ (h : lt_z (back (kind_column row)) (pos 0) ≡ false) (k : ℕ) (f : k ≡ nat_abs (back (kind_column row))) (y : Bool) (g : y ≡ is_kind c.rules k) where
    kind_is : k ≡ nat_abs (kind_column row)
    kind_is = f ∙ rw (to_z-of_z w64 (kind_column row) fz)

    pub row_unknown : not y ≡ true → false ≡ row_fits c bytes row
    unfolding row_fits
    row_unknown i = rw (sym sign ∙ h, sym kind_is, sym g ∙ not-true y i)

    pub row_by : (z : Bool) → not y ≡ false → z ≡ fields_fit c bytes row (types_of c.rules k) 1 → z ≡ row_fits c bytes row
    unfolding row_fits
    row_by z i j = rw (sym sign ∙ h, sym kind_is, sym g ∙ not-false y i) j
