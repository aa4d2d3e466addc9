-- Laws of a whole line, field by field: its length, and its bytes.
use Prim.Native.Nat.{ℕ, ◌+◌, ◌-◌, ◌≤◌, ◌<◌}
use mathlib.Core.Path.{◌≡◌, refl, sym, ap, ◌∙◌}
use mathlib.Core.List.{List, [], ◌∷◌, ◌++◌, append_assoc, append-nil}
use mathlib.Core.Bool.{true, not, ◌&&◌}
use native.Mathlib.Omega.{arith}
use mir.Syntax.{w64}
use mir.Val.{Fits, SFits}
use mir.ValLaws.{to_z-of_z}
use lib.IntN.{ℤ, nat_abs}
use lib.ListN.{length, drop, length-append, length-drop, drop_of_length-le}
use Rattle.rows.specs.Columns.{column_at, kind_column}
use Rattle.basics.proofs.Integers.{back}
use Rattle.basics.proofs.Bools.{and_left, and_right}
use Rattle.law.specs.Limits.{below}
use Rattle.number_print.specs.Printing.{Wrote}
use Rattle.number_print.proofs.PrintLaws.{wrote_length, wrote_more}
use Rattle.law.specs.Kinds.{section_of, role_of}
use Rattle.law.specs.Layouts.{types_of}
use Rattle.form_layouts.specs.Letters.{width_of, widths, type_at, is_kind}
use Rattle.law.specs.declared.Rules.{Rules}
use Rattle.law.specs.declared.FieldType.{FieldType}
use Rattle.form_layouts.proofs.KindLaws.{nine, type_here, widths_here}
use Rattle.law.specs.Rows.{width}
use Rattle.law.specs.Answers.{limit}
use Rattle.write_columns.specs.Columns.{column_fits, fields_fit, kind_in, row_fits}
use Rattle.write_lines.specs.LineText.{line_text, anywhere, up_to, behind_of, front_text, value_text, ended_text, column_text, fields_text}
use Rattle.write_lines.proofs.LineLaws.{line_pieces}
use Rattle.write_lines.proofs.PieceLaws.{up_small, up_whole, up_again}

-- the fields that are left fit, and there is room for their columns
pub record Left (v : Rules) (bytes : List ℕ) (row : List ℤ) (kind n i k : ℕ) : Type 0 where
  pub count : n ≡ length (types_of v kind)
  pub within : i ≤ n
  pub columns : k + widths (drop i (types_of v kind)) ≤ width
  pub fit : fields_fit (anywhere v) bytes row (drop i (types_of v kind)) k ≡ true

-- the sum so far, and what is still to come
pub record Summing (v : Rules) (bytes : List ℕ) (row : List ℤ) (sum kind n len i k : ℕ) : Type 0 where
  pub fields : Left v bytes row kind n i k
  pub capped : len ≤ limit + 1
  pub left : up_to (len + length (fields_text v bytes row (drop i (types_of v kind)) k)) ≡ up_to (sum + length (fields_text v bytes row (types_of v kind) 1))

-- what was written, and what is still to come
pub record Putting (v : Rules) (bytes : List ℕ) (row : List ℤ) (o p : List ℕ) (at kind n e i k : ℕ) : Type 0 where
  pub fields : Left v bytes row kind n i k
  pub done : List ℕ
  pub wrote : Wrote o p at e done
  pub left : done ++ fields_text v bytes row (drop i (types_of v kind)) k ≡ fields_text v bytes row (types_of v kind) 1

-- before the first field
module _ (v : Rules) (bytes : List ℕ) (row : List ℤ) (f : row_fits (anywhere v) bytes row ≡ true) (s : SFits w64 (kind_column row)) (kind : ℕ) (e : kind ≡ nat_abs (back (kind_column row))) where
  kind_is : kind ≡ kind_in row
  kind_is = e ∙ ap nat_abs (to_z-of_z w64 (kind_column row) s)

  known : is_kind v (kind_in row) && fields_fit (anywhere v) bytes row (types_of v (kind_in row)) 1 ≡ true
  unfolding row_fits
  known = and_right (not (below (kind_column row))) _ f

  pieces : (n : ℕ) → n ≡ length (types_of v kind) → line_text v bytes row ≡ front_text (role_of v kind) (section_of v kind) n ++ fields_text v bytes row (types_of v kind) 1
  pieces n g = rw (g, kind_is) (line_pieces v bytes row (and_left (is_kind v (kind_in row)) _ known))

  pub fields_fit_lem : fields_fit (anywhere v) bytes row (types_of v kind) 1 ≡ true
  fields_fit_lem = rw kind_is (and_right (is_kind v (kind_in row)) _ known)

  module _ (n : ℕ) (g : n ≡ length (types_of v kind)) where
    pub line_sum : (sum x len r : ℕ) → x ≡ length (front_text (role_of v kind) (section_of v kind) n) → len ≡ up_to (sum + x)
        → r ≡ up_to (len + length (fields_text v bytes row (types_of v kind) 1)) → r ≡ up_to (sum + length (line_text v bytes row))
    line_sum sum x len r h i j =
        let fs = fields_text v bytes row (types_of v kind) 1 in
        let z : sum + x + length fs ≡ sum + length (line_text v bytes row) = omega (arith, h, ap length (pieces n g), length-append (front_text (role_of v kind) (section_of v kind) n) fs) in
        j ∙ rw i (up_again (sum + x) (length fs)) ∙ ap up_to z

    pub front_room : (o : List ℕ) (at : ℕ) → at + length (line_text v bytes row) ≤ length o → at + length (front_text (role_of v kind) (section_of v kind) n) ≤ length o
    front_room o at h = omega (arith, ap length (pieces n g), length-append (front_text (role_of v kind) (section_of v kind) n) (fields_text v bytes row (types_of v kind) 1))

    module _ (o p : List ℕ) (at a : ℕ) (w : Wrote o p at a (front_text (role_of v kind) (section_of v kind) n)) where
      pub fields_room : at + length (line_text v bytes row) ≤ length o → a + length (fields_text v bytes row (types_of v kind) 1) ≤ length p
      fields_room h = omega (arith, w.next, wrote_length w, ap length (pieces n g), length-append (front_text (role_of v kind) (section_of v kind) n) (fields_text v bytes row (types_of v kind) 1))

      pub line_put : (q : List ℕ) (b : ℕ) → Wrote p q a b (fields_text v bytes row (types_of v kind) 1) → Wrote o q at b (line_text v bytes row)
      line_put q b x = rw (pieces n g) (wrote_more w x)

module _ (v : Rules) (bytes : List ℕ) (row : List ℤ) (kind n : ℕ) (g : n ≡ length (types_of v kind)) (f : fields_fit (anywhere v) bytes row (types_of v kind) 1 ≡ true) where
  all_left : Left v bytes row kind n 0 1
  all_left = record { count = g; within = omega arith; columns = omega (arith, nine v kind); fit = f }

  pub sum_start : (sum : ℕ) → sum ≤ limit + 1 → Summing v bytes row sum kind n sum 0 1
  sum_start sum h = record { fields = all_left; capped = h; left = refl }

  pub put_start : (o : List ℕ) (at : ℕ) → Putting v bytes row o o at kind n at 0 1
  put_start o at = record { fields = all_left; done = []; wrote = record { is = refl; next = omega arith }; left = refl }

-- one field
module _ (v : Rules) (bytes : List ℕ) (row : List ℤ) (kind n i k : ℕ) (r : Left v bytes row kind n i k) where
  left_few : k < 100
  left_few = let h = r.columns in omega arith

  none_left : n ≤ i → drop i (types_of v kind) ≡ []
  none_left h = let l : length (types_of v kind) ≤ i = omega (arith, r.count) in drop_of_length-le (types_of v kind) l

  module _ (h : i < n) where
    left_type : i < length (types_of v kind)
    left_type = omega (arith, r.count)

    behind : length (drop (i + 1) (types_of v kind)) ≡ n - i - 1
    behind = omega (arith, length-drop (i + 1) (types_of v kind), r.count)

    module _ (t : FieldType) (e : t ≡ type_at (types_of v kind) i) where
      fit_here : column_fits (anywhere v) t bytes row k && fields_fit (anywhere v) bytes row (drop (i + 1) (types_of v kind)) (k + width_of t) ≡ true
      unfolding fields_fit
      fit_here = rw e (rw (type_here (types_of v kind) i left_type) at r.fit)

      left_fits : column_fits (anywhere v) t bytes row k ≡ true
      left_fits = and_left (column_fits (anywhere v) t bytes row k) _ fit_here

      text_here : fields_text v bytes row (drop i (types_of v kind)) k ≡ column_text v t bytes row k (n - i - 1) ++ fields_text v bytes row (drop (i + 1) (types_of v kind)) (k + width_of t)
      unfolding fields_text
      text_here = rw (type_here (types_of v kind) i left_type, e, sym behind)

      module _ (w : ℕ) (g : w ≡ width_of t) where
        wide : w ≡ width_of (type_at (types_of v kind) i)
        wide = g ∙ ap width_of e

        left_add : Fits w64 (k + w)
        left_add = omega (arith, r.columns, widths_here (types_of v kind) i left_type, wide)

        left_more : Left v bytes row kind n (i + 1) (k + w)
        left_more = record {
          count = r.count;
          within = omega arith;
          columns = omega (arith, r.columns, widths_here (types_of v kind) i left_type, wide);
          fit = rw g (and_right (column_fits (anywhere v) t bytes row k) _ fit_here);
        }

-- the sum
module _ (v : Rules) (bytes : List ℕ) (row : List ℤ) (sum kind n len i k : ℕ) (r : Summing v bytes row sum kind n len i k) where
  pub sum_over : n ≤ i → len ≡ up_to (sum + length (fields_text v bytes row (types_of v kind) 1))
  unfolding fields_text
  sum_over h =
      let z : length (fields_text v bytes row (drop i (types_of v kind)) k) ≡ 0 = rw (none_left v bytes row kind n i k r.fields h) in
      let y : len ≡ len + length (fields_text v bytes row (drop i (types_of v kind)) k) = omega arith in
      up_whole len r.capped ∙ ap up_to y ∙ r.left

  pub sum_few : k < 100
  sum_few = left_few v bytes row kind n i k r.fields

  pub sum_small : len ≤ limit + 1
  sum_small = r.capped

  module _ (h : i < n) where
    pub sum_type : i < length (types_of v kind)
    sum_type = left_type v bytes row kind n i k r.fields h

    module _ (t : FieldType) (e : t ≡ type_at (types_of v kind) i) where
      pub sum_fits : column_fits (anywhere v) t bytes row k ≡ true
      sum_fits = left_fits v bytes row kind n i k r.fields h t e

      pub sum_add : (w : ℕ) → w ≡ width_of t → Fits w64 (k + w)
      sum_add w g = left_add v bytes row kind n i k r.fields h t e w g

      pub sum_more : (m w : ℕ) → m ≡ up_to (len + (length (value_text v t bytes (column_at row k) (column_at row (k + 1))) + 1)) → w ≡ width_of t
          → Summing v bytes row sum kind n m (i + 1) (k + w)
      unfolding ended_text
      sum_more m w d g =
          let fs = fields_text v bytes row (drop (i + 1) (types_of v kind)) (k + w) in
          let x = value_text v t bytes (column_at row k) (column_at row (k + 1)) in
          let a : fields_text v bytes row (drop i (types_of v kind)) k ≡ (x ++ behind_of (n - i - 1) ∷ []) ++ fs = rw g (text_here v bytes row kind n i k r.fields h t e) in
          let z : len + (length x + 1) + length fs ≡ len + length (fields_text v bytes row (drop i (types_of v kind)) k) = omega (arith, ap length a, length-append (x ++ behind_of (n - i - 1) ∷ []) fs, length-append x (behind_of (n - i - 1) ∷ [])) in
          record {
            fields = left_more v bytes row kind n i k r.fields h t e w g;
            capped = rw d (up_small (len + (length x + 1)));
            left = rw d (up_again (len + (length x + 1)) (length fs)) ∙ ap up_to z ∙ r.left;
          }

-- the bytes
module _ (v : Rules) (bytes : List ℕ) (row : List ℤ) (o p : List ℕ) (at kind n x i k : ℕ) (r : Putting v bytes row o p at kind n x i k) where
  pub put_over : n ≤ i → Wrote o p at x (fields_text v bytes row (types_of v kind) 1)
  unfolding fields_text
  put_over h =
      let z : fields_text v bytes row (drop i (types_of v kind)) k ≡ [] = rw (none_left v bytes row kind n i k r.fields h) in
      let y : r.done ≡ fields_text v bytes row (types_of v kind) 1 = sym (append-nil r.done) ∙ ap (λ (l : List ℕ). r.done ++ l) (sym z) ∙ r.left in
      rw y at r.wrote

  pub put_same : length p ≡ length o
  put_same = wrote_length r.wrote

  pub put_few : k < 100
  put_few = left_few v bytes row kind n i k r.fields

  module _ (h : i < n) where
    pub put_type : i < length (types_of v kind)
    put_type = left_type v bytes row kind n i k r.fields h

    module _ (t : FieldType) (e : t ≡ type_at (types_of v kind) i) where
      pub put_fits : column_fits (anywhere v) t bytes row k ≡ true
      put_fits = left_fits v bytes row kind n i k r.fields h t e

      pub put_add : (w : ℕ) → w ≡ width_of t → Fits w64 (k + w)
      put_add w g = left_add v bytes row kind n i k r.fields h t e w g

      split : (r.done ++ column_text v t bytes row k (n - i - 1)) ++ fields_text v bytes row (drop (i + 1) (types_of v kind)) (k + width_of t) ≡ fields_text v bytes row (types_of v kind) 1
      split =
          append_assoc r.done (column_text v t bytes row k (n - i - 1)) (fields_text v bytes row (drop (i + 1) (types_of v kind)) (k + width_of t))
          ∙ ap (λ (l : List ℕ). r.done ++ l) (sym (text_here v bytes row kind n i k r.fields h t e)) ∙ r.left

      pub put_room : at + length (fields_text v bytes row (types_of v kind) 1) ≤ length o → x + length (column_text v t bytes row k (n - i - 1)) ≤ length p
      put_room l =
          let a = r.done in
          let b = column_text v t bytes row k (n - i - 1) in
          let c = fields_text v bytes row (drop (i + 1) (types_of v kind)) (k + width_of t) in
          omega (arith, r.wrote.next, wrote_length r.wrote, ap length split, length-append (a ++ b) c, length-append a b)

      pub put_more : (q : List ℕ) (y w : ℕ) → Wrote p q x y (column_text v t bytes row k (n - i - 1)) → w ≡ width_of t
          → Putting v bytes row o q at kind n y (i + 1) (k + w)
      put_more q y w z g = record {
        fields = left_more v bytes row kind n i k r.fields h t e w g;
        done = r.done ++ column_text v t bytes row k (n - i - 1);
        wrote = wrote_more r.wrote z;
        left = rw g split;
      }
