-- A row that fits holds the values of a well_formed_lem record: the one that is read in it.
use Prim.Native.Nat.{ℕ, suc, ◌+◌, ◌-◌, ◌≤◌, ◌<◌}
use mathlib.Core.Path.{◌≡◌, refl, sym, ap, ◌∙◌, subst, subst₂}
use mathlib.Core.List.{List, [], ◌∷◌, ◌++◌}
use mathlib.Core.Option.{Option, none, some}
use mathlib.Core.Bool.{Bool, true, false, not, ◌&&◌, ◌||◌, false≢true}
use native.Mathlib.Numerals.{add-one}
use native.Mathlib.Omega.{arith}
use borrow.Author.Tests.{leb-true}
use lib.Dec.{leb}
use lib.IntN.{ℤ, pos, negsuc, nat_abs}
use lib.ListN.{length, drop, replicate, length-append, length-replicate}
use lib.Seq.{drop-cons}
use Rattle.rows.specs.Columns.{column_at, kind_column}
use Rattle.basics.proofs.Integers.{eq_z_true}
use Rattle.basics.specs.Integers.{eq_z}
use Rattle.basics.proofs.Bools.{and_left, and_right}
use Rattle.law.specs.Limits.{below}
use Rattle.law.specs.Values.{Value, number, word, text}
use Rattle.law.specs.Layouts.{Layout, layout_of, types_by, types_of}
use Rattle.form_layouts.specs.Letters.{width_of, widths, known_by, is_kind}
use Rattle.law.specs.Fits.{meaning, fits, fits_all, fits_by, well_formed, WellFormed}
use Rattle.law.specs.declared.Context.{Context}
use Rattle.law.specs.declared.Words.{Words}
use Rattle.law.specs.declared.Texts.{Texts}
use Rattle.law.specs.declared.FieldType.{FieldType}
use Rattle.basics.proofs.Meanings.{date_meaning}
use Rattle.law.specs.declared.FieldType.TheVariants.{Text as T, Date as D, Integer as I, Number as N, Word as W}
use Rattle.form_layouts.proofs.KindLaws.{nine}
use Rattle.law.specs.Rows.{width, Means, none, a_number, a_word, a_date, a_text, Holds}
use Rattle.rows_texts.specs.Texts.{text_at}
use Rattle.write_columns.specs.Columns.{lies_in, range_fits, integer_fits, word_fits, column_fits, all_zero, fields_fit, kind_in, row_fits}
use Rattle.write_columns.specs.Records.{value_in, values_in, record_in}

-- a number that is not below zero is its magnitude
not_below : (z : ℤ) → not (below z) ≡ true → z ≡ pos (nat_abs z)
not_below (pos n) h = refl
not_below (negsuc n) h = absurd (false≢true h)

or_left : (a b : Bool) → not (a || b) ≡ true → not a ≡ true
or_left true b h = absurd (false≢true h)
or_left false b h = refl

or_right : (a b : Bool) → not (a || b) ≡ true → not b ≡ true
or_right true b h = absurd (false≢true h)
or_right false b h = h

-- columns that are 0
zeros : (zs : List ℤ) → all_zero zs ≡ true → zs ≡ replicate (length zs) (pos 0)
unfolding all_zero
zeros [] h = refl
zeros (z ∷ zs) h = rw (eq_z_true z (pos 0) (and_left (eq_z z (pos 0)) (all_zero zs) h)) (ap (λ (l : List ℤ). pos 0 ∷ l) (zeros zs (and_right (eq_z z (pos 0)) (all_zero zs) h)))

module _ (bytes : List ℕ) (a l : ℤ) (h : lies_in (length bytes) a l ≡ true) where
  start_plain : a ≡ pos (nat_abs a)
  unfolding lies_in
  start_plain = not_below a (or_left (below a) (below l) (and_left (not (below a || below l)) _ h))

  length_plain : l ≡ pos (nat_abs l)
  unfolding lies_in
  length_plain = not_below l (or_right (below a) (below l) (and_left (not (below a || below l)) _ h))

  inside : nat_abs a + nat_abs l ≤ length bytes
  unfolding lies_in
  inside =
      let p = and_right (not (below a || below l)) (leb (nat_abs l) (length bytes) && leb (nat_abs a) (length bytes - nat_abs l)) h in
      let q = leb-true (nat_abs l) (length bytes) (and_left (leb (nat_abs l) (length bytes)) _ p) in
      let r = leb-true (nat_abs a) (length bytes - nat_abs l) (and_right (leb (nat_abs l) (length bytes)) _ p) in
      omega arith

-- values from column k on
record Held (c : Context) (bytes : List ℕ) (row : List ℤ) (ts : List FieldType) (k : ℕ) (vs : List Value) : Type 0 where
  columns : List ℤ
  left : ℕ
  is : drop k row ≡ columns ++ replicate left (pos 0)
  means : Means bytes ts columns vs
  fit : fits_all c ts vs ≡ true

module _ (c : Context) (bytes : List ℕ) (row : List ℤ) (wide : length row ≡ width) where
  cons : (k : ℕ) → k < width → drop k row ≡ column_at row k ∷ drop (k + 1) row
  cons k h = let l : k < length row = omega arith in rw (add-one k) (drop-cons row k (pos 0) l)

  one : (t : FieldType) (ts : List FieldType) (k : ℕ) (v : Value) (vs : List Value) → k < width → fits c t v ≡ true
      → ((cs : List ℤ) → Means bytes ts cs vs → Means bytes (t ∷ ts) (column_at row k ∷ cs) (v ∷ vs))
      → Held c bytes row ts (k + 1) vs → Held c bytes row (t ∷ ts) k (v ∷ vs)
  unfolding fits_all
  one t ts k v vs h f m r = record {
    columns = column_at row k ∷ r.columns;
    left = r.left;
    is = cons k h ∙ ap (λ (l : List ℤ). column_at row k ∷ l) r.is;
    means = m r.columns r.means;
    fit = rw f r.fit;
  }

  two : (t : FieldType) (ts : List FieldType) (k : ℕ) (v : Value) (vs : List Value) → k + 1 < width → fits c t v ≡ true
      → ((cs : List ℤ) → Means bytes ts cs vs → Means bytes (t ∷ ts) (column_at row k ∷ column_at row (k + 1) ∷ cs) (v ∷ vs))
      → Held c bytes row ts (k + 2) vs → Held c bytes row (t ∷ ts) k (v ∷ vs)
  unfolding fits_all
  two t ts k v vs h f m r =
      let e : k + 1 + 1 ≡ k + 2 = omega arith in
      let i : k < width = omega arith in
      record {
        columns = column_at row k ∷ column_at row (k + 1) ∷ r.columns;
        left = r.left;
        is = cons k i ∙ ap (λ (l : List ℤ). column_at row k ∷ l) (cons (k + 1) h ∙ ap (λ (l : List ℤ). column_at row (k + 1) ∷ l) (ap (λ (n : ℕ). drop n row) e ∙ r.is));
        means = m r.columns r.means;
        fit = rw f r.fit;
      }

  -- a word or a text, whose columns are not below zero
  word_means : (l : Words) (ts : List FieldType) (z : ℤ) (cs : List ℤ) (vs : List Value) → z ≡ pos (nat_abs z) → Means bytes ts cs vs
      → Means bytes (W l ∷ ts) (z ∷ cs) (word (nat_abs z) ∷ vs)
  word_means l ts z cs vs e m = subst (λ (x : ℤ). Means bytes (W l ∷ ts) (x ∷ cs) (word (nat_abs z) ∷ vs)) (sym e) (a_word m)

  text_means : (k : Texts) (ts : List FieldType) (a b : ℤ) (cs : List ℤ) (vs : List Value) → lies_in (length bytes) a b ≡ true → Means bytes ts cs vs
      → Means bytes (T k ∷ ts) (a ∷ b ∷ cs) (text (meaning (T k) (text_at bytes a b)) ∷ vs)
  text_means k ts a b cs vs l m =
      subst₂ (λ (x y : ℤ). Means bytes (T k ∷ ts) (x ∷ y ∷ cs) (text (meaning (T k) (text_at bytes a b)) ∷ vs)) (sym (start_plain bytes a b l)) (sym (length_plain bytes a b l))
      (a_text (inside bytes a b l) m)

  date_means : (ts : List FieldType) (a b : ℤ) (cs : List ℤ) (vs : List Value) → lies_in (length bytes) a b ≡ true → Means bytes ts cs vs
      → Means bytes (D ∷ ts) (a ∷ b ∷ cs) (text (text_at bytes a b) ∷ vs)
  date_means ts a b cs vs l m =
      subst₂ (λ (x y : ℤ). Means bytes (D ∷ ts) (x ∷ y ∷ cs) (text (text_at bytes a b) ∷ vs)) (sym (start_plain bytes a b l)) (sym (length_plain bytes a b l))
      (a_date (inside bytes a b l) m)

  module _ (ts : List FieldType) (k : ℕ) (vs : List Value) where
    abbrev first : ℤ
    first = column_at row k

    abbrev second : ℤ
    second = column_at row (k + 1)

    text_held : (j : Texts) → k + 1 < width → range_fits c (T j) bytes first second ≡ true → Held c bytes row ts (k + 2) vs
        → Held c bytes row (T j ∷ ts) k (text (meaning (T j) (text_at bytes first second)) ∷ vs)
    unfolding range_fits
    text_held j w f r =
        let p = and_left (lies_in (length bytes) first second) _ f in
        two (T j) ts k (text (meaning (T j) (text_at bytes first second))) vs w (and_right (lies_in (length bytes) first second) _ f) (λ cs m. text_means j ts first second cs vs p m) r

    date_held : k + 1 < width → range_fits c D bytes first second ≡ true → Held c bytes row ts (k + 2) vs → Held c bytes row (D ∷ ts) k (text (text_at bytes first second) ∷ vs)
    unfolding range_fits
    date_held w f r =
        let p = and_left (lies_in (length bytes) first second) _ f in
        let g = and_right (lies_in (length bytes) first second) _ f in
        two D ts k (text (text_at bytes first second)) vs w (rw (date_meaning (text_at bytes first second)) at g) (λ cs m. date_means ts first second cs vs p m) r

    one_held : (t : FieldType) → k + width_of t ≤ width → column_fits c t bytes row k ≡ true → Held c bytes row ts (k + width_of t) vs
        → Held c bytes row (t ∷ ts) k (value_in t bytes first second ∷ vs)
    unfolding fits integer_fits word_fits
    one_held (T j) w f r = text_held j (omega arith) f r
    one_held D w f r = date_held (omega arith) f r
    one_held I w f r = one I ts k (number first) vs (omega arith) f (λ cs m. a_number refl m) r
    one_held (N l) w f r = one (N l) ts k (number first) vs (omega arith) f (λ cs m. a_number refl m) r
    one_held (W l) w f r =
        one (W l) ts k (word (nat_abs first)) vs (omega arith) (and_right (not (below first)) _ f)
        (λ cs m. word_means l ts first cs vs (not_below first (and_left (not (below first)) _ f)) m)
        r

  all_held : (ts : List FieldType) (k : ℕ) → k + widths ts ≤ width → fields_fit c bytes row ts k ≡ true → Held c bytes row ts k (values_in bytes row ts k)
  unfolding fields_fit widths fits_all values_in
  all_held [] k w f = record { columns = []; left = length (drop k row); is = zeros (drop k row) f; means = none; fit = refl }
  all_held (t ∷ ts) k w f =
      one_held ts k (values_in bytes row ts (k + width_of t)) t (omega arith) (and_left (column_fits c t bytes row k) _ f)
      (all_held ts (k + width_of t) (omega arith) (and_right (column_fits c t bytes row k) (fields_fit c bytes row ts (k + width_of t)) f))

  -- by the layout of its kind
  well_formed_lem : (k : ℕ) (vs : List Value) → is_kind c.rules k ≡ true → fits_all c (types_of c.rules k) vs ≡ true → WellFormed c (record { kind = k; values = vs })
  unfolding is_kind types_of well_formed
  well_formed_lem k vs = go (layout_of c.rules k)
    where
      go : (o : Option Layout) → known_by o ≡ true → fits_all c (types_by o) vs ≡ true → fits_by c o vs ≡ true
      go none h f = absurd (false≢true h)
      go (some l) h f = f

  whole_long : (cs : List ℤ) (n : ℕ) → row ≡ pos (kind_in row) ∷ (cs ++ replicate n (pos 0)) → suc (length cs) + n ≡ width
  whole_long cs n e = omega (arith, ap length e, length-append cs (replicate n (pos 0)), length-replicate n (pos 0))

  -- a row that fits holds the values of a well_formed_lem record: the one that is read in it
  pub fits_record : row_fits c bytes row ≡ true
      → Holds bytes (kind_in row) (types_of c.rules (kind_in row)) row (values_in bytes row (types_of c.rules (kind_in row)) 1)
      × WellFormed c (record_in c.rules bytes row)
  unfolding row_fits
  fits_record f =
      let z = kind_column row in
      let p : z ≡ pos (kind_in row) = not_below z (and_left (not (below z)) _ f) in
      let g = and_right (not (below z)) (is_kind c.rules (kind_in row) && fields_fit c bytes row (types_of c.rules (kind_in row)) 1) f in
      let h = all_held (types_of c.rules (kind_in row)) 1 (omega (arith, nine c.rules (kind_in row))) (and_right (is_kind c.rules (kind_in row)) _ g) in
      let e : row ≡ pos (kind_in row) ∷ (h.columns ++ replicate h.left (pos 0)) = cons 0 (omega arith) ∙ ap (λ (l : List ℤ). z ∷ l) h.is ∙ ap (λ (x : ℤ). x ∷ (h.columns ++ replicate h.left (pos 0))) p in (
        record { columns = h.columns; left = h.left; is = e; ten = whole_long h.columns h.left e; means = h.means },
        well_formed_lem (kind_in row) (values_in bytes row (types_of c.rules (kind_in row)) 1) (and_left (is_kind c.rules (kind_in row)) _ g) h.fit,
      )
