-- A row's columns mean the values of its line's fields, and a row is refused where and as the values are.
use Rattle.std.proofs.Common.{Option as Maybe, Some, None, Result, Ok, Err}
use Prim.Native.Nat.{ℕ, zero, suc, ◌+◌, ◌-◌, ◌≤◌}
use mathlib.Core.Path.{◌≡◌, refl, sym, ap, ◌∙◌, subst}
use mathlib.Core.List.{List, [], ◌∷◌, ◌++◌, append_assoc}
use mathlib.Core.Option.{Option, none, some}
use mathlib.Core.Bool.{Bool, true, false, cond}
use native.Mathlib.Omega.{arith}
use borrow.Author.Tests.{eq-eqb}
use lib.Dec.{eqb}
use lib.IntN.{ℤ, pos}
use lib.ListN.{length, take, drop, replicate, length-drop, length-append}
use lib.Seq.{drop-drop, set-append_seam}
use Rattle.basics.proofs.Bools.{none_some}
use Rattle.law.specs.Fields.{Field, field}
use Rattle.text_fields.specs.FirstField.{FirstField, field_of}
use Rattle.text_fields.specs.Fields.{fields_by, fields_in, fields_of}
use Rattle.number.specs.Numbers.{read_number}
use Rattle.number.specs.Integers.{read_integer}
use Rattle.law.specs.Dates.{is_date}
use Rattle.number.specs.declared.NumberError.{NumberError}
use Rattle.number.specs.declared.NumberError.TheVariants.{NotNumber, TooFine}
use Rattle.number.specs.declared.Integer.{Integer}
use Rattle.law.specs.Values.{Value, number, word, text}
use Rattle.form.specs.Values.{Reply, good, refused}
use Rattle.law.specs.Words.{words_of, folded}
use Rattle.form.specs.Compare.{place_of}
use Rattle.law.specs.Fits.{kept, largest, within, meaning, barred}
use Rattle.form.specs.Fits.{beyond}
use Rattle.form.specs.Reading.{of_count, of_integer, of_place, read_field, and_then, read_each, read_fields}
use Rattle.law.specs.Layouts.{types_of}
use Rattle.form_layouts.specs.Letters.{width_of, widths}
use Rattle.form_layouts.proofs.KindLaws.{nine}
use Rattle.law.specs.declared.refusals.Refusal.{Refusal}
use Rattle.law.specs.declared.refusals.Refusal.TheVariants.{WrongWord}
use Rattle.law.specs.declared.Context.{Context}
use Rattle.law.specs.declared.Words.{Words}
use Rattle.law.specs.declared.Limit.{Limit}
use Rattle.law.specs.declared.Limit.TheVariants.{Length as L, NotBelow as L0, Above as Lp, Included as A, Rotation as R, Version as Ver}
use Rattle.law.specs.declared.FieldType.{FieldType}
use Rattle.law.specs.declared.FieldType.TheVariants.{Text as T, Date as D, Integer as I, Number as N, Word as W}
use Rattle.line_rows.specs.Rows.{entry_as, entry_of, entry_by, entry_at, put_one, put_entry, put_next, begun, onward, fill_from, filled}
use Rattle.law.specs.Rows.{Means, none as no_columns, a_number, a_word, a_date, a_text}
use Rattle.line_rows.specs.Meaning.{Agrees, Part}
use Rattle.line_rows.specs.declared.Filling.{Filling}
use Rattle.line_rows.proofs.LookLaws.{got_lies, some_before}
use Rattle.line_rows.proofs.MeaningLaws.{part_bytes, part_within}

-- One field

-- the columns of a value that stands from a on, l bytes long
abbrev columns_of : ℕ → ℕ → Value → List ℤ
columns_of a l (number z) = z ∷ []
columns_of a l (word n) = pos n ∷ []
columns_of a l (text s) = pos a ∷ pos l ∷ []

-- a value's columns are as many as its type has, and go in front of others
record Fore (file : List ℕ) (t : FieldType) (a l : ℕ) (v : Value) : Type 0 where
  wide : length (columns_of a l v) ≡ width_of t
  means : {ts : List FieldType} {cs : List ℤ} {vs : List Value} → Means file ts cs vs → Means file (t ∷ ts) (columns_of a l v ++ cs) (v ∷ vs)

abbrev Fores : List ℕ → FieldType → ℕ → ℕ → Reply Value → Type 0
Fores file t a l (good v) = Fore file t a l v
Fores file t a l (refused e) = Unit {0}

module _ (file : List ℕ) (a l : ℕ) (inside : a + l ≤ length file) where
  fores_by : (t : FieldType) (b : Bool) (v : Value) (e : Refusal) → Fore file t a l v → Fores file t a l (cond b (good v) (refused e))
  fores_by t true v e x = x
  fores_by t false v e x = tt

  fores_unless : (t : FieldType) (b : Bool) (v : Value) (e : Refusal) → Fore file t a l v → Fores file t a l (cond b (refused e) (good v))
  fores_unless t true v e x = tt
  fores_unless t false v e x = x

  fores_count : (c : Context) (m : Limit) (x : Result ℤ NumberError) → Fores file (N m) a l (of_count c m x)
  fores_count c m (Ok z) = fores_by (N m) (within c m z) (number z) (beyond m) (record { wide = refl; means = λ r. a_number refl r })
  fores_count c m (Err NotNumber) = tt
  fores_count c m (Err TooFine) = tt

  fores_integer : (x : Maybe Integer) → Fores file I a l (of_integer x)
  fores_integer (Some z) = record { wide = refl; means = λ r. a_number refl r }
  fores_integer None = tt

  fores_word : (ws : Words) (o : Option ℕ) → Fores file (W ws) a l (of_place o)
  fores_word ws none = tt
  fores_word ws (some n) = record { wide = refl; means = λ r. a_word r }

  -- what a field reads as, where its bytes stand in the file
  fores : (c : Context) (t : FieldType) (q : Bool) → Fores file t a l (read_field c t (field q (take l (drop a file))))
  unfolding read_field
  fores c (T k) q = fores_unless (T k) (barred c k (meaning (T k) (take l (drop a file)))) (text (meaning (T k) (take l (drop a file)))) WrongWord (record { wide = refl; means = λ r. a_text inside r })
  fores c D true = tt
  fores c D false = fores_by D (is_date (take l (drop a file))) (text (take l (drop a file))) WrongWord (record { wide = refl; means = λ r. a_date inside r })
  fores c I true = tt
  fores c I false = fores_integer (read_integer (take l (drop a file)))
  fores c (N m) true = tt
  fores c (N m) false = fores_count c m (read_number (kept c m) (largest m) (take l (drop a file)))
  fores c (W ws) true = tt
  fores c (W ws) false = fores_word ws (place_of (words_of c.rules ws) (folded (take l (drop a file))))

-- A row as it is filled

-- these columns are in the row, n more have room, the place in the line is m
pub record Stands (cs : List ℤ) (n m : ℕ) (f : Filling) : Type 0 where
  pub row : f.row ≡ cs ++ replicate n (pos 0)
  pub column : f.column ≡ length cs
  pub place : f.at ≡ m

pub stands_one : (cs : List ℤ) (n m : ℕ) (f : Filling) (z : ℤ) (j : ℕ) → Stands cs (suc n) m f → Stands (cs ++ (z ∷ [])) n j (put_one f z j)
stands_one cs n m f z j x = record {
  row = rw (x.row, x.column) (set-append_seam cs (pos 0) (replicate n (pos 0)) z ∙ sym (append_assoc cs (z ∷ []) (replicate n (pos 0))));
  column = omega (arith, x.column, length-append cs (z ∷ []));
  place = refl;
}

stands_more : (b : ℕ) (cs : List ℤ) (n k m : ℕ) (f : Filling) (a l j : ℕ) (v : Value) → Stands cs k m f → length (columns_of (b + a) l v) + n ≡ k → Stands (cs ++ columns_of (b + a) l v) n j (put_entry b f (entry_as a l j v))
stands_more b cs n k m f a l j (number z) x e =
    let h : suc n ≡ k = omega arith in
    stands_one cs n m f z j (rw h x)
stands_more b cs n k m f a l j (word w) x e =
    let h : suc n ≡ k = omega arith in
    stands_one cs n m f (pos w) j (rw h x)
stands_more b cs n k m f a l j (text s) x e =
    let h : suc (suc n) ≡ k = omega arith in
    let y = stands_one cs (suc n) m f (pos (b + a)) j (rw h x) in
    rw (sym (append_assoc cs (pos (b + a) ∷ []) (pos l ∷ []))) (stands_one (cs ++ (pos (b + a) ∷ [])) n j (put_one f (pos (b + a)) j) (pos l) j y)

-- The fields one by one

-- the columns of the fields that were left, behind those that were there
record Behind (file : List ℕ) (cs : List ℤ) (n : ℕ) (ts : List FieldType) (f : Filling) (vs : List Value) : Type 0 where
  more : List ℤ
  left : ℕ
  row : f.row ≡ cs ++ (more ++ replicate left (pos 0))
  room : length more + left ≡ n
  column : f.column ≡ length cs + length more
  means : Means file ts more vs

abbrev Ends : List ℕ → List ℤ → ℕ → List FieldType → Result Filling Refusal → Reply (List Value) → Type 0
Ends file cs n ts x (good vs) = (f : Filling) × (x ≡ Ok f) × Behind file cs n ts f vs
Ends file cs n ts x (refused e) = x ≡ Err e

module _ (c : Context) (file : List ℕ) (b : ℕ) (s : List ℕ) (p : Part file b s) where
  ends_more : (t : FieldType) (ts : List FieldType) (cs : List ℤ) (n k a l : ℕ) (v : Value) (g : Result Filling Refusal) (y : Reply (List Value)) → Fore file t a l v → length (columns_of a l v) + n ≡ k → Ends file (cs ++ columns_of a l v) n ts g y → Ends file cs k (t ∷ ts) g (and_then (good v) y)
  ends_more t ts cs n k a l v g (refused i) x e r = r
  ends_more t ts cs n k a l v g (good vs) x e (f, i, r) = (
    f,
    i,
    record {
      more = columns_of a l v ++ r.more;
      left = r.left;
      row = r.row ∙ rw (append_assoc cs (columns_of a l v) (r.more ++ replicate r.left (pos 0)), append_assoc (columns_of a l v) r.more (replicate r.left (pos 0)));
      room = omega (arith, e, r.room, length-append (columns_of a l v) r.more);
      column = omega (arith, r.column, length-append (columns_of a l v) r.more, length-append cs (columns_of a l v));
      means = x.means r.means;
    },
  )

  -- one field, given what it reads as and what is true of those after it
  one_more : (t : FieldType) (ts : List FieldType) (cs : List ℤ) (k m : ℕ) (f : Filling) (a l j : ℕ) (x : Reply Value) (y : Reply (List Value))
      → Stands cs k m f → width_of t + widths ts ≤ k → Fores file t (b + a) l x
      → ((ds : List ℤ) (n : ℕ) (g : Filling) → Stands ds n j g → widths ts ≤ n → Ends file ds n ts (fill_from c b s ts g) y)
      → Ends file cs k (t ∷ ts) (onward (put_next b f (entry_of a l j x)) (fill_from c b s ts)) (and_then x y)
  one_more t ts cs k m f a l j (refused i) y st w h ih = refl
  one_more t ts cs k m f a l j (good v) y st w h ih =
      let n = k - width_of t in
      let e : length (columns_of (b + a) l v) + n ≡ k = omega (arith, h.wide, w) in
      let z = stands_more b cs n k m f a l j v st e in
      ends_more t ts cs n k (b + a) l v _ y h e (ih (cs ++ columns_of (b + a) l v) n (put_entry b f (entry_as a l j v)) z (omega (arith, w)))

  ends_each : (fuel : ℕ) (ts : List FieldType) (cs : List ℤ) (n m : ℕ) (f : Filling) (fs : List Field) → Stands cs n m f → m ≤ length s → widths ts ≤ n → fields_in fuel (drop m s) ≡ some fs → length fs ≡ length ts → Ends file cs n ts (fill_from c b s ts f) (read_each c ts fs)
  unfolding fields_in fill_from read_each entry_at widths
  ends_each zero ts cs n m f fs st h w e i = absurd (none_some e)
  ends_each (suc fuel) [] cs n m f [] st h w e i = (f, refl, record { more = []; left = n; row = st.row; room = omega arith; column = omega (arith, st.column); means = no_columns })
  ends_each (suc fuel) [] cs n m f (g ∷ fs) st h w e i = absurd (omega arith)
  ends_each (suc fuel) (t ∷ ts) cs n m f fs st h w e i = subst (λ (u : ℕ). Ends file cs n (t ∷ ts) (onward (put_next b f (entry_at c t u s)) (fill_from c b s ts)) (read_each c (t ∷ ts) fs)) (sym st.place) (go (field_of (drop m s)) refl e (λ ds k j g gs. ends_each fuel ts ds k j g gs))
    where
      go : (x : FirstField) → field_of (drop m s) ≡ x → fields_by x (drop m s) (λ j. fields_in fuel (drop j (drop m s))) ≡ some fs
          → ((ds : List ℤ) (k j : ℕ) (g : Filling) (gs : List Field) → Stands ds k j g → j ≤ length s → widths ts ≤ k → fields_in fuel (drop j s) ≡ some gs → length gs ≡ length ts → Ends file ds k ts (fill_from c b s ts g) (read_each c ts gs))
          → Ends file cs n (t ∷ ts) (onward (put_next b f (entry_by c t m (drop m s) x)) (fill_from c b s ts)) (read_each c (t ∷ ts) fs)
      go (Ok None) y e ih = let z : fs ≡ [] = cc in absurd (omega (arith, i, ap length z))
      go (Ok (Some fd)) y e ih =
          let d = length-drop m s in
          let r = got_lies (drop m s) fd y in
          let g = some_before (field fd.quoted (take fd.len (drop fd.start (drop m s)))) (fields_in fuel (drop fd.next (drop m s))) fs e in
          let u : length g.0 ≡ length ts = omega (arith, i, ap length g.2) in
          let lies : m + fd.start + fd.len ≤ length s = omega (arith, r.within, r.inside) in
          let o : take fd.len (drop (b + (m + fd.start)) file) ≡ take fd.len (drop fd.start (drop m s)) = rw (drop-drop fd.start m s) (part_bytes p (m + fd.start) fd.len lies) in
          let x : Fores file t (b + (m + fd.start)) fd.len (read_field c t (field fd.quoted (take fd.len (drop fd.start (drop m s))))) = rw (sym o) (fores file (b + (m + fd.start)) fd.len (part_within p (m + fd.start) fd.len lies) c t fd.quoted) in
          let v : fields_in fuel (drop (m + fd.next) s) ≡ some g.0 = rw (sym (drop-drop fd.next m s)) g.1 in
          rw g.2 (one_more t ts cs n m f (m + fd.start) fd.len (m + fd.next) (read_field c t (field fd.quoted (take fd.len (drop fd.start (drop m s))))) (read_each c ts g.0) st w x (λ ds k h z w. ih ds k (m + fd.next) h g.0 z (omega (arith, r.within)) w v u))
      go (Err b) y e ih = absurd (none_some e)

  -- The whole row

  whole : (k : ℕ) (ts : List FieldType) (x : Result Filling Refusal) (y : Reply (List Value)) → Ends file (pos k ∷ []) 9 ts x y → Agrees file k ts x y
  whole k ts x (refused e) r = r
  whole k ts x (good vs) (f, i, r) = (
    f,
    i,
    record {
      holds = record { columns = r.more; left = r.left; is = r.row; ten = omega (arith, r.room); means = r.means };
      column = omega (arith, r.column);
    },
  )

  -- the line from m on has as many fields as its kind: its row holds their values, or is refused as they are
  pub row_means : (k m : ℕ) (fs : List Field) → m ≤ length s → fields_of (drop m s) ≡ some fs → length fs ≡ length (types_of c.rules k) → Agrees file k (types_of c.rules k) (filled c k b s m) (read_fields c (types_of c.rules k) fs)
  unfolding fields_of read_fields filled
  row_means k m fs h e i = rw (eq-eqb (length fs) (length (types_of c.rules k)) i) (whole k (types_of c.rules k) (filled c k b s m) (read_each c (types_of c.rules k) fs) (ends_each (suc (length (drop m s))) (types_of c.rules k) (pos k ∷ []) 9 m (begun k m) fs (record { row = refl; column = refl; place = refl }) h (nine c.rules k) e i))
