-- Laws of a row as it is filled: what an entry is like by its type, and one field more.
use Rattle.std.proofs.Common.{Option as Maybe, Some, None, Result, Ok, Err, OnErr}
use Prim.Native.Nat.{ℕ, zero, suc, ◌+◌, ◌^◌, ◌≤◌, ◌<◌}
use mathlib.Core.Path.{◌≡◌, refl, sym, ap, ◌∙◌, subst}
use mathlib.Core.List.{List, [], ◌∷◌}
use mathlib.Core.Option.{Option, none, some}
use mathlib.Core.Bool.{Bool, true, false, cond}
use native.Mathlib.Omega.{arith}
use mir.Syntax.{w64}
use mir.Val.{Fits, SFits, to_z}
use mir.ValLaws.{to_z-of_z, to_z_pos}
use lib.IntN.{ℤ, pos}
use lib.ListN.{length, take, drop, length-drop, drop_of_length-le}
use Rattle.basics.proofs.Bools.{none_some}
use Rattle.basics.proofs.Integers.{back}
use Rattle.law.specs.Fields.{Field, field}
use Rattle.text_fields.specs.FirstField.{FirstField, field_of}
use Rattle.text_fields.proofs.Bounds.{Bounded, bounded}
use Rattle.number.specs.Numbers.{read_number}
use Rattle.number.specs.Integers.{read_integer}
use Rattle.law.specs.Dates.{is_date}
use Rattle.number.specs.declared.NumberError.{NumberError}
use Rattle.number.specs.declared.NumberError.TheVariants.{NotNumber, TooFine}
use Rattle.number.specs.declared.Integer.{Integer}
use Rattle.law.specs.Values.{Value, number, word, text}
use Rattle.form.specs.Values.{Reply, good, refused}
use Rattle.law.specs.Words.{words_of, same_bytes, folded}
use Rattle.form.specs.Compare.{up, place_of}
use Rattle.law.specs.Fits.{kept, largest, within, meaning, barred}
use Rattle.form.specs.Fits.{beyond}
use Rattle.form.specs.Reading.{of_count, of_integer, of_place, read_field}
use Rattle.law.specs.Layouts.{types_of}
use Rattle.form_layouts.specs.Letters.{width_of, widths, type_at}
use Rattle.form_layouts.proofs.KindLaws.{nine, type_here, widths_here}
use Rattle.law.specs.declared.refusals.Refusal.{Refusal}
use Rattle.law.specs.declared.refusals.Refusal.TheVariants.{WrongWord}
use Rattle.law.specs.declared.Rules.{Rules}
use Rattle.law.specs.declared.Rules.TheVariants.{Idf3}
use Rattle.law.specs.declared.Context.{Context}
use Rattle.law.specs.declared.Words.{Words}
use Rattle.law.specs.declared.Words.TheVariants.{FileTypes, Units, Owners, Faces, Sides, Layers, Plates, Statuses}
use Rattle.law.specs.declared.Limit.{Limit}
use Rattle.law.specs.declared.FieldType.{FieldType}
use Rattle.law.specs.declared.FieldType.TheVariants.{Text as T, Date as D, Integer as I, Number as N, Word as W}
use Rattle.law.specs.Rows.{width}
use Rattle.line_rows.specs.Rows.{entry_of, entry_by, entry_at, filling_at, filling_of, filled_as, stopped_at, refused_alone, put_one, put_entry, put_next, begun, FieldRoom, onward, fill_from, filled, onward_until, fill_until, filled_until}
use Rattle.line_rows.specs.declared.Entry.{Entry}
use Rattle.line_rows.specs.declared.Entry.TheVariants.{Number, Word, Text}
use Rattle.line_rows.specs.declared.Filling.{Filling}
use Rattle.line_rows.specs.declared.Placed.{Placed}
use Rattle.line_rows.specs.declared.Stop.{Stop}

-- the place of a word is below its list's length, which is small
place_below : (ws : List (List ℕ)) (s : List ℕ) (n : ℕ) → place_of ws s ≡ some n → n < length ws
unfolding place_of
place_below [] s n e = absurd (none_some e)
place_below (w ∷ ws) s n e = go (same_bytes w s) (place_of ws s) e (place_below ws s)
  where
    go : (t : Bool) (o : Option ℕ) → cond t (some zero) (up o) ≡ some n → ((m : ℕ) → o ≡ some m → m < length ws) → n < suc (length ws)
    go true o e f = let z : n ≡ 0 = cc in omega arith
    go false none e f = absurd (none_some e)
    go false (some m) e f = let z : n ≡ suc m = cc in omega (arith, f m refl)

words_few : (v : Rules) (l : Words) → length (words_of v l) ≤ 5
unfolding words_of
words_few Idf3 FileTypes = omega arith
words_few Idf3 Units = omega arith
words_few Idf3 Owners = omega arith
words_few Idf3 Faces = omega arith
words_few Idf3 Sides = omega arith
words_few Idf3 Layers = omega arith
words_few Idf3 Plates = omega arith
words_few Idf3 Statuses = omega arith

-- what a field reads as goes with the width of its type
abbrev Wide : FieldType → Reply Value → Type 0
Wide t (good (number z)) = width_of t ≡ 1
Wide t (good (word n)) = (width_of t ≡ 1) × (n < 5)
Wide t (good (text s)) = width_of t ≡ 2
Wide t (refused n) = Unit {0}

wide_by : (t : FieldType) (b : Bool) (x : Reply Value) (n : Refusal) → Wide t x → Wide t (cond b x (refused n))
wide_by t true x n h = h
wide_by t false x n h = tt

wide_unless : (t : FieldType) (b : Bool) (x : Reply Value) (n : Refusal) → Wide t x → Wide t (cond b (refused n) x)
wide_unless t true x n h = tt
wide_unless t false x n h = h

wide_count : (c : Context) (l : Limit) (a : Result ℤ NumberError) → Wide (N l) (of_count c l a)
wide_count c l (Ok z) = wide_by (N l) (within c l z) (good (number z)) (beyond l) refl
wide_count c l (Err NotNumber) = tt
wide_count c l (Err TooFine) = tt

wide_integer : (a : Maybe Integer) → Wide I (of_integer a)
wide_integer (Some z) = refl
wide_integer None = tt

wide_word : (v : Rules) (l : Words) (s : List ℕ) (o : Option ℕ) → place_of (words_of v l) s ≡ o → Wide (W l) (of_place o)
wide_word v l s none e = tt
wide_word v l s (some n) e = (refl, omega (arith, place_below (words_of v l) s n e, words_few v l))

wide : (c : Context) (t : FieldType) (f : Field) → Wide t (read_field c t f)
unfolding read_field
wide c (T k) (field q s) = wide_unless (T k) (barred c k (meaning (T k) s)) (good (text (meaning (T k) s))) WrongWord refl
wide c D (field true s) = tt
wide c D (field false s) = wide_by D (is_date s) (good (text s)) WrongWord refl
wide c I (field true s) = tt
wide c I (field false s) = wide_integer (read_integer s)
wide c (N l) (field true s) = tt
wide c (N l) (field false s) = wide_count c l (read_number (kept c l) (largest l) s)
wide c (W l) (field true s) = tt
wide c (W l) (field false s) = wide_word c.rules l (folded s) (place_of (words_of c.rules l) (folded s)) refl

-- what an entry is like: as many columns as its type has, and within the line
abbrev Shaped : FieldType → List ℕ → Result Entry Refusal → Type 0
Shaped t s (Ok (Number z m)) = (width_of t ≡ 1) × (m ≤ length s)
Shaped t s (Ok (Word n m)) = (width_of t ≡ 1) × (n < 5) × (m ≤ length s)
Shaped t s (Ok (Text a l m)) = (width_of t ≡ 2) × (a + l ≤ length s) × (m ≤ length s)
Shaped t s (Err e) = Unit {0}

shaped_of : (t : FieldType) (s : List ℕ) (a l m : ℕ) (x : Reply Value) → a + l ≤ length s → m ≤ length s → Wide t x → Shaped t s (entry_of a l m x)
shaped_of t s a l m (good (number z)) h k w = (w, k)
shaped_of t s a l m (good (word n)) h k w = (w.0, w.1, k)
shaped_of t s a l m (good (text b)) h k w = (w, h, k)
shaped_of t s a l m (refused n) h k w = tt

shaped : (c : Context) (t : FieldType) (k : ℕ) (s : List ℕ) → k ≤ length s → Shaped t s (entry_at c t k s)
unfolding entry_at
shaped c t k s h = go (field_of (drop k s)) (bounded (drop k s))
  where
    go : (x : FirstField) → Bounded 0 (length (drop k s)) x → Shaped t s (entry_by c t k (drop k s) x)
    go (Ok None) b = tt
    go (Ok (Some f)) b =
        let d = length-drop k s in
        shaped_of t s (k + f.start) f.len (k + f.next) (read_field c t (field f.quoted (take f.len (drop f.start (drop k s))))) (omega (arith, b.within, b.inside)) (omega (arith, b.within)) (wide c t (field f.quoted (take f.len (drop f.start (drop k s)))))
    go (Err e) b = tt

-- one field more in a row w, at its column j: e is the entry that the line has next, from p on
module _ (c : Context) (t : FieldType) (s : List ℕ) (b : ℕ) (w : List ℤ) (j p : ℕ) (r : FieldRoom t s b (filling_at w j p)) (e : Result Entry Refusal) (h : e ≡ entry_at c t p s) where
  like : {x : Result Entry Refusal} → e ≡ x → Shaped t s x
  like {x} k = subst (Shaped t s) (sym h ∙ k) (shaped c t p s r.within)

  module _ (z : ℤ) (m : ℕ) (x : Entry) (i : e ≡ Ok x) (k : x ≡ Number z m) where
    pub number_room : length w ≡ width → j < length w
    number_room l = omega (arith, r.columns, (like (i ∙ ap Ok k)).0)

    pub number_put : SFits w64 z → (g : Filling) → g ≡ put_one (filling_at w j m) (back z) m → Ok g ≡ put_next b (filling_at w j p) (entry_at c t p s)
    number_put f g q = rw (q, to_z-of_z w64 z f, sym h ∙ i ∙ ap Ok k)

  module _ (n m : ℕ) (x : Entry) (i : e ≡ Ok x) (k : x ≡ Word n m) where
    pub word_fits_lem : SFits w64 (pos n)
    word_fits_lem = record { sfits = omega (arith, (like (i ∙ ap Ok k)).1) }

    pub word_room : length w ≡ width → j < length w
    word_room l = omega (arith, r.columns, (like (i ∙ ap Ok k)).0)

    pub word_put : (g : Filling) → g ≡ put_one (filling_at w j m) (to_z w64 n) m → Ok g ≡ put_next b (filling_at w j p) (entry_at c t p s)
    word_put g q = rw (q, to_z_pos w64 n (omega (arith, (like (i ∙ ap Ok k)).1)), sym h ∙ i ∙ ap Ok k)

  module _ (a l m : ℕ) (x : Entry) (i : e ≡ Ok x) (k : x ≡ Text a l m) where
    pub text_fits : Fits w64 (b + a)
    text_fits = omega (arith, r.small, (like (i ∙ ap Ok k)).1)

    pub text_room : length w ≡ width → j + 1 < length w
    text_room f = omega (arith, r.columns, (like (i ∙ ap Ok k)).0)

    pub text_start : b + a < 2 ^ 63
    text_start = omega (arith, r.small, (like (i ∙ ap Ok k)).1)

    pub text_length_lem : l < 2 ^ 63
    text_length_lem = omega (arith, r.small, (like (i ∙ ap Ok k)).1)

    pub text_put : (g : Filling) → g ≡ put_one (put_one (filling_at w j m) (pos (b + a)) m) (pos l) m → Ok g ≡ put_next b (filling_at w j p) (entry_at c t p s)
    text_put g q = rw (q, sym h ∙ i ∙ ap Ok k)

  pub refused_put : (n : Refusal) → e ≡ Err n → Err n ≡ put_next b (filling_at w j p) (entry_at c t p s)
  refused_put n k = rw (sym h ∙ k)

-- an entry put in a row: no more columns than its type has, and a place in the line
record Put (t : FieldType) (s : List ℕ) (f g : Filling) : Type 0 where
  columns : g.column ≤ f.column + width_of t
  within : g.at ≤ length s

put_like : (t : FieldType) (s : List ℕ) (b : ℕ) (f : Filling) (x : Entry) → f.at ≤ length s → Shaped t s (Ok x) → Put t s f (put_entry b f x)
put_like t s b f (Number z m) h w = record { columns = omega (arith, w.0); within = w.1 }
put_like t s b f (Word n m) h w = record { columns = omega (arith, w.0); within = w.2 }
put_like t s b f (Text a l m) h w = record { columns = omega (arith, w.0); within = w.2 }

put_next_like : (t : FieldType) (s : List ℕ) (b : ℕ) (f g : Filling) (x : Result Entry Refusal) → f.at ≤ length s → Shaped t s x → Ok g ≡ put_next b f x → Put t s f g
put_next_like t s b f g (Ok y) h w e = let z : g ≡ put_entry b f y = cc in rw z (put_like t s b f y h w)
put_next_like t s b f g (Err i) h w e = cc

-- the loop over a line's fields, from m on into a row u: i of its n fields are in the row w, the next column is j, and the place p
pub record Fills (c : Context) (k : ℕ) (s : List ℕ) (b m n : ℕ) (u w : List ℤ) (j p i : ℕ) : Type 0 where
  pub count : n ≡ length (types_of c.rules k)
  pub within : i ≤ n
  pub ten : length u ≡ width
  pub same : length w ≡ length u
  pub place : p ≤ length s
  pub small : b + length s < 2 ^ 62
  pub columns : j + widths (drop i (types_of c.rules k)) ≤ width
  pub left : fill_until c b s (drop i (types_of c.rules k)) (filling_at w j p) ≡ fill_until c b s (types_of c.rules k) (filling_at u 1 m)

pub fills_start : (c : Context) (k : ℕ) (s : List ℕ) (b m n : ℕ) (u : List ℤ) → n ≡ length (types_of c.rules k) → length u ≡ width → m ≤ length s → b + length s < 2 ^ 62 → Fills c k s b m n u u 1 m 0
fills_start c k s b m n u e d h l = record {
  count = e;
  within = omega arith;
  ten = d;
  same = refl;
  place = h;
  small = l;
  columns = omega (arith, nine c.rules k);
  left = refl;
}

module _ (c : Context) (k : ℕ) (s : List ℕ) (b m n : ℕ) (u w : List ℤ) (j p i : ℕ) (r : Fills c k s b m n u w j p i) where
  pub fills_over : n ≤ i → Ok (filling_at w j p) ≡ fill_until c b s (types_of c.rules k) (filling_at u 1 m)
  unfolding fill_until
  fills_over h =
      let l : length (types_of c.rules k) ≤ i = omega (arith, r.count) in
      rw (drop_of_length-le (types_of c.rules k) l) at r.left

  pub fills_same : length w ≡ length u
  fills_same = r.same

  pub fills_ten : length w ≡ width
  fills_ten = r.same ∙ r.ten

  module _ (h : i < n) where
    pub fills_type : i < length (types_of c.rules k)
    fills_type = omega (arith, r.count)

    module _ (t : FieldType) (e : t ≡ type_at (types_of c.rules k) i) where
      pub fills_room : FieldRoom t s b (filling_at w j p)
      fills_room = record { columns = rw e (omega (arith, r.columns, widths_here (types_of c.rules k) i fills_type)); within = r.place; small = r.small }

      step : (g : Result Filling Refusal) → g ≡ put_next b (filling_at w j p) (entry_at c t p s) → fill_until c b s (drop i (types_of c.rules k)) (filling_at w j p) ≡ onward_until (filling_at w j p) g (fill_until c b s (drop (i + 1) (types_of c.rules k)))
      unfolding fill_until
      step g d = rw (type_here (types_of c.rules k) i fills_type, d, e)

      module _ (v : List ℤ) (q : Result Placed Refusal) (d : filled_as v q ≡ put_next b (filling_at w j p) (entry_at c t p s)) where
        pub fills_refused : (e : Refusal) → OnErr q (v ≡ w) → q ≡ Err e → Err (stopped_at (filling_at v j p) e) ≡ fill_until c b s (types_of c.rules k) (filling_at u 1 m)
        fills_refused e l o =
            let x : v ≡ w = rw o at l in
            rw x (sym (rw o at (step (filled_as v q) d)) ∙ r.left)

        pub fills_more : (g : Placed) → length v ≡ length w → q ≡ Ok g → Fills c k s b m n u v g.column g.at (i + 1)
        fills_more g l o =
            let x : Put t s (filling_at w j p) (filling_of v g) = put_next_like t s b (filling_at w j p) (filling_of v g) (entry_at c t p s) r.place (shaped c t p s r.place) (sym (ap (filled_as v) o) ∙ d) in
            let y : width_of t ≡ width_of (type_at (types_of c.rules k) i) = ap width_of e in
            record {
              count = r.count;
              within = omega arith;
              ten = r.ten;
              same = l ∙ r.same;
              place = x.within;
              small = r.small;
              columns = omega (arith, x.columns, r.columns, widths_here (types_of c.rules k) i fills_type, y);
              left = sym (rw o at (step (filled_as v q) d)) ∙ r.left;
            }

-- the row that the code begins with
pub fills_begun : (c : Context) (k b : ℕ) (s : List ℕ) (m : ℕ) (x : Result Filling Stop) → k < 2 ^ 63 → x ≡ fill_until c b s (types_of c.rules k) (filling_at (to_z w64 k ∷ pos 0 ∷ pos 0 ∷ pos 0 ∷ pos 0 ∷ pos 0 ∷ pos 0 ∷ pos 0 ∷ pos 0 ∷ pos 0 ∷ []) 1 m)
    → x ≡ filled_until c k b s m
unfolding filled_until
fills_begun c k b s m x h e = e ∙ rw (to_z_pos w64 k h)

-- the refusal of a row that stopped is the one that `filled` gives
alone_onward : (f : Filling) (x : Result Filling Refusal) (g : Filling → Result Filling Stop) (h : Filling → Result Filling Refusal) → ((y : Filling) → refused_alone (g y) ≡ h y) → refused_alone (onward_until f x g) ≡ onward x h
alone_onward f (Ok y) g h e = e y
alone_onward f (Err n) g h e = refl

pub alone_from : (c : Context) (b : ℕ) (s : List ℕ) (ts : List FieldType) (f : Filling) → refused_alone (fill_until c b s ts f) ≡ fill_from c b s ts f
unfolding fill_until fill_from
alone_from c b s [] f = refl
alone_from c b s (t ∷ ts) f = alone_onward f (put_next b f (entry_at c t f.at s)) (fill_until c b s ts) (fill_from c b s ts) (alone_from c b s ts)

pub alone_filled : (c : Context) (k b : ℕ) (s : List ℕ) (m : ℕ) → refused_alone (filled_until c k b s m) ≡ filled c k b s m
unfolding filled_until filled
alone_filled c k b s m = alone_from c b s (types_of c.rules k) (begun k m)
