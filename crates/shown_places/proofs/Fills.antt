-- The row that is filled from a line holds the starts and lengths of the line's own fields.
use Prim.Native.Nat.{ℕ, zero, suc, ◌+◌, ◌-◌, ◌≤◌}
use mathlib.Core.Path.{◌≡◌, refl, sym, ap, subst, ◌∙◌}
use mathlib.Core.List.{List, [], ◌∷◌, ◌++◌, append_assoc}
use mathlib.Core.Option.{some}
use mathlib.Core.Bool.{Bool}
use native.Mathlib.Omega.{arith}
use lib.IntN.{ℤ, pos}
use lib.ListN.{length, take, drop, replicate, length-drop, length-append}
use lib.Seq.{drop-drop, length-take-le}
use Rattle.std.specs.Prelude.{Result, Ok, Err, Some, None}
use Rattle.law.specs.declared.refusals.Refusal.{Refusal}
use Rattle.law.specs.Fields.{Field, field}
use Rattle.text_fields.specs.FirstField.{FirstField, field_of}
use Rattle.text_fields.specs.Fields.{fields_by, fields_in, fields_of}
use Rattle.law.specs.Values.{Value, number, word, text}
use Rattle.form.specs.Values.{good}
use Rattle.law.specs.Layouts.{types_of}
use Rattle.form.specs.Reading.{read_field, read_fields}
use Rattle.law.specs.declared.Context.{Context}
use Rattle.law.specs.declared.FieldType.{FieldType}
use Rattle.form_layouts.specs.Letters.{width_of, widths}
use Rattle.form_layouts.proofs.KindLaws.{nine}
use Rattle.line_rows.specs.Rows.{entry_as, entry_by, entry_at, put_one, put_entry, put_next, begun, onward, fill_from, filled}
use Rattle.line_rows.specs.declared.Filling.{Filling}
use Rattle.line_rows.proofs.LookLaws.{got_lies, some_before}
use Rattle.line_rows.proofs.RowMeaning.{Stands, stands_one}
use Rattle.basics.proofs.Bools.{none_some}
use Rattle.law.specs.RecordSpelling.{SpellsField, SpellsFields, as_text, as_date, as_integer, as_number, as_word, none as no_fields, more}
use Rattle.shown_spelling.proofs.ValueSpelling.{field_complete, values_sound}
use Rattle.law.specs.FieldPlaces.{Spot}
use Rattle.law.specs.RowPlaces.{columns_of, columns_of_all}
use Rattle.shown_places.proofs.Spots.{spots_by, spots_in}

-- a value has as many columns as its type
value_wide : {c : Context} {t : FieldType} {v : Value} {f : Field} (p : Spot) → SpellsField c t v f → length (columns_of v p) ≡ width_of t
value_wide p (as_text h) = refl
value_wide p (as_date d) = refl
value_wide p (as_integer h) = refl
value_wide p (as_number h i) = refl
value_wide p (as_word h) = refl

-- where a field of l bytes begins at b + a
abbrev spot_at : ℕ → Bool → List ℕ → Spot
spot_at a q u = record { at = a; what = field q u }

stands_more : (b : ℕ) (cs : List ℤ) (n k m : ℕ) (f : Filling) (a l : ℕ) (q : Bool) (u : List ℕ) (j : ℕ) (v : Value) → length u ≡ l → Stands cs k m f → length (columns_of v (spot_at (b + a) q u)) + n ≡ k
    → Stands (cs ++ columns_of v (spot_at (b + a) q u)) n j (put_entry b f (entry_as a l j v))
stands_more b cs n k m f a l q u j (number z) lu x e =
    let h : suc n ≡ k = omega arith in
    stands_one cs n m f z j (rw h x)
stands_more b cs n k m f a l q u j (word w) lu x e =
    let h : suc n ≡ k = omega arith in
    stands_one cs n m f (pos w) j (rw h x)
stands_more b cs n k m f a l q u j (text s) lu x e =
    let h : suc (suc n) ≡ k = omega arith in
    let y = stands_one cs (suc n) m f (pos (b + a)) j (rw h x) in
    rw (lu, sym (append_assoc cs (pos (b + a) ∷ []) (pos l ∷ []))) (stands_one (cs ++ (pos (b + a) ∷ [])) n j (put_one f (pos (b + a)) j) (pos l) j y)

-- the row of what is left
pub record Filled (cs : List ℤ) (n : ℕ) (more : List ℤ) (row : List ℤ) : Type 0 where
  pub left : ℕ
  pub is : row ≡ cs ++ (more ++ replicate left (pos 0))
  pub room : length more + left ≡ n

filled_more : (cs ds es row : List ℤ) (n k : ℕ) → length ds + n ≡ k → Filled (cs ++ ds) n es row → Filled cs k (ds ++ es) row
filled_more cs ds es row n k e r = record {
  left = r.left;
  is = r.is ∙ rw (append_assoc cs ds (es ++ replicate r.left (pos 0)), append_assoc ds es (replicate r.left (pos 0)));
  room = omega (arith, e, r.room, length-append ds es);
}

-- no field was refused, and the row is that
abbrev pub FilledAs : List ℤ → ℕ → List ℤ → Result Filling Refusal → Type 0
FilledAs cs n ds x = (g : Filling) × (x ≡ Ok g) × Filled cs n ds g.row

module _ (c : Context) (b : ℕ) (s : List ℕ) where
  fills : {ts : List FieldType} {vs : List Value} {fs : List Field} → SpellsFields c ts vs fs → (fuel : ℕ) (cs : List ℤ) (n m : ℕ) (f : Filling)
      → Stands cs n m f → widths ts ≤ n → fields_in fuel (drop m s) ≡ some fs → FilledAs cs n (columns_of_all vs (spots_in fuel (b + m) (drop m s))) (fill_from c b s ts f)
  unfolding fields_in fill_from entry_at widths spots_in columns_of_all
  fills no_fields fuel cs n m f st w e = (f, refl, record { left = n; is = st.row; room = omega arith })
  fills (more x xs) zero cs n m f st w e = absurd (none_some e)
  fills (more {t = t} {ts = ts} {v = v} {vs = vs} {f = fl} {fs = fs} x xs) (suc fuel) cs n m f st w e =
      subst (λ (u : ℕ). FilledAs cs n (columns_of_all (v ∷ vs) (spots_in (suc fuel) (b + m) (drop m s))) (onward (put_next b f (entry_at c t u s)) (fill_from c b s ts))) (sym st.place)
      (go (field_of (drop m s)) refl e (fills xs fuel))
    where
      go : (y : FirstField) → field_of (drop m s) ≡ y → fields_by y (drop m s) (λ j. fields_in fuel (drop j (drop m s))) ≡ some (fl ∷ fs)
          → ((ds : List ℤ) (k j : ℕ) (g : Filling) → Stands ds k j g → widths ts ≤ k → fields_in fuel (drop j s) ≡ some fs → FilledAs ds k (columns_of_all vs (spots_in fuel (b + j) (drop j s))) (fill_from c b s ts g))
          → FilledAs cs n (columns_of_all (v ∷ vs) (spots_by y (b + m) (drop m s) (λ j. spots_in fuel (b + m + j) (drop j (drop m s))))) (onward (put_next b f (entry_by c t m (drop m s) y)) (fill_from c b s ts))
      go (Ok None) i h ih = let z : ◌≡◌ {A = ℕ} 0 1 = cc in absurd (omega arith)
      go (Err o) i h ih = absurd (none_some h)
      go (Ok (Some fd)) i h ih =
          let d = length-drop m s in
          let r = got_lies (drop m s) fd i in
          let u : List ℕ = take fd.len (drop fd.start (drop m s)) in
          let g = some_before (field fd.quoted u) (fields_in fuel (drop fd.next (drop m s))) (fl ∷ fs) h in
          let y : fl ≡ field fd.quoted u = let z = g.2 in cc in
          let o : fs ≡ g.0 = let z = g.2 in cc in
          let lu : length u ≡ fd.len = length-take-le fd.len (drop fd.start (drop m s)) (omega (arith, length-drop fd.start (drop m s), r.within, r.inside)) in
          let p : Spot = spot_at (b + (m + fd.start)) fd.quoted u in
          let k = n - width_of t in
          let z : length (columns_of v p) + k ≡ n = omega (arith, value_wide p x, w) in
          let rd : read_field c t (field fd.quoted u) ≡ good v = rw (sym y) (field_complete x) in
          let st' = stands_more b cs k n m f (m + fd.start) fd.len fd.quoted u (m + fd.next) v lu st z in
          let fl' : Filling = put_entry b f (entry_as (m + fd.start) fd.len (m + fd.next) v) in
          let v' : fields_in fuel (drop (m + fd.next) s) ≡ some fs = rw (sym (drop-drop fd.next m s)) (g.1 ∙ ap some (sym o)) in
          let ft = ih (cs ++ columns_of v p) k (m + fd.next) fl' st' (omega (arith, w)) v' in
          let ba : b + m + fd.start ≡ b + (m + fd.start) = omega arith in
          let bj : b + m + fd.next ≡ b + (m + fd.next) = omega arith in
          let res : FilledAs cs n (columns_of v p ++ columns_of_all vs (spots_in fuel (b + (m + fd.next)) (drop (m + fd.next) s))) (fill_from c b s ts fl') = (ft.0, ft.1, filled_more cs (columns_of v p) _ _ k n z ft.2) in
          rw (rd, ba, bj, drop-drop fd.next m s) res

  -- the whole row
  pub row_fills : (k m : ℕ) (fs : List Field) (vs : List Value) → fields_of (drop m s) ≡ some fs → read_fields c (types_of c.rules k) fs ≡ good vs
      → FilledAs (pos k ∷ []) 9 (columns_of_all vs (spots_in (suc (length (drop m s))) (b + m) (drop m s))) (filled c k b s m)
  unfolding fields_of filled
  row_fills k m fs vs e r = fills (values_sound (types_of c.rules k) fs r) (suc (length (drop m s))) (pos k ∷ []) 9 m (begun k m) (record { row = refl; column = refl; place = refl }) (nine c.rules k) e
