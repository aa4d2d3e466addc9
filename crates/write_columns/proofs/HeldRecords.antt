-- A row that holds the values of a record fits exactly if the record is well formed, and that record is read in it.
use Prim.Native.Nat.{ℕ, zero, suc, ◌+◌, ◌-◌, ◌≤◌}
use mathlib.Core.Path.{◌≡◌, refl, sym, ap, ◌∙◌}
use mathlib.Core.List.{List, [], ◌∷◌, ◌++◌}
use mathlib.Core.Option.{Option, none, some}
use mathlib.Core.Bool.{true, ◌&&◌, false≢true}
use native.Mathlib.Omega.{arith}
use borrow.Author.Tests.{le-leb}
use lib.IntN.{ℤ, pos}
use lib.ListN.{length, get_or, take, drop, replicate}
use lib.Seq.{drop-drop, get_or-drop}
use Rattle.rows.specs.Columns.{column_at}
use Rattle.basics.specs.Integers.{eq_z}
use Rattle.law.specs.Values.{Value, number, word, text, Rec}
use Rattle.law.specs.Layouts.{Layout, layout_of, types_by, types_of}
use Rattle.form_layouts.specs.Letters.{width_of, known_by, is_kind}
use Rattle.law.specs.Fits.{meaning, fits, fits_all, fits_by, well_formed, WellFormed}
use Rattle.law.specs.declared.Context.{Context}
use Rattle.law.specs.declared.Words.{Words}
use Rattle.law.specs.declared.FieldType.{FieldType}
use Rattle.basics.proofs.Meanings.{date_meaning}
use Rattle.law.specs.declared.FieldType.TheVariants.{Text as T, Date as D, Integer as I, Number as N, Word as W}
use Rattle.law.specs.Rows.{is_number, Means, none, a_number, a_word, a_date, a_text, Holds}
use Rattle.write_columns.specs.Columns.{lies_in, range_fits, integer_fits, word_fits, field_fits, all_zero, fields_fit, row_fits}
use Rattle.write_columns.specs.Records.{value_in, values_in, record_in}

zeros_zero : (n : ℕ) → all_zero (replicate n (pos 0)) ≡ true
unfolding all_zero eq_z
zeros_zero zero = refl
zeros_zero (suc n) = zeros_zero n

lies : (n a l : ℕ) → a + l ≤ n → lies_in n (pos a) (pos l) ≡ true
unfolding lies_in
lies n a l h = rw (le-leb l n (omega arith), le-leb a (n - l) (omega arith))

-- columns that stand in a row from k on
module _ (row : List ℤ) (k : ℕ) (z : ℤ) (zs : List ℤ) (e : drop k row ≡ z ∷ zs) where
  column_here : column_at row k ≡ z
  column_here =
      let n : k + 0 ≡ k = omega arith in
      ap (λ (i : ℕ). column_at row i) (sym n) ∙ sym (get_or-drop k row 0 (pos 0)) ∙ ap (λ (l : List ℤ). get_or l 0 (pos 0)) e

  column_behind : drop (k + 1) row ≡ zs
  column_behind = sym (drop-drop 1 k row) ∙ ap (drop 1) e

-- columns that mean a value fit exactly if it does, and it is read in them
record Told (c : Context) (bytes : List ℕ) (t : FieldType) (a b : ℤ) (v : Value) : Type 0 where
  fit : field_fits c t bytes a b ≡ fits c t v
  value : value_in t bytes a b ≡ v

module _ (c : Context) (bytes : List ℕ) where
  number_told : (t : FieldType) (z b : ℤ) → is_number t ≡ true → (width_of t ≡ 1) × Told c bytes t z b (number z)
  unfolding fits integer_fits
  number_told (T k) z b h = absurd (false≢true h)
  number_told D z b h = absurd (false≢true h)
  number_told I z b h = (refl, record { fit = refl; value = refl })
  number_told (N l) z b h = (refl, record { fit = refl; value = refl })
  number_told (W l) z b h = absurd (false≢true h)

  word_told : (l : Words) (n : ℕ) (b : ℤ) → Told c bytes (W l) (pos n) b (word n)
  unfolding fits word_fits
  word_told l n b = record { fit = refl; value = refl }

  range_told : (t : FieldType) (a l : ℕ) → a + l ≤ length bytes → range_fits c t bytes (pos a) (pos l) ≡ fits c t (text (meaning t (take l (drop a bytes))))
  unfolding range_fits
  range_told t a l h = rw (lies (length bytes) a l h)

  -- the same of values from column k on
  module _ (row : List ℤ) where
    record AllTold (ts : List FieldType) (k : ℕ) (vs : List Value) : Type 0 where
      fit : fields_fit c bytes row ts k ≡ fits_all c ts vs
      values : values_in bytes row ts k ≡ vs

    no_more : (k n : ℕ) → drop k row ≡ replicate n (pos 0) → AllTold [] k []
    unfolding fields_fit values_in fits_all
    no_more k n e = record { fit = rw e (zeros_zero n); values = refl }

    one_more : (t : FieldType) (ts : List FieldType) (k w : ℕ) (v : Value) (vs : List Value) → width_of t ≡ w → Told c bytes t (column_at row k) (column_at row (k + 1)) v
        → AllTold ts (k + w) vs → AllTold (t ∷ ts) k (v ∷ vs)
    unfolding fields_fit values_in fits_all
    one_more t ts k w v vs e x r = record { fit = rw (x.fit, e, r.fit); values = rw (x.value, e, r.values) }

    two_on : (k : ℕ) (z : ℤ) (zs : List ℤ) → drop (k + 1) row ≡ z ∷ zs → drop (k + 2) row ≡ zs
    two_on k z zs e =
        let n : k + 1 + 1 ≡ k + 2 = omega arith in
        ap (λ (i : ℕ). drop i row) (sym n) ∙ column_behind row (k + 1) z zs e

    all_told : {ts : List FieldType} {cs : List ℤ} {vs : List Value} → Means bytes ts cs vs → (k n : ℕ) → drop k row ≡ cs ++ replicate n (pos 0) → AllTold ts k vs
    all_told none k n e = no_more k n e
    all_told (a_number {t = t} {z = z} {ts = ts} {cs = cs} {vs = vs} i m) k n e =
        let zs = cs ++ replicate n (pos 0) in
        let x = number_told t z (column_at row (k + 1)) i in
        one_more t ts k 1 (number z) vs x.0 (rw (column_here row k z zs e) x.1) (all_told m (k + 1) n (column_behind row k z zs e))
    all_told (a_word {l = l} {n = j} {ts = ts} {cs = cs} {vs = vs} m) k n e =
        let zs = cs ++ replicate n (pos 0) in
        let x = word_told l j (column_at row (k + 1)) in
        one_more (W l) ts k 1 (word j) vs refl (rw (column_here row k (pos j) zs e) x) (all_told m (k + 1) n (column_behind row k (pos j) zs e))
    all_told (a_date {a = a} {l = l} {ts = ts} {cs = cs} {vs = vs} h m) k n e =
        let zs = cs ++ replicate n (pos 0) in
        let v = text (take l (drop a bytes)) in
        let g = column_behind row k (pos a) (pos l ∷ zs) e in
        let x : Told c bytes D (pos a) (pos l) v = record { fit = range_told D a l h ∙ rw (date_meaning (take l (drop a bytes))); value = refl } in
        one_more D ts k 2 v vs refl (rw (column_here row k (pos a) (pos l ∷ zs) e, column_here row (k + 1) (pos l) zs g) x) (all_told m (k + 2) n (two_on k (pos l) zs g))
    all_told (a_text {k = j} {a = a} {l = l} {ts = ts} {cs = cs} {vs = vs} h m) k n e =
        let zs = cs ++ replicate n (pos 0) in
        let v = text (meaning (T j) (take l (drop a bytes))) in
        let g = column_behind row k (pos a) (pos l ∷ zs) e in
        let x : Told c bytes (T j) (pos a) (pos l) v = record { fit = range_told (T j) a l h; value = refl } in
        one_more (T j) ts k 2 v vs refl (rw (column_here row k (pos a) (pos l ∷ zs) e, column_here row (k + 1) (pos l) zs g) x) (all_told m (k + 2) n (two_on k (pos l) zs g))

  -- by the layout of its kind
  by_kind : (k : ℕ) (vs : List Value) → (is_kind c.rules k && fits_all c (types_of c.rules k) vs) ≡ well_formed c (record { kind = k; values = vs })
  unfolding is_kind types_of well_formed
  by_kind k vs = go (layout_of c.rules k)
    where
      go : (o : Option Layout) → (known_by o && fits_all c (types_by o) vs) ≡ fits_by c o vs
      go none = refl
      go (some l) = refl

  begun_told : (k : ℕ) (vs : List Value) (cs : List ℤ) (n : ℕ) → Means bytes (types_of c.rules k) cs vs
      → (row_fits c bytes (pos k ∷ (cs ++ replicate n (pos 0))) ≡ well_formed c (record { kind = k; values = vs }))
      × (record_in c.rules bytes (pos k ∷ (cs ++ replicate n (pos 0))) ≡ record { kind = k; values = vs })
  unfolding row_fits
  begun_told k vs cs n m =
      let r = all_told (pos k ∷ (cs ++ replicate n (pos 0))) m 1 n refl in
      (rw r.fit (by_kind k vs), λ i. record { kind = k; values = r.values i })

  module _ (row : List ℤ) (r : Rec) (h : Holds bytes r.kind (types_of c.rules r.kind) row r.values) where
    both_told : (row_fits c bytes row ≡ well_formed c r) × (record_in c.rules bytes row ≡ r)
    both_told = rw h.is (begun_told r.kind r.values h.columns h.left h.means)

    -- a row that holds the values of a record fits exactly if the record is well formed
    pub held_fits : row_fits c bytes row ≡ well_formed c r
    held_fits = both_told.0

    -- and that record is read in it
    pub held_is : record_in c.rules bytes row ≡ r
    held_is = both_told.1

    pub record_fits : WellFormed c r → (row_fits c bytes row ≡ true) × (record_in c.rules bytes row ≡ r)
    record_fits w = (held_fits ∙ w, held_is)
