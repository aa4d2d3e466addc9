-- Laws of columns, as the code leaves them.
use Prim.Native.Nat.{ℕ, suc, ◌+◌, ◌-◌, ◌^◌, ◌≤◌, ◌<◌}
use mathlib.Core.Path.{◌≡◌, refl, sym, ap, ◌∙◌}
use mathlib.Core.List.{List, [], ◌∷◌}
use mathlib.Core.Bool.{Bool, true, false, not, ◌&&◌, ◌||◌}
use native.Mathlib.Numerals.{add-one}
use native.Mathlib.Omega.{arith}
use mir.Syntax.{w64}
use mir.Val.{Fits, SFits}
use mir.ValLaws.{to_z-of_z}
use borrow.Author.Tests.{not-true, not-false, lt-leb, le-leb, leb-true, ne_eqb}
use lib.Dec.{leb, eqb}
use lib.IntN.{ℤ, pos, nat_abs}
use lib.ListN.{length, take, drop, drop_of_length-le}
use lib.Seq.{drop-cons}
use Rattle.rows.specs.Columns.{column_at}
use Rattle.basics.proofs.Meanings.{date_meaning, meaning_good}
use Rattle.basics.specs.Integers.{eq_z}
use Rattle.basics.proofs.Integers.{back, eq_z_same, eq_z_differ}
use Rattle.number_print.proofs.PrintLaws.{below_zero}
use Rattle.std.specs.List.{list_all}
use lib.Signed.{lt_z}
use Rattle.basics.proofs.Bools.{and_left, and_right}
use Rattle.law.specs.Bytes.{all_of, permitted}
use Rattle.law.specs.Limits.{largest_integer, below}
use Rattle.law.specs.Dates.{is_date}
use Rattle.law.specs.Values.{number, text}
use Rattle.law.specs.Words.{words_of, word_at}
use Rattle.form_words.specs.Padded.{trimmed, word_row}
use Rattle.law.specs.Fits.{text_byte, barred, is_empty, meaning, fits}
use Rattle.law.specs.declared.Rules.{Rules}
use Rattle.law.specs.declared.Context.{Context}
use Rattle.law.specs.declared.Words.{Words}
use Rattle.law.specs.declared.Limit.{Limit}
use Rattle.law.specs.declared.Texts.{Texts}
use Rattle.law.specs.declared.FieldType.{FieldType}
use Rattle.law.specs.declared.FieldType.TheVariants.{Text as T, Date as D, Integer as I, Number as N, Word as W}
use Rattle.form_words.proofs.RowLaws.{word_held}
use Rattle.write_columns.specs.Columns.{lies_in, range_fits, integer_fits, word_fits, field_fits, column_fits, all_zero}

-- a byte of a text
pub text_byte_lem : (b : ℕ) (x : Bool) → x ≡ permitted b → (x && not (eqb b 34)) ≡ text_byte b
text_byte_lem b x e = rw e

-- a range
module _ (n : ℕ) (a l : ℤ) (fa : SFits w64 a) (fl : SFits w64 l) where
  signs : (lt_z (back a) (pos 0) || lt_z (back l) (pos 0)) ≡ (below a || below l)
  signs = rw (below_zero a fa, below_zero l fl)

  pub lies_below : (lt_z (back a) (pos 0) || lt_z (back l) (pos 0)) ≡ true → false ≡ lies_in n a l
  unfolding lies_in
  lies_below h = rw (sym signs ∙ h)

  module _ (h : (lt_z (back a) (pos 0) || lt_z (back l) (pos 0)) ≡ false) (m : ℕ) (i : m ≡ nat_abs (back l)) where
    long : m ≡ nat_abs l
    long = i ∙ ap nat_abs (to_z-of_z w64 l fl)

    pub lies_long : n < m → false ≡ lies_in n a l
    unfolding lies_in
    lies_long k = rw (sym signs ∙ h, sym long, lt-leb m n k)

    pub lies_by : (p : ℕ) → m ≤ n → p ≡ nat_abs (back a) → leb p (n - m) ≡ lies_in n a l
    unfolding lies_in
    lies_by p k j = rw (sym signs ∙ h, sym long, le-leb m n k, j, to_z-of_z w64 a fa)

-- an integer, by its constructor's answer
pub integer_held : (z : ℤ) (x : Bool) → x ≡ leb (nat_abs z) largest_integer → x ≡ integer_fits z
unfolding integer_fits
integer_held z x e = e

-- a word
empty_length : (s : List ℕ) → not (is_empty s) ≡ not (eqb (length s) 0)
unfolding is_empty
empty_length [] = refl
empty_length (b ∷ s) = rw (ne_eqb (suc (length s)) 0 (λ h. omega arith))

module _ (v : Rules) (l : Words) (z : ℤ) (f : SFits w64 z) where
  pub word_below : lt_z (back z) (pos 0) ≡ true → false ≡ word_fits v l z
  unfolding word_fits
  word_below h = rw (sym (below_zero z f) ∙ h)

  pub word_by : (m : ℕ) (row : List ℕ) (n : ℕ) → lt_z (back z) (pos 0) ≡ false → m ≡ nat_abs (back z) → row ≡ word_row v l m → n ≡ length (trimmed row) → not (eqb n 0) ≡ word_fits v l z
  unfolding word_fits
  word_by m row n h i j k =
      let a : below z ≡ false = sym (below_zero z f) ∙ h in
      let b : m ≡ nat_abs z = i ∙ ap nat_abs (to_z-of_z w64 z f) in
      let d : n ≡ length (word_at (words_of v l) (nat_abs z)) = k ∙ ap (λ (r : List ℕ). length (trimmed r)) j ∙ ap length (word_held v l m) ∙ ap (λ (i : ℕ). length (word_at (words_of v l) i)) b in
      rw (a, d) (sym (empty_length (word_at (words_of v l) (nat_abs z))))

-- past the last column
-- bytes at a field
module _ (c : Context) (t : FieldType) (s : List ℕ) where
  pub holds_text : (k : Texts) (x y : Bool) → t ≡ T k → x ≡ all_of text_byte s → y ≡ barred c k (meaning (T k) s) → (not y && x) ≡ fits c t (text (meaning t s))
  unfolding fits
  holds_text k x y h e f = rw (h, e, f, meaning_good (T k) s)

  pub holds_date : (x : Bool) → t ≡ D → x ≡ is_date s → x ≡ fits c t (text (meaning t s))
  unfolding fits
  holds_date x h e = rw (h, date_meaning s) e

  pub holds_integer : t ≡ I → false ≡ fits c t (text (meaning t s))
  unfolding fits
  holds_integer h = rw h

  pub holds_number : (l : Limit) → t ≡ N l → false ≡ fits c t (text (meaning t s))
  unfolding fits
  holds_number l h = rw h

  pub holds_word : (l : Words) → t ≡ W l → false ≡ fits c t (text (meaning t s))
  unfolding fits
  holds_word l h = rw h

-- a range that lies in the bytes
pub lies_ends : (n : ℕ) (a l : ℤ) → lies_in n a l ≡ true → nat_abs a + nat_abs l ≤ n
unfolding lies_in
lies_ends n a l h =
    let k = and_right (not (below a || below l)) (leb (nat_abs l) n && leb (nat_abs a) (n - nat_abs l)) h in
    let p = leb-true (nat_abs l) n (and_left (leb (nat_abs l) n) (leb (nat_abs a) (n - nat_abs l)) k) in
    let q = leb-true (nat_abs a) (n - nat_abs l) (and_right (leb (nat_abs l) n) (leb (nat_abs a) (n - nat_abs l)) k) in
    omega arith

module _ (c : Context) (t : FieldType) (bytes : List ℕ) (a l : ℤ) (x : Bool) (fa : SFits w64 a) (fl : SFits w64 l) (e : x ≡ lies_in (length bytes) (back a) (back l)) where
  lies_is : x ≡ lies_in (length bytes) a l
  lies_is = e ∙ rw (to_z-of_z w64 a fa, to_z-of_z w64 l fl)

  pub range_not : not x ≡ true → false ≡ range_fits c t bytes a l
  unfolding range_fits
  range_not h = rw (sym lies_is ∙ not-true x h)

  module _ (h : not x ≡ false) (p n : ℕ) (i : p ≡ nat_abs (back a)) (j : n ≡ nat_abs (back l)) where
    first_is : p ≡ nat_abs a
    first_is = i ∙ ap nat_abs (to_z-of_z w64 a fa)

    long_is : n ≡ nat_abs l
    long_is = j ∙ ap nat_abs (to_z-of_z w64 l fl)

    pub range_end : p + n ≤ length bytes
    range_end = omega (arith, lies_ends (length bytes) a l (sym lies_is ∙ not-false x h), first_is, long_is)

    pub range_start : p ≤ length bytes
    range_start = omega (arith, range_end)

    pub range_end_fits : length bytes < 2 ^ 64 → Fits w64 (p + n)
    range_end_fits k = omega (arith, range_end)

    pub range_by : (y : Bool) → y ≡ fits c t (text (meaning t (take (p + n - p) (drop p bytes)))) → y ≡ range_fits c t bytes a l
    unfolding range_fits
    range_by y k = let z : p + n - p ≡ nat_abs l = omega (arith, long_is) in rw (sym lies_is ∙ not-false x h) (rw (z, first_is) at k)

-- columns that are 0
column_cons : (row : List ℤ) (i : ℕ) → i < length row → drop i row ≡ column_at row i ∷ drop (i + 1) row
column_cons row i h = rw (add-one, drop-cons row i (pos 0))

module _ (row : List ℤ) (i : ℕ) {g : Bool} (inv : all_zero (drop i row) ≡ g) where
  pub zero_over : length row ≤ i → true ≡ g
  unfolding all_zero
  zero_over h = let z : all_zero (drop i row) ≡ true = rw (drop_of_length-le row h) in sym z ∙ inv

  module _ (h : i < length row) where
    zero_first : all_zero (drop i row) ≡ (eq_z (column_at row i) (pos 0) && all_zero (drop (i + 1) row))
    unfolding all_zero
    zero_first = rw (column_cons row i h)

    pub zero_not : (column_at row i ≡ pos 0 → ⊥) → false ≡ g
    zero_not k = let z : all_zero (drop i row) ≡ false = zero_first ∙ rw (eq_z_differ (column_at row i) (pos 0) k) in sym z ∙ inv

    pub zero_more : column_at row i ≡ pos 0 → all_zero (drop (i + 1) row) ≡ g
    zero_more k = let z : all_zero (drop i row) ≡ all_zero (drop (i + 1) row) = zero_first ∙ rw (eq_z_same (column_at row i) (pos 0) k) in sym z ∙ inv

-- bytes of a text
pub all_texts : (s : List ℕ) → list_all text_byte s ≡ all_of text_byte s
unfolding all_of
all_texts [] = refl
all_texts (b ∷ s) = ap (λ (t : Bool). text_byte b && t) (all_texts s)

-- a field by its type
module _ (c : Context) (bytes : List ℕ) (a b : ℤ) (fa : SFits w64 a) (fb : SFits w64 b) where
  range_same : (t : FieldType) (x : Bool) → x ≡ range_fits c t bytes (back a) (back b) → x ≡ range_fits c t bytes a b
  range_same t x e = e ∙ rw (to_z-of_z w64 a fa, to_z-of_z w64 b fb)

  pub field_text : (t : FieldType) (k : Texts) (x : Bool) → t ≡ T k → x ≡ range_fits c t bytes (back a) (back b) → x ≡ field_fits c t bytes a b
  field_text t k x h e = rw h (range_same (T k) x (rw h at e))

  pub field_date : (t : FieldType) (x : Bool) → t ≡ D → x ≡ range_fits c t bytes (back a) (back b) → x ≡ field_fits c t bytes a b
  field_date t x h e = rw h (range_same D x (rw h at e))

  pub field_integer : (t : FieldType) (x : Bool) → t ≡ I → x ≡ integer_fits (back a) → x ≡ field_fits c t bytes a b
  field_integer t x h e = rw h (e ∙ rw (to_z-of_z w64 a fa))

  pub field_number : (t : FieldType) (l : Limit) (x : Bool) → t ≡ N l → x ≡ fits c (N l) (number (back a)) → x ≡ field_fits c t bytes a b
  field_number t l x h e = rw h (e ∙ rw (to_z-of_z w64 a fa))

  pub field_word : (t : FieldType) (l : Words) (x : Bool) → t ≡ W l → x ≡ word_fits c.rules l (back a) → x ≡ field_fits c t bytes a b
  field_word t l x h e = rw h (e ∙ rw (to_z-of_z w64 a fa))

-- what column_at gives is passed on
pub column_by : (c : Context) (t : FieldType) (bytes : List ℕ) (row : List ℤ) (i : ℕ) (y z : ℤ) (x : Bool) → y ≡ column_at row i → z ≡ column_at row (i + 1)
    → SFits w64 y → SFits w64 z → x ≡ field_fits c t bytes (back y) (back z) → x ≡ column_fits c t bytes row i
column_by c t bytes row i y z x e f fy fz h = h ∙ rw (to_z-of_z w64 y fy, to_z-of_z w64 z fz, e, f)
