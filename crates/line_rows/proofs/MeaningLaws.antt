-- Laws of what columns mean, and of parts of a file.
use Prim.Native.Nat.{ℕ, ◌+◌, ◌≤◌}
use mathlib.Core.Path.{◌≡◌, refl, ◌∙◌}
use mathlib.Core.List.{List, ◌++◌}
use mathlib.Core.Bool.{true, false≢true}
use native.Mathlib.Omega.{arith}
use lib.IntN.{ℤ}
use lib.ListN.{length, take, drop, length-append, length-drop, take-append-drop}
use lib.Seq.{drop-append-add, drop-append-le, take-append-le, length-take-le}
use Rattle.law.specs.Values.{Value}
use Rattle.form_layouts.specs.Letters.{width_of, widths}
use Rattle.law.specs.declared.FieldType.{FieldType}
use Rattle.law.specs.declared.FieldType.TheVariants.{Text as T, Date as D, Integer as I, Number as N, Word as W}
use Rattle.law.specs.Rows.{is_number, Means, none, a_number, a_word, a_date, a_text}
use Rattle.line_rows.specs.Meaning.{Part}

-- columns mean one list of values
pub means_one : {file : List ℕ} {ts : List FieldType} {cs : List ℤ} {vs us : List Value} → Means file ts cs vs → Means file ts cs us → vs ≡ us
means_one none none = refl
means_one (a_number h x) (a_number i y) = rw (means_one x y)
means_one (a_number h x) (a_word y) = absurd (false≢true h)
means_one (a_number h x) (a_date j y) = absurd (false≢true h)
means_one (a_number h x) (a_text j y) = absurd (false≢true h)
means_one (a_word x) (a_number i y) = absurd (false≢true i)
means_one (a_word x) (a_word y) = rw (means_one x y)
means_one (a_date g x) (a_number i y) = absurd (false≢true i)
means_one (a_date g x) (a_date j y) = rw (means_one x y)
means_one (a_text g x) (a_number i y) = absurd (false≢true i)
means_one (a_text g x) (a_text j y) = rw (means_one x y)

pub number_wide : (t : FieldType) → is_number t ≡ true → width_of t ≡ 1
number_wide (T k) h = absurd (false≢true h)
number_wide D h = absurd (false≢true h)
number_wide I h = refl
number_wide (N l) h = refl
number_wide (W l) h = refl

-- as many columns as the types have
pub means_wide : {file : List ℕ} {ts : List FieldType} {cs : List ℤ} {vs : List Value} → Means file ts cs vs → length cs ≡ widths ts
unfolding widths
means_wide none = refl
means_wide (a_number {t = t} h x) = omega (arith, number_wide t h, means_wide x)
means_wide (a_word x) = omega (arith, means_wide x)
means_wide (a_date g x) = omega (arith, means_wide x)
means_wide (a_text g x) = omega (arith, means_wide x)

-- Parts of a file

-- what was cut out of a file stands in it
pub part_cut : (file : List ℕ) (k n : ℕ) → k ≤ length file → Part file k (take n (drop k file))
part_cut file k n h = record {
  front = take k file;
  rest = drop n (drop k file);
  is = rw (take-append-drop n (drop k file), take-append-drop k file);
  at = length-take-le k file h;
}

-- bytes of a part are bytes of the file
pub part_bytes : {file : List ℕ} {k : ℕ} {s : List ℕ} → Part file k s → (a l : ℕ) → a + l ≤ length s → take l (drop (k + a) file) ≡ take l (drop a s)
part_bytes {file} {k} {s} p a l h =
    let d : drop (k + a) file ≡ drop a s ++ p.rest = rw (p.is, ← p.at) (drop-append-add p.front (s ++ p.rest) a ∙ drop-append-le a s p.rest (omega arith)) in
    rw d (take-append-le l (drop a s) p.rest (omega (arith, length-drop a s)))

-- which ends no later than the file does
pub part_within : {file : List ℕ} {k : ℕ} {s : List ℕ} → Part file k s → (a l : ℕ) → a + l ≤ length s → k + a + l ≤ length file
part_within {file} {k} {s} p a l h =
    let e : length file ≡ length p.front + (length s + length p.rest) = rw p.is (omega (arith, length-append p.front (s ++ p.rest), length-append s p.rest)) in
    omega (arith, e, p.at)
