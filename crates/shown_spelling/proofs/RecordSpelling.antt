-- A line is read as a record of a kind exactly where the rules spell the record, and what is read is well formed.
use Prim.Native.Nat.{ℕ, ◌≤◌}
use mathlib.Core.Path.{◌≡◌, refl, ap, ◌∙◌}
use mathlib.Core.List.{List, [], ◌∷◌}
use mathlib.Core.Option.{some}
use mathlib.Core.Bool.{true}
use borrow.Author.Tests.{le-leb}
use lib.IntN.{ℤ, nat_abs}
use Rattle.basics.proofs.Lists.{all_complete}
use Rattle.law.specs.Bytes as by
use Rattle.law.specs.Bytes.{permitted, All}
use Rattle.law.specs.Fields.{Field, field, Spells, bare, quoted, Spelled, end, space, last, next}
use Rattle.law.specs.Limits.{largest_integer}
use Rattle.law.specs.Integers.{SpellsInteger, plain, plus, minus}
use Rattle.number.proofs.SignLaws.{abs_signed}
use Rattle.number_read.proofs.NumberSpelling.{number_small}
use Rattle.law.specs.Values.{Value, Rec}
use Rattle.form.specs.Values.{good}
use Rattle.law.specs.Layouts.{Front, Layout, layout_of}
use Rattle.law.specs.Fits.{largest, meaning, text_byte, good_text, fits, fits_all, well_formed, WellFormed}
use Rattle.form.specs.Reading.{read_line}
use Rattle.law.specs.declared.Context.{Context}
use Rattle.law.specs.declared.FieldType.{FieldType}
use Rattle.basics.proofs.Meanings.{meaning_good}
use Rattle.law.specs.declared.FieldType.TheVariants.{Text as T}
use Rattle.law.specs.RecordSpelling.{SpellsField, as_text, as_date, as_integer, as_number, as_word, SpellsFields, none as no_fields, more, SpellsLine, with_keyword, with_prop, as_data, SpellsRecord, as_line}
use Rattle.shown_spelling.proofs.BareBytes.{all_left, all_right, all_zip, bare_text, quoted_text}
use Rattle.shown_spelling.proofs.Tables.{words_stand, listed_some}
use Rattle.shown_spelling.proofs.LineSpelling.{line_sound, line_complete, line_unique}

-- The bytes of a line's fields are those of texts
abbrev pub bytes_of : Field → List ℕ
bytes_of (field q s) = s

data Clean : List Field → Type 0 where
  no : Clean []
  also : {f : Field} {fs : List Field} → All text_byte (bytes_of f) → Clean fs → Clean (f ∷ fs)

clean_tail : {f : Field} {fs : List Field} → Clean (f ∷ fs) → Clean fs
clean_tail (also a q) = q

field_clean : {f : Field} {s : List ℕ} → Spells f s → All permitted s → All text_byte (bytes_of f)
field_clean (bare a) p = all_zip bare_text a p
field_clean (quoted {s} a) (by.one h p) = all_zip quoted_text a (all_left s (34 ∷ []) p)

line_clean : {fs : List Field} {s : List ℕ} → Spelled fs s → All permitted s → Clean fs
line_clean end p = no
line_clean (space r) (by.one h p) = line_clean r p
line_clean (last f) p = also (field_clean f p) no
line_clean (next {s = s} {t = t} f r) p = also (field_clean f (all_left s (32 ∷ t) p)) (line_clean r (all_right s p))

-- Integers lie within their magnitude, as numbers do
integer_small : {z : ℤ} {s : List ℕ} → SpellsInteger z s → nat_abs z ≤ largest_integer
integer_small (plain r h) = h
integer_small (plus r h) = h
integer_small (minus {n} r h) = rw (abs_signed true n) h

text_fits : (t : FieldType) (s : List ℕ) → All text_byte s → good_text t (meaning t s) ≡ true
text_fits t s a = meaning_good t s ∙ all_complete text_byte a

module _ {c : Context} where
  -- What a field of permitted bytes spells fits its type
  pub value_fits : {t : FieldType} {v : Value} {f : Field} → SpellsField c t v f → All text_byte (bytes_of f) → fits c t v ≡ true
  unfolding fits
  value_fits (as_text {k = k} {s = s} h) a = rw (h, text_fits (T k) s a)
  value_fits (as_date h) a = h
  value_fits (as_integer {z} r) a = le-leb (nat_abs z) largest_integer (integer_small r)
  value_fits (as_number {l} {z} r h) a = rw (h, le-leb (nat_abs z) (largest l) (number_small r))
  value_fits (as_word {l} r) a = rw (listed_some (words_stand c.rules l) r)

  values_fit : {ts : List FieldType} {vs : List Value} {fs : List Field} → SpellsFields c ts vs fs → Clean fs → fits_all c ts vs ≡ true
  unfolding fits_all
  values_fit no_fields no = refl
  values_fit (more p r) (also a q) = rw (value_fits p a) (values_fit r q)

  pub line_fits : {f : Front} {ts : List FieldType} {vs : List Value} {s : List ℕ} → SpellsLine c f ts vs s → fits_all c ts vs ≡ true
  line_fits (with_keyword k r p a) = values_fit r (clean_tail (line_clean p a))
  line_fits (with_prop h r p a) = values_fit r (clean_tail (line_clean p a))
  line_fits (as_data d h r p a) = values_fit r (line_clean p a)

-- A line reads as a record where the layout of its kind reads as its values
pub record Reads (c : Context) (r : Rec) (s : List ℕ) : Type 0 where
  pub layout : Layout
  pub known : layout_of c.rules r.kind ≡ some layout
  pub reads : read_line c layout.front layout.types s ≡ good r.values

module _ {c : Context} {r : Rec} {s : List ℕ} where
  pub record_sound : Reads c r s → SpellsRecord c r s
  record_sound h = as_line {l = h.layout} h.known (line_sound h.layout.front h.layout.types s h.reads)

  pub record_complete : SpellsRecord c r s → Reads c r s
  record_complete (as_line {l = l} e p) = record { layout = l; known = e; reads = line_complete p }

  -- What is spelled, and so what is read, is well formed
  pub record_fits : SpellsRecord c r s → WellFormed c r
  unfolding well_formed
  record_fits (as_line e p) = rw e (line_fits p)

same_record : (q r : Rec) → q.kind ≡ r.kind → q.values ≡ r.values → q ≡ r
same_record q r k v = ap (λ (x : ℕ). record { kind = x; values = q.values }) k ∙ ap (λ (xs : List Value). record { kind = r.kind; values = xs }) v

-- So a line spells one record of a kind at most
pub record_unique : {c : Context} {q r : Rec} {s : List ℕ} → q.kind ≡ r.kind → SpellsRecord c q s → SpellsRecord c r s → q ≡ r
record_unique {c} {q} {r} k (as_line {l = l} e p) (as_line {l = m} f n) =
    let z : m ≡ l = cc in
    same_record q r k (line_unique p (rw z at n))
