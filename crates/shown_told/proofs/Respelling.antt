-- A line that spells a record in a file of one type spells it in a file of any type in which the record is well formed.
use Prim.Native.Nat.{ℕ}
use mathlib.Core.Path.{◌≡◌}
use mathlib.Core.List.{List}
use mathlib.Core.Bool.{true, not}
use lib.Dec.{leb}
use lib.IntN.{nat_abs}
use borrow.Author.Tests.{not-true}
use Rattle.basics.proofs.Bools.{both}
use Rattle.law.specs.Fields.{Field}
use Rattle.law.specs.Values.{Value, Rec}
use Rattle.law.specs.Layouts.{Front}
use Rattle.law.specs.Fits.{under, kept, largest, meaning, barred, fits, fits_all, well_formed, WellFormed}
use Rattle.law.specs.declared.Rules.{Rules}
use Rattle.law.specs.declared.FileType.{FileType}
use Rattle.law.specs.declared.FieldType.{FieldType}
use Rattle.law.specs.declared.FieldType.TheVariants.{Text as T}
use Rattle.law.specs.RecordSpelling.{SpellsField, as_text, as_date, as_integer, as_number, as_word, SpellsFields, none as no_fields, more, SpellsLine, with_keyword, with_prop, as_data, SpellsRecord, as_line}

module _ {v : Rules} {a : FileType} (b : FileType) where
  -- only what is barred depends on the file's type, and what is well formed holds none that is
  field_again : {t : FieldType} {x : Value} {f : Field} → SpellsField (under v a) t x f → fits (under v b) t x ≡ true → SpellsField (under v b) t x f
  unfolding fits kept
  field_again (as_text {k = k} {s = s} e) h = as_text (not-true _ (both (not (barred (under v b) k (meaning (T k) s))) _ h).0)
  field_again (as_date r) h = as_date r
  field_again (as_integer r) h = as_integer r
  field_again (as_number {l} {z} r e) h = as_number r (both (leb (nat_abs z) (largest l)) _ h).1
  field_again (as_word r) h = as_word r

  fields_again : {ts : List FieldType} {xs : List Value} {fs : List Field} → SpellsFields (under v a) ts xs fs → fits_all (under v b) ts xs ≡ true → SpellsFields (under v b) ts xs fs
  unfolding fits_all
  fields_again no_fields h = no_fields
  fields_again (more {t = t} {v = x} p r) h = let w = both (fits (under v b) t x) _ h in more (field_again p w.0) (fields_again r w.1)

  line_again : {f : Front} {ts : List FieldType} {xs : List Value} {s : List ℕ} → SpellsLine (under v a) f ts xs s → fits_all (under v b) ts xs ≡ true → SpellsLine (under v b) f ts xs s
  line_again (with_keyword m r p c) h = with_keyword m (fields_again r h) p c
  line_again (with_prop e r p c) h = with_prop e (fields_again r h) p c
  line_again (as_data d e r p c) h = as_data d e (fields_again r h) p c

  pub spelled_again : {r : Rec} {l : List ℕ} → SpellsRecord (under v a) r l → WellFormed (under v b) r → SpellsRecord (under v b) r l
  unfolding well_formed
  spelled_again (as_line e p) h = as_line e (line_again p (rw e at h))
