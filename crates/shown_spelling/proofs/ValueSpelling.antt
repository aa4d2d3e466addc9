-- A field is read as a value, and the fields of a record as its values, exactly where the rules spell them.
use Rattle.std.proofs.Common.{ℤ, Option as Maybe, Some, None, Result, Ok, Err}
use Prim.Native.Nat.{ℕ, suc}
use mathlib.Core.Path.{◌≡◌, refl, ap}
use mathlib.Core.List.{List, [], ◌∷◌}
use mathlib.Core.Option.{Option, none, some}
use mathlib.Core.Bool.{true, false}
use borrow.Author.Tests.{eq-eqb}
use lib.Dec.{eqb}
use lib.ListN.{length}
use Rattle.law.specs.declared.refusals.Refusal.TheVariants.{WrongWord, FieldCount}
use Rattle.law.specs.Fields.{Field, field}
use Rattle.number.specs.Numbers.{read_number}
use Rattle.number.specs.Integers.{read_integer}
use Rattle.law.specs.Dates.{is_date}
use Rattle.number.specs.declared.NumberError.{NumberError}
use Rattle.number.specs.declared.NumberError.TheVariants.{NotNumber, TooFine}
use Rattle.number.specs.declared.Integer.{Integer}
use Rattle.number_read.proofs.NumberSpelling.{number_sound, number_complete}
use Rattle.number_read.proofs.IntegerSpelling.{integer_sound, integer_complete}
use Rattle.law.specs.Values.{Value, number, word, text}
use Rattle.form.specs.Values.{Reply, good, refused}
use Rattle.law.specs.Words.{words_of, folded}
use Rattle.form.specs.Compare.{place_of}
use Rattle.law.specs.Fits.{kept, largest, within, meaning, barred}
use Rattle.form.specs.Fits.{beyond}
use Rattle.form.specs.Reading.{of_count, of_integer, of_place, read_field, and_then, read_each, read_fields}
use Rattle.law.specs.declared.Context.{Context}
use Rattle.law.specs.declared.Limit.{Limit}
use Rattle.law.specs.declared.Words.{Words}
use Rattle.law.specs.declared.FieldType.{FieldType}
use Rattle.law.specs.declared.FieldType.TheVariants.{Text as T, Date as D, Integer as I, Number as N, Word as W}
use Rattle.law.specs.RecordSpelling.{SpellsField, as_text, as_date, as_integer, as_number, as_word, SpellsFields, none as no_fields, more}
use Rattle.shown_spelling.proofs.Logic.{refused_good, cond_good, cond_not_good}
use Rattle.shown_spelling.proofs.WordSpelling.{place_sound, place_complete}
use Rattle.shown_spelling.proofs.Tables.{words_differ}

module _ {c : Context} where
  -- What spells a value reads as it
  pub field_complete : {t : FieldType} {v : Value} {f : Field} → SpellsField c t v f → read_field c t f ≡ good v
  unfolding read_field
  field_complete (as_text h) = rw h
  field_complete (as_date h) = rw h
  field_complete (as_integer r) = rw (integer_complete r)
  field_complete (as_number r h) = rw (number_complete r, h)
  field_complete (as_word {l} r) = rw (place_complete (words_differ c.rules l) r)

  -- What reads as a value spells it
  integer_field : {v : Value} (s : List ℕ) (a : Maybe Integer) → read_integer s ≡ a → of_integer a ≡ good v → SpellsField c I v (field false s)
  integer_field {v} s (Some z) h e = let p : v ≡ number z.0 = cc in rw p (as_integer (integer_sound s z h))
  integer_field s None h e = absurd (refused_good e)

  count_field : {v : Value} (l : Limit) (s : List ℕ) (a : Result ℤ NumberError) → read_number (kept c l) (largest l) s ≡ a → of_count c l a ≡ good v → SpellsField c (N l) v (field false s)
  count_field {v} l s (Ok z) h e =
      let g = cond_good (beyond l) (within c l z) e in
      let p : v ≡ number z = cc g.1 in
      rw p (as_number (number_sound (kept c l) (largest l) s h) g.0)
  count_field l s (Err NotNumber) h e = absurd (refused_good e)
  count_field l s (Err TooFine) h e = absurd (refused_good e)

  word_field : {v : Value} (l : Words) (s : List ℕ) (o : Option ℕ) → place_of (words_of c.rules l) (folded s) ≡ o → of_place o ≡ good v → SpellsField c (W l) v (field false s)
  word_field l s none h e = absurd (refused_good e)
  word_field {v} l s (some n) h e = let p : v ≡ word n = cc in rw p (as_word (place_sound (words_of c.rules l) s n h))

  pub field_sound : (t : FieldType) (f : Field) {v : Value} → read_field c t f ≡ good v → SpellsField c t v f
  unfolding read_field
  field_sound (T k) (field q s) {v} e =
      let g = cond_not_good WrongWord (barred c k (meaning (T k) s)) e in
      let p : v ≡ text (meaning (T k) s) = cc g.1 in
      rw p (as_text g.0)
  field_sound D (field true s) e = absurd (refused_good e)
  field_sound D (field false s) {v} e =
      let g = cond_good WrongWord (is_date s) e in
      let p : v ≡ text s = cc g.1 in
      rw p (as_date g.0)
  field_sound I (field true s) e = absurd (refused_good e)
  field_sound I (field false s) e = integer_field s (read_integer s) refl e
  field_sound (N l) (field true s) e = absurd (refused_good e)
  field_sound (N l) (field false s) e = count_field l s (read_number (kept c l) (largest l) s) refl e
  field_sound (W l) (field true s) e = absurd (refused_good e)
  field_sound (W l) (field false s) e = word_field l s (place_of (words_of c.rules l) (folded s)) refl e

  -- The fields of a record, from the left
  same_number : {ts : List FieldType} {vs : List Value} {fs : List Field} → SpellsFields c ts vs fs → length fs ≡ length ts
  same_number no_fields = refl
  same_number (more p r) = ap suc (same_number r)

  each_complete : {ts : List FieldType} {vs : List Value} {fs : List Field} → SpellsFields c ts vs fs → read_each c ts fs ≡ good vs
  unfolding read_each
  each_complete no_fields = refl
  each_complete (more p r) = rw (field_complete p, each_complete r)

  pub values_complete : {ts : List FieldType} {vs : List Value} {fs : List Field} → SpellsFields c ts vs fs → read_fields c ts fs ≡ good vs
  unfolding read_fields
  values_complete {ts} {vs} {fs} r = rw (eq-eqb (length fs) (length ts) (same_number r)) (each_complete r)

  each_sound : (ts : List FieldType) (fs : List Field) {vs : List Value} → read_each c ts fs ≡ good vs → SpellsFields c ts vs fs
  unfolding read_each
  each_sound [] [] {vs} e = let p : vs ≡ [] = cc in rw p no_fields
  each_sound [] (f ∷ fs) e = absurd (refused_good e)
  each_sound (t ∷ ts) [] e = absurd (refused_good e)
  each_sound (t ∷ ts) (f ∷ fs) {vs} e = go (read_field c t f) (read_each c ts fs) refl (λ us. each_sound ts fs {vs = us}) e
    where
      go : (a : Reply Value) (b : Reply (List Value)) → read_field c t f ≡ a → ((us : List Value) → b ≡ good us → SpellsFields c ts us fs) → and_then a b ≡ good vs → SpellsFields c (t ∷ ts) vs (f ∷ fs)
      go (refused n) b h r e = absurd (refused_good e)
      go (good v) (refused n) h r e = absurd (refused_good e)
      go (good v) (good us) h r e = let p : vs ≡ v ∷ us = cc in rw p (more (field_sound t f h) (r us refl))

  pub values_sound : (ts : List FieldType) (fs : List Field) {vs : List Value} → read_fields c ts fs ≡ good vs → SpellsFields c ts vs fs
  unfolding read_fields
  values_sound ts fs e = each_sound ts fs (cond_good FieldCount (eqb (length fs) (length ts)) e).1
