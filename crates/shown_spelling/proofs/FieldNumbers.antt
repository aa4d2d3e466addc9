-- A field, and the fields of a line, are refused by a number exactly where the rules say so.
use Rattle.std.proofs.Common.{Option as Maybe, Some, None, Result, Ok, Err}
use Prim.Native.Nat.{ℕ, ◌≤◌}
use mathlib.Core.Path.{◌≡◌, refl, sym, ap, ◌∙◌, subst}
use mathlib.Core.Logic.{◌≢◌, ◌⊎◌, inl, inr}
use mathlib.Core.List.{List, [], ◌∷◌}
use mathlib.Core.Option.{Option, none, some}
use mathlib.Core.Bool.{Bool, true, false, cond, false≢true}
use native.Mathlib.Omega.{arith}
use borrow.Author.Tests.{eq-eqb, ne_eqb, eqb-true, eqb-false}
use lib.Dec.{eqb}
use lib.IntN.{ℤ}
use lib.ListN.{length}
use Rattle.law.specs.Fields.{Field, field}
use Rattle.number.specs.Numbers.{read_number}
use Rattle.number.specs.Integers.{read_integer}
use Rattle.law.specs.Dates.{is_date}
use Rattle.number.specs.declared.NumberError.{NumberError}
use Rattle.number.specs.declared.NumberError.TheVariants.{NotNumber, TooFine}
use Rattle.number.specs.declared.Integer.{Integer}
use Rattle.number_read.proofs.NumberSpelling.{number_sound, number_complete}
use Rattle.law.specs.Values.{Value, number, text}
use Rattle.form.specs.Values.{Reply, good, refused}
use Rattle.law.specs.Words.{words_of, folded}
use Rattle.form.specs.Compare.{place_of}
use Rattle.law.specs.Fits.{kept, largest, within, meaning, barred}
use Rattle.form.specs.Fits.{beyond}
use Rattle.form.specs.Reading.{of_count, of_integer, of_place, read_field, and_then, read_each, read_fields}
use Rattle.law.specs.Refusals.{number_of}
use Rattle.law.specs.declared.refusals.Refusal.{Refusal}
use Rattle.law.specs.declared.refusals.Refusal.TheVariants.{FieldCount, NoNumber, TooFine as FineRefusal, WrongWord, BeyondLimit}
use Rattle.law.specs.declared.Context.{Context}
use Rattle.law.specs.declared.Limit.{Limit}
use Rattle.law.specs.declared.Limit.TheVariants.{Length as L, NotBelow as L0, Above as Lp, Included as A, Rotation as R, Version as Ver}
use Rattle.law.specs.declared.Words.{Words}
use Rattle.law.specs.declared.Texts.TheVariants.{Plain, Reference, Hole}
use Rattle.law.specs.declared.FieldType.{FieldType}
use Rattle.law.specs.declared.FieldType.TheVariants.{Text as T, Date as D, Integer as I, Number as N, Word as W}
use Rattle.law.specs.Numbers.{SpellsNumber}
use Rattle.shown_spelling.proofs.ValueSpelling.{field_sound, field_complete}
use Rattle.law.specs.FieldFaults.{NoValue, FaultyField, no_integer, quoted_number, no_number, too_fine, other_version, beyond_limit, no_word, no_date, barred_board, FaultyFields, here, later}
use Rattle.shown_spelling.proofs.MagnitudeSpelling.{is_number, magnitude_sound, magnitude_complete}

no_refusal : {A : Type 0} {a : A} {n : Refusal} → good a ≡ refused n → ⊥
no_refusal {A} {a} {n} e = let z : ◌≡◌ {A = ℕ} 0 1 = cc in omega arith

one_refusal : {A : Type 0} {m n : Refusal} → ◌≡◌ {A = Reply A} (refused m) (refused n) → m ≡ n
one_refusal {A} {m} {n} e = cc

abbrev is_ver : Limit → Bool
is_ver L = false
is_ver L0 = false
is_ver Lp = false
is_ver A = false
is_ver R = false
is_ver Ver = true

not_version : (l : Limit) → is_ver l ≡ false → l ≢ Ver
not_version l h e = false≢true (sym h ∙ ap is_ver e)

-- a limit is refused by 9 for the version, and by 10 else
beyond_other : (l : Limit) → l ≢ Ver → beyond l ≡ BeyondLimit
unfolding beyond
beyond_other L h = refl
beyond_other L0 h = refl
beyond_other Lp h = refl
beyond_other A h = refl
beyond_other R h = refl
beyond_other Ver h = absurd (h refl)

-- an answer is a refusal of a number
abbrev pub Refuses : {A : Type 0} → Reply A → ℕ → Type 0
Refuses x n = (e : Refusal) × (x ≡ refused e) × (number_of e ≡ n)

module _ (c : Context) where
  abbrev Faulty : FieldType → Field → Refusal → Type 0
  Faulty t f e = FaultyField c t f (number_of e)

  limit_fault : (l : Limit) {s : List ℕ} {z : ℤ} → SpellsNumber (kept c l) (largest l) z s → within c l z ≡ false → Faulty (N l) (field false s) (beyond l)
  unfolding beyond
  limit_fault L p w = beyond_limit (not_version L refl) p w
  limit_fault L0 p w = beyond_limit (not_version L0 refl) p w
  limit_fault Lp p w = beyond_limit (not_version Lp refl) p w
  limit_fault A p w = beyond_limit (not_version A refl) p w
  limit_fault R p w = beyond_limit (not_version R refl) p w
  limit_fault Ver p w = other_version p w

  no_value : {t : FieldType} {f : Field} {n : Refusal} → read_field c t f ≡ refused n → NoValue c t f
  no_value e x p = no_refusal (sym (field_complete p) ∙ e)

  -- Sound: a refused field is faulty by its number
  count_fault : (l : Limit) (s : List ℕ) (n : Refusal) (a : Result ℤ NumberError) → read_number (kept c l) (largest l) s ≡ a → of_count c l a ≡ refused n → Faulty (N l) (field false s) n
  count_fault l s n (Ok z) h e = go (within c l z) refl e
    where
      go : (b : Bool) → within c l z ≡ b → cond b (good (number z)) (refused (beyond l)) ≡ refused n → Faulty (N l) (field false s) n
      go true w e = absurd (no_refusal e)
      go false w e = subst (Faulty (N l) (field false s)) (one_refusal e) (limit_fault l (number_sound (kept c l) (largest l) s h) w)
  count_fault l s n (Err NotNumber) h e = subst (Faulty (N l) (field false s)) (one_refusal e) (no_number (λ m. let i = magnitude_complete m in false≢true (rw h at i)))
  count_fault l s n (Err TooFine) h e =
      subst (Faulty (N l) (field false s)) (one_refusal e)
      (too_fine (magnitude_sound (kept c l) (largest l) s (rw h)) (λ z p. let i = number_complete p in let y : ◌≡◌ {A = ℕ} 0 1 = cc in omega arith))

  pub field_fault : (t : FieldType) (f : Field) (n : Refusal) → read_field c t f ≡ refused n → Faulty t f n
  unfolding read_field barred
  field_fault (T Plain) (field q s) n e = absurd (no_refusal e)
  field_fault (T Hole) (field q s) n e = absurd (no_refusal e)
  field_fault (T Reference) (field q s) n e = go (barred c Reference (meaning (T Reference) s)) refl
    where
      go : (b : Bool) → barred c Reference (meaning (T Reference) s) ≡ b → Faulty (T Reference) (field q s) n
      go true h = subst (Faulty (T Reference) (field q s)) (one_refusal (rw h at e)) (barred_board (no_value e))
      go false h = absurd (no_refusal (rw h at e))
  field_fault D (field true s) n e = subst (Faulty D (field true s)) (one_refusal e) (no_date (no_value e))
  field_fault D (field false s) n e = go (is_date s) refl
    where
      go : (b : Bool) → is_date s ≡ b → Faulty D (field false s) n
      go true h = absurd (no_refusal (rw h at e))
      go false h = subst (Faulty D (field false s)) (one_refusal (rw h at e)) (no_date (no_value e))
  field_fault I (field true s) n e = subst (Faulty I (field true s)) (one_refusal e) (no_integer (no_value e))
  field_fault I (field false s) n e = go (read_integer s) refl
    where
      go : (a : Maybe Integer) → read_integer s ≡ a → Faulty I (field false s) n
      go (Some z) h = absurd (no_refusal (rw h at e))
      go None h = subst (Faulty I (field false s)) (one_refusal (rw h at e)) (no_integer (no_value e))
  field_fault (N l) (field true s) n e = subst (Faulty (N l) (field true s)) (one_refusal e) quoted_number
  field_fault (N l) (field false s) n e = count_fault l s n (read_number (kept c l) (largest l) s) refl e
  field_fault (W l) (field true s) n e = subst (Faulty (W l) (field true s)) (one_refusal e) (no_word (no_value e))
  field_fault (W l) (field false s) n e = go (place_of (words_of c.rules l) (folded s)) refl
    where
      go : (o : Option ℕ) → place_of (words_of c.rules l) (folded s) ≡ o → Faulty (W l) (field false s) n
      go none h = subst (Faulty (W l) (field false s)) (one_refusal (rw h at e)) (no_word (no_value e))
      go (some m) h = absurd (no_refusal (rw h at e))

  -- Complete: the types by which a field without a value is refused by one number
  abbrev Only : FieldType → Refusal → Type 0
  Only t n = (f : Field) (m : Refusal) → read_field c t f ≡ refused m → m ≡ n

  only : (t : FieldType) (n : Refusal) (f : Field) → Only t n → NoValue c t f → read_field c t f ≡ refused n
  only t n f o h = go (read_field c t f) refl
    where
      go : (a : Reply Value) → read_field c t f ≡ a → a ≡ refused n
      go (good x) e = absurd (h x (field_sound t f e))
      go (refused m) e = ap refused (o f m e)

  only_integer : Only I NoNumber
  unfolding read_field
  only_integer (field true s) m e = sym (one_refusal e)
  only_integer (field false s) m e = go (read_integer s) e
    where
      go : (a : Maybe Integer) → of_integer a ≡ refused m → m ≡ NoNumber
      go (Some z) e = absurd (no_refusal e)
      go None e = sym (one_refusal e)

  only_word : (l : Words) → Only (W l) WrongWord
  unfolding read_field
  only_word l (field true s) m e = sym (one_refusal e)
  only_word l (field false s) m e = go (place_of (words_of c.rules l) (folded s)) e
    where
      go : (a : Option ℕ) → of_place a ≡ refused m → m ≡ WrongWord
      go none e = sym (one_refusal e)
      go (some x) e = absurd (no_refusal e)

  only_date : Only D WrongWord
  unfolding read_field
  only_date (field true s) m e = sym (one_refusal e)
  only_date (field false s) m e = go (is_date s) e
    where
      go : (b : Bool) → cond b (good (text s)) (refused WrongWord) ≡ refused m → m ≡ WrongWord
      go true e = absurd (no_refusal e)
      go false e = sym (one_refusal e)

  only_reference : Only (T Reference) WrongWord
  unfolding read_field
  only_reference (field q s) m e = go (barred c Reference (meaning (T Reference) s)) e
    where
      go : (b : Bool) → cond b (refused WrongWord) (good (text (meaning (T Reference) s))) ≡ refused m → m ≡ WrongWord
      go true e = sym (one_refusal e)
      go false e = absurd (no_refusal e)

  pub field_refused : {t : FieldType} {f : Field} {n : ℕ} → FaultyField c t f n → Refuses (read_field c t f) n
  unfolding read_field beyond
  field_refused (no_integer {f} h) = (NoNumber, only I NoNumber f only_integer h, refl)
  field_refused quoted_number = (NoNumber, refl, refl)
  field_refused (no_number {l} {s} h) = (NoNumber, go (read_number (kept c l) (largest l) s) refl, refl)
    where
      go : (a : Result ℤ NumberError) → read_number (kept c l) (largest l) s ≡ a → of_count c l a ≡ refused NoNumber
      go (Ok z) e = absurd (h (magnitude_sound (kept c l) (largest l) s (rw e)))
      go (Err NotNumber) e = refl
      go (Err TooFine) e = absurd (h (magnitude_sound (kept c l) (largest l) s (rw e)))
  field_refused (too_fine {l} {s} m h) = (FineRefusal, go (read_number (kept c l) (largest l) s) refl (magnitude_complete m), refl)
    where
      go : (a : Result ℤ NumberError) → read_number (kept c l) (largest l) s ≡ a → is_number a ≡ true → of_count c l a ≡ refused FineRefusal
      go (Ok z) e i = absurd (h z (number_sound (kept c l) (largest l) s e))
      go (Err NotNumber) e i = absurd (false≢true i)
      go (Err TooFine) e i = refl
  field_refused (other_version p h) = (WrongWord, rw (number_complete p, h), refl)
  field_refused (beyond_limit {l} d p h) = (BeyondLimit, rw (number_complete p, h, beyond_other l d), refl)
  field_refused (no_word {l} {f} h) = (WrongWord, only (W l) WrongWord f (only_word l) h, refl)
  field_refused (no_date {f} h) = (WrongWord, only D WrongWord f only_date h, refl)
  field_refused (barred_board {f} h) = (WrongWord, only (T Reference) WrongWord f only_reference h, refl)

  -- The fields from the left
  each_fault : (ts : List FieldType) (fs : List Field) (n : Refusal) → length fs ≡ length ts → read_each c ts fs ≡ refused n → FaultyFields c ts fs (number_of n)
  unfolding read_each
  each_fault [] [] n l e = absurd (no_refusal e)
  each_fault [] (f ∷ fs) n l e = absurd (omega arith)
  each_fault (t ∷ ts) [] n l e = absurd (omega arith)
  each_fault (t ∷ ts) (f ∷ fs) n l e = go (read_field c t f) (read_each c ts fs) refl (each_fault ts fs n (omega arith)) e
    where
      go : (a : Reply Value) (b : Reply (List Value)) → read_field c t f ≡ a → (b ≡ refused n → FaultyFields c ts fs (number_of n)) → and_then a b ≡ refused n → FaultyFields c (t ∷ ts) (f ∷ fs) (number_of n)
      go (refused m) b h k e = here (field_fault t f n (h ∙ ap refused (one_refusal e)))
      go (good x) (refused m) h k e = later (field_sound t f h) (k (ap refused (one_refusal e)))
      go (good x) (good xs) h k e = absurd (no_refusal e)

  each_refused : {ts : List FieldType} {fs : List Field} {n : ℕ} → FaultyFields c ts fs n → Refuses (read_each c ts fs) n
  unfolding read_each
  each_refused (here h) = let r = field_refused h in (r.0, rw r.1, r.2)
  each_refused (later p h) = let r = each_refused h in (r.0, rw (field_complete p, r.1), r.2)

  pub fields_fault : (ts : List FieldType) (fs : List Field) (n : Refusal) → read_fields c ts fs ≡ refused n
      → ((length fs ≢ length ts) × (n ≡ FieldCount)) ⊎ ((length fs ≡ length ts) × FaultyFields c ts fs (number_of n))
  unfolding read_fields
  fields_fault ts fs n e = go (eqb (length fs) (length ts)) refl e
    where
      go : (b : Bool) → eqb (length fs) (length ts) ≡ b → cond b (read_each c ts fs) (refused FieldCount) ≡ refused n
          → ((length fs ≢ length ts) × (n ≡ FieldCount)) ⊎ ((length fs ≡ length ts) × FaultyFields c ts fs (number_of n))
      go true h e = let l = eqb-true (length fs) (length ts) h in inr (l, each_fault ts fs n l e)
      go false h e = inl (eqb-false (length fs) (length ts) h, sym (one_refusal e))

  pub fields_miscounted : (ts : List FieldType) (fs : List Field) → length fs ≢ length ts → read_fields c ts fs ≡ refused FieldCount
  unfolding read_fields
  fields_miscounted ts fs h = rw (ne_eqb (length fs) (length ts) h)

  pub fields_refused : {ts : List FieldType} {fs : List Field} {n : ℕ} → length fs ≡ length ts → FaultyFields c ts fs n → Refuses (read_fields c ts fs) n
  unfolding read_fields
  fields_refused {ts} {fs} l h = let r = each_refused h in (r.0, rw (eq-eqb (length fs) (length ts) l) r.1, r.2)

  -- by one of 7 to 10
  field_number : {t : FieldType} {f : Field} {n : ℕ} → FaultyField c t f n → (7 ≤ n) × (n ≤ 10)
  field_number (no_integer h) = (omega arith, omega arith)
  field_number quoted_number = (omega arith, omega arith)
  field_number (no_number h) = (omega arith, omega arith)
  field_number (too_fine m h) = (omega arith, omega arith)
  field_number (other_version p h) = (omega arith, omega arith)
  field_number (beyond_limit d p h) = (omega arith, omega arith)
  field_number (no_word h) = (omega arith, omega arith)
  field_number (no_date h) = (omega arith, omega arith)
  field_number (barred_board h) = (omega arith, omega arith)

  pub fields_number : {ts : List FieldType} {fs : List Field} {n : ℕ} → FaultyFields c ts fs n → (7 ≤ n) × (n ≤ 10)
  fields_number (here h) = field_number h
  fields_number (later p h) = fields_number h
