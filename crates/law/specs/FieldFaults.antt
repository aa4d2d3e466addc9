-- "The fields left to right each by 7, 8, 9, 10": which number a field is refused by, and the fields of a line.
use Rattle.std.specs.Prelude.{ℕ, ◌≡◌, ◌≢◌, List, ◌∷◌, true, false, ℤ}
use Rattle.law.specs.Fields.{Field, field}
use Rattle.law.specs.Numbers.{SpellsNumber}
use Rattle.law.specs.Values.{Value}
use Rattle.law.specs.Fits.{kept, largest, within}
use Rattle.law.specs.declared.Context.{Context}
use Rattle.law.specs.declared.Limit.{Limit}
use Rattle.law.specs.declared.Limit.TheVariants.{Version as Ver}
use Rattle.law.specs.declared.Words.{Words}
use Rattle.law.specs.declared.Texts.TheVariants.{Reference}
use Rattle.law.specs.declared.FieldType.{FieldType}
use Rattle.law.specs.declared.FieldType.TheVariants.{Text as T, Date as D, Integer as I, Number as N, Word as W}
use Rattle.law.specs.RecordSpelling.{SpellsField}
use Rattle.law.specs.Magnitudes.{InMagnitude}

-- no value is spelled by the field
abbrev pub NoValue : Context → FieldType → Field → Type 0
NoValue c t f = (x : Value) → SpellsField c t x f → ⊥

-- one field: 7 no integer or no number, or past its magnitude; 8 finer than the decimals kept; 9 a wrong word, date, version or BOARD; 10 a limit
pub data FaultyField (c : Context) : FieldType → Field → ℕ → Type 0 where
  no_integer : {f : Field} → NoValue c I f → FaultyField c I f 7
  quoted_number : {l : Limit} {s : List ℕ} → FaultyField c (N l) (field true s) 7
  no_number : {l : Limit} {s : List ℕ} → (InMagnitude (kept c l) (largest l) s → ⊥) → FaultyField c (N l) (field false s) 7
  too_fine : {l : Limit} {s : List ℕ} → InMagnitude (kept c l) (largest l) s → ((z : ℤ) → SpellsNumber (kept c l) (largest l) z s → ⊥) → FaultyField c (N l) (field false s) 8
  other_version : {s : List ℕ} {z : ℤ} → SpellsNumber (kept c Ver) (largest Ver) z s → within c Ver z ≡ false → FaultyField c (N Ver) (field false s) 9
  beyond_limit : {l : Limit} {s : List ℕ} {z : ℤ} → l ≢ Ver → SpellsNumber (kept c l) (largest l) z s → within c l z ≡ false → FaultyField c (N l) (field false s) 10
  no_word : {l : Words} {f : Field} → NoValue c (W l) f → FaultyField c (W l) f 9
  no_date : {f : Field} → NoValue c D f → FaultyField c D f 9
  barred_board : {f : Field} → NoValue c (T Reference) f → FaultyField c (T Reference) f 9

-- the fields from the left: the first that has no value
pub data FaultyFields (c : Context) : List FieldType → List Field → ℕ → Type 0 where
  here : {t : FieldType} {ts : List FieldType} {f : Field} {fs : List Field} {n : ℕ} → FaultyField c t f n → FaultyFields c (t ∷ ts) (f ∷ fs) n
  later : {t : FieldType} {ts : List FieldType} {x : Value} {f : Field} {fs : List Field} {n : ℕ} → SpellsField c t x f → FaultyFields c ts fs n → FaultyFields c (t ∷ ts) (f ∷ fs) n
