-- "Numbers, integers, words and the date are bare. Text may be either. A line whose first field is bare and begins with a period is a
-- keyword line": how a value, the values of a record, and a record's line are spelled.
use Rattle.std.specs.Prelude.{ℕ, ◌≡◌, List, [], ◌∷◌, Bool, true, false, not, ℤ}
use Rattle.std.proofs.Math.Option.{some}
use Rattle.law.specs.Bytes.{permitted, begins, All}
use Rattle.law.specs.Fields.{Field, field, Spelled}
use Rattle.law.specs.Numbers.{SpellsNumber}
use Rattle.law.specs.Integers.{SpellsInteger}
use Rattle.law.specs.Dates.{is_date}
use Rattle.law.specs.Values.{Value, number, word, text, Rec}
use Rattle.law.specs.Words.{words_of, prop_word}
use Rattle.law.specs.Layouts.{Front, keyword, prop, plain, Layout, layout_of}
use Rattle.law.specs.Fits.{kept, largest, within, meaning, barred}
use Rattle.law.specs.WordSpelling.{Listed, AnyCase}
use Rattle.law.specs.declared.Context.{Context}
use Rattle.law.specs.declared.Limit.{Limit}
use Rattle.law.specs.declared.Words.{Words}
use Rattle.law.specs.declared.FieldType.{FieldType}
use Rattle.law.specs.declared.Texts.{Texts}
use Rattle.law.specs.declared.FieldType.TheVariants.{Text as T, Date as D, Integer as I, Number as N, Word as W}

-- a text is bare or quoted, and BOARD as a reference does not occur in a board; numbers, integers, words and the date are bare
pub data SpellsField (c : Context) : FieldType → Value → Field → Type 0 where
  as_text : {k : Texts} {q : Bool} {s : List ℕ} → barred c k (meaning (T k) s) ≡ false → SpellsField c (T k) (text (meaning (T k) s)) (field q s)
  as_date : {s : List ℕ} → is_date s ≡ true → SpellsField c D (text s) (field false s)
  as_integer : {z : ℤ} {s : List ℕ} → SpellsInteger z s → SpellsField c I (number z) (field false s)
  as_number : {l : Limit} {z : ℤ} {s : List ℕ} → SpellsNumber (kept c l) (largest l) z s → within c l z ≡ true → SpellsField c (N l) (number z) (field false s)
  as_word : {l : Words} {n : ℕ} {s : List ℕ} → Listed (words_of c.rules l) n s → SpellsField c (W l) (word n) (field false s)

-- one field and one value for each type
pub data SpellsFields (c : Context) : List FieldType → List Value → List Field → Type 0 where
  none : SpellsFields c [] [] []
  more : {t : FieldType} {ts : List FieldType} {v : Value} {vs : List Value} {f : Field} {fs : List Field}
      → SpellsField c t v f → SpellsFields c ts vs fs → SpellsFields c (t ∷ ts) (v ∷ vs) (f ∷ fs)

-- the fields of a data line: there is a first, and it is not bare with a period in front
unfoldable pub is_data : List Field → Bool
is_data [] = false
is_data (field true s ∷ fs) = true
is_data (field false s ∷ fs) = not (begins 46 s)

-- a record's line, of permitted bytes: a period and its keyword, or PROP, or nothing, then its fields; a data line does not begin with #
pub data SpellsLine (c : Context) : Front → List FieldType → List Value → List ℕ → Type 0 where
  with_keyword : {k w : List ℕ} {ts : List FieldType} {vs : List Value} {fs : List Field} {s : List ℕ}
      → AnyCase k w → SpellsFields c ts vs fs → Spelled (field false (46 ∷ w) ∷ fs) s → All permitted s → SpellsLine c (keyword k) ts vs s
  with_prop : {p : List ℕ} {ts : List FieldType} {vs : List Value} {fs : List Field} {s : List ℕ}
      → AnyCase prop_word p → SpellsFields c ts vs fs → Spelled (field false p ∷ fs) s → All permitted s → SpellsLine c prop ts vs s
  as_data : {ts : List FieldType} {vs : List Value} {fs : List Field} {s : List ℕ}
      → is_data fs ≡ true → begins 35 s ≡ false → SpellsFields c ts vs fs → Spelled fs s → All permitted s → SpellsLine c plain ts vs s

-- a record's line is one by the layout of its kind
pub data SpellsRecord (c : Context) : Rec → List ℕ → Type 0 where
  as_line : {r : Rec} {l : Layout} {s : List ℕ} → layout_of c.rules r.kind ≡ some l → SpellsLine c l.front l.types r.values s → SpellsRecord c r s
