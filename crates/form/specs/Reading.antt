-- What a field, the fields of a record, and a line read as.
use Rattle.std.specs.Prelude.{ℕ, suc, List, [], ◌∷◌, ◌++◌, true, false, cond, eqb, length, ℤ, Option as Maybe, Some, None, Result, Ok, Err}
use Rattle.std.proofs.Math.Option.{Option, none, some}
use Rattle.law.specs.Bytes.{permitted, all_of, begins}
use Rattle.law.specs.Fields.{Field, field}
use Rattle.text_fields.specs.Fields.{fields_of}
use Rattle.number.specs.Numbers.{read_number}
use Rattle.number.specs.Integers.{read_integer}
use Rattle.law.specs.Dates.{is_date}
use Rattle.number.specs.declared.NumberError.{NumberError}
use Rattle.number.specs.declared.NumberError.TheVariants.{NotNumber, TooFine}
use Rattle.number.specs.declared.Integer.{Integer}
use Rattle.law.specs.Values.{Value, number, word, text}
use Rattle.form.specs.Values.{Reply, good, refused}
use Rattle.law.specs.Words.{words_of, prop_word, end_word, same_bytes, folded}
use Rattle.law.specs.Sections.{section_names}
use Rattle.form.specs.Compare.{place_of}
use Rattle.law.specs.Layouts.{Front, keyword, prop, plain}
use Rattle.law.specs.Fits.{kept, largest, within, meaning, barred}
use Rattle.form.specs.Fits.{beyond}
use Rattle.law.specs.declared.Context.{Context}
use Rattle.law.specs.declared.Limit.{Limit}
use Rattle.law.specs.declared.FieldType.{FieldType}
use Rattle.law.specs.declared.FieldType.TheVariants.{Text as T, Date as D, Integer as I, Number as N, Word as W}
use Rattle.law.specs.declared.refusals.Refusal.{Refusal}
use Rattle.law.specs.declared.refusals.Refusal.TheVariants.{ForbiddenByte, BrokenQuoting, Misplaced, FieldCount, NoNumber, TooFine, WrongWord}
use Rattle.form.specs.declared.Keyword.{Keyword}
use Rattle.form.specs.declared.Keyword.TheVariants.{Opening, Closing, Unknown}

-- one field: 7 not a number or an integer, 8 too fine, 9 a wrong word, version, date or BOARD, 10 a limit

abbrev pub of_count : Context → Limit → Result ℤ NumberError → Reply Value
of_count c l (Ok z) = cond (within c l z) (good (number z)) (refused (beyond l))
of_count c l (Err NotNumber) = refused NoNumber
of_count c l (Err TooFine) = refused TooFine

abbrev pub of_integer : Maybe Integer → Reply Value
of_integer (Some z) = good (number z.0)
of_integer None = refused NoNumber

abbrev pub of_place : Option ℕ → Reply Value
of_place none = refused WrongWord
of_place (some n) = good (word n)

unfoldable pub read_field : Context → FieldType → Field → Reply Value
read_field c (T k) (field q s) = cond (barred c k (meaning (T k) s)) (refused WrongWord) (good (text (meaning (T k) s)))
read_field c D (field true s) = refused WrongWord
read_field c D (field false s) = cond (is_date s) (good (text s)) (refused WrongWord)
read_field c I (field true s) = refused NoNumber
read_field c I (field false s) = of_integer (read_integer s)
read_field c (N l) (field true s) = refused NoNumber
read_field c (N l) (field false s) = of_count c l (read_number (kept c l) (largest l) s)
read_field c (W l) (field true s) = refused WrongWord
read_field c (W l) (field false s) = of_place (place_of (words_of c.rules l) (folded s))

-- the fields of a record: 6 for their number, then each from the left

abbrev pub and_then : Reply Value → Reply (List Value) → Reply (List Value)
and_then (refused n) r = refused n
and_then (good v) (refused n) = refused n
and_then (good v) (good vs) = good (v ∷ vs)

unfoldable pub read_each : Context → List FieldType → List Field → Reply (List Value)
read_each c [] [] = good []
read_each c [] (f ∷ fs) = refused FieldCount
read_each c (t ∷ ts) [] = refused FieldCount
read_each c (t ∷ ts) (f ∷ fs) = and_then (read_field c t f) (read_each c ts fs)

unfoldable pub read_fields : Context → List FieldType → List Field → Reply (List Value)
read_fields c ts fs = cond (eqb (length fs) (length ts)) (read_each c ts fs) (refused FieldCount)

-- a line by what it is: a comment or blank; refused with 3 or 4; a keyword in capitals and the fields after it; a data line's fields

pub data Line : Type 0 where
  free : Line
  bad : Refusal → Line
  key_line : List ℕ → List Field → Line
  data_line : List Field → Line

abbrev pub by_first : List Field → Line
by_first [] = free
by_first (field true s ∷ fs) = data_line (field true s ∷ fs)
by_first (field false s ∷ fs) = cond (begins 46 s) (key_line (folded s) fs) (data_line (field false s ∷ fs))

abbrev pub by_fields : Option (List Field) → Line
by_fields none = bad BrokenQuoting
by_fields (some fs) = by_first fs

unfoldable pub line_as : List ℕ → Line
line_as s = cond (begins 35 s) free (cond (all_of permitted s) (by_fields (fields_of s)) (bad ForbiddenByte))

-- the fields after what a record's line begins with
abbrev pub after_prop : List Field → Reply (List Field)
after_prop [] = refused Misplaced
after_prop (field true s ∷ fs) = refused Misplaced
after_prop (field false s ∷ fs) = cond (same_bytes prop_word (folded s)) (good fs) (refused Misplaced)

abbrev pub after : Front → Line → Reply (List Field)
after f free = refused Misplaced
after f (bad n) = refused n
after (keyword k) (key_line w fs) = cond (same_bytes (46 ∷ k) w) (good fs) (refused Misplaced)
after (keyword k) (data_line fs) = refused Misplaced
after prop (key_line w fs) = refused Misplaced
after prop (data_line fs) = after_prop fs
after plain (key_line w fs) = refused Misplaced
after plain (data_line fs) = good fs

abbrev pub fields_by : Context → List FieldType → Reply (List Field) → Reply (List Value)
fields_by c ts (good fs) = read_fields c ts fs
fields_by c ts (refused n) = refused n

-- a line where a record of this front and these types must stand
unfoldable pub read_line : Context → Front → List FieldType → List ℕ → Reply (List Value)
read_line c f ts s = fields_by c ts (after f (line_as s))

-- keywords

-- the number from n on of the first name of a list that stands, with a prefix before it, for the keyword w
unfoldable pub key_from : List ℕ → ℕ → List (List ℕ) → List ℕ → Option ℕ
key_from p n [] w = none
key_from p n (k ∷ ks) w = cond (same_bytes (p ++ k) w) (some n) (key_from p (suc n) ks w)

abbrev pub key_by : Option ℕ → Option ℕ → Keyword
key_by (some n) p = Opening n
key_by none (some n) = Closing n
key_by none none = Unknown

-- what a keyword in capitals does: a period and a name opens a section, a period, END_ and the name closes it
unfoldable pub keyword_of : List ℕ → Keyword
keyword_of w = key_by (key_from (46 ∷ []) 1 section_names w) (key_from (46 ∷ end_word) 1 section_names w)
