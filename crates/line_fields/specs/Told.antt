-- What the code's answer for a field stands for.
use Rattle.std.specs.Prelude.{ℕ, List, cond, Result, Ok, Err}
use Rattle.number.specs.Numbers.{read_number}
use Rattle.number.specs.Integers.{read_integer}
use Rattle.law.specs.Dates.{is_date}
use Rattle.law.specs.Values.{Value, number, word, text}
use Rattle.form.specs.Values.{Reply, good, refused}
use Rattle.law.specs.Words.{words_of, folded}
use Rattle.form.specs.Compare.{place_of}
use Rattle.law.specs.Fits.{kept, largest, meaning, barred}
use Rattle.form.specs.Reading.{of_count, of_integer, of_place}
use Rattle.law.specs.declared.Rules.{Rules}
use Rattle.law.specs.declared.Context.{Context}
use Rattle.law.specs.declared.Words.{Words}
use Rattle.law.specs.declared.Limit.{Limit}
use Rattle.law.specs.declared.Texts.{Texts}
use Rattle.law.specs.declared.FieldType.TheVariants.{Text}
use Rattle.law.specs.declared.refusals.Refusal.{Refusal}
use Rattle.law.specs.declared.refusals.Refusal.TheVariants.{WrongWord}
use Rattle.line_fields.specs.declared.FieldValue.{FieldValue}
use Rattle.line_fields.specs.declared.FieldValue.TheVariants.{Number, Word, Bytes}

-- a text's bytes stand where the field stands
abbrev pub told : Reply Value → Result FieldValue Refusal
told (good (number z)) = Ok (Number z)
told (good (word n)) = Ok (Word n)
told (good (text s)) = Ok Bytes
told (refused e) = Err e

-- the same by type, of a bare field
abbrev pub told_count : Context → Limit → List ℕ → Result FieldValue Refusal
told_count c l s = told (of_count c l (read_number (kept c l) (largest l) s))

abbrev pub told_integer : List ℕ → Result FieldValue Refusal
told_integer s = told (of_integer (read_integer s))

abbrev pub told_word : Rules → Words → List ℕ → Result FieldValue Refusal
told_word v l s = told (of_place (place_of (words_of v l) (folded s)))

abbrev pub told_text : Context → Texts → List ℕ → Result FieldValue Refusal
told_text c k s = cond (barred c k (meaning (Text k) s)) (Err WrongWord) (Ok Bytes)

abbrev pub told_date : List ℕ → Result FieldValue Refusal
told_date s = cond (is_date s) (Ok Bytes) (Err WrongWord)
