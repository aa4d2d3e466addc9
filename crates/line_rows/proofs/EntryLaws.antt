-- Laws by which the code of one field of a row follows its definition.
use Prim.Native.Nat.{ℕ, ◌+◌, ◌-◌, ◌^◌, ◌≤◌, ◌<◌}
use mathlib.Core.Path.{◌≡◌, refl, sym, ap, ◌∙◌, subst}
use mathlib.Core.List.{List}
use mathlib.Core.Bool.{Bool}
use native.Mathlib.Omega.{arith}
use mir.Syntax.{w64}
use mir.Val.{Fits, SFits}
use mir.ValLaws.{to_z-of_z}
use lib.IntN.{ℤ}
use lib.ListN.{length, take, drop, length-drop}
use lib.Seq.{drop-drop}
use Rattle.std.specs.Prelude.{Result, Ok, Err, Some, None}
use Rattle.basics.proofs.Integers.{back}
use Rattle.basics.proofs.Lists.{rest}
use Rattle.law.specs.Fields.{field}
use Rattle.text_fields.specs.FirstField.{FirstField, field_of}
use Rattle.text_fields.specs.declared.FoundField.{FoundField}
use Rattle.text_fields.specs.declared.BrokenQuoting.{BrokenQuoting as Unclosed}
use Rattle.text_fields.proofs.Bounds.{Lies, Bounded, bounded}
use Rattle.law.specs.Values.{Value, number, word, text}
use Rattle.form.specs.Values.{Reply, good, refused}
use Rattle.form.specs.Reading.{read_field}
use Rattle.line_fields.specs.Told.{told}
use Rattle.law.specs.declared.Context.{Context}
use Rattle.law.specs.declared.FieldType.{FieldType}
use Rattle.law.specs.declared.refusals.Refusal.{Refusal}
use Rattle.law.specs.declared.refusals.Refusal.TheVariants.{FieldCount, BrokenQuoting}
use Rattle.line_fields.specs.declared.FieldValue.{FieldValue}
use Rattle.line_fields.specs.declared.FieldValue.TheVariants.{Number as NumberF, Word as WordF, Bytes as BytesF}
use Rattle.line_rows.specs.Rows.{entry_of, entry_at}
use Rattle.line_rows.specs.declared.Entry.TheVariants.{Number, Word, Text}

-- what the reply says, by its cases
module _ (a l m : ℕ) where
  told_number : (r : Reply Value) (z : ℤ) → Ok (NumberF z) ≡ told r → Ok (Number z m) ≡ entry_of a l m r
  told_number (good (number w)) z h = cc
  told_number (good (word n)) z h = cc
  told_number (good (text s)) z h = cc
  told_number (refused n) z h = cc

  told_word_lem : (r : Reply Value) (n : ℕ) → Ok (WordF n) ≡ told r → Ok (Word n m) ≡ entry_of a l m r
  told_word_lem (good (number w)) n h = cc
  told_word_lem (good (word k)) n h = cc
  told_word_lem (good (text s)) n h = cc
  told_word_lem (refused k) n h = cc

  told_bytes : (r : Reply Value) → Ok BytesF ≡ told r → Ok (Text a l m) ≡ entry_of a l m r
  told_bytes (good (number w)) h = cc
  told_bytes (good (word k)) h = cc
  told_bytes (good (text s)) h = refl
  told_bytes (refused k) h = cc

  told_refused : (r : Reply Value) (n : Refusal) → Err n ≡ told r → Err n ≡ entry_of a l m r
  told_refused (good (number w)) n h = cc
  told_refused (good (word k)) n h = cc
  told_refused (good (text s)) n h = cc
  told_refused (refused k) n h = cc

-- x is the first field of the line from `at` on
module _ (s : List ℕ) (at : ℕ) (x : FirstField) (e : x ≡ field_of (take (length s - at) (drop at s))) where
  here : x ≡ field_of (drop at s)
  here = e ∙ ap field_of (rest at s)

  module _ (c : Context) (t : FieldType) where
    pub entry_none : x ≡ Ok None → Err FieldCount ≡ entry_at c t at s
    unfolding entry_at
    entry_none h = rw (sym here ∙ h)

    pub entry_broken : {b : Unclosed} → x ≡ Err b → Err BrokenQuoting ≡ entry_at c t at s
    unfolding entry_at
    entry_broken h = rw (sym here ∙ h)

  module _ (d : FoundField) (h : x ≡ Ok (Some d)) where
    lies : Lies 0 (length (drop at s)) d.start d.len d.next
    lies = subst (Bounded 0 (length (drop at s))) (sym here ∙ h) (bounded (drop at s))

    module _ (w : at ≤ length s) where
      pub end_within : at + d.start + d.len ≤ length s
      end_within = omega (arith, lies.within, lies.inside, length-drop at s)

      pub from_fits : length s < 2 ^ 64 → Fits w64 (at + d.start)
      from_fits f = omega (arith, lies.within, lies.inside, length-drop at s)

      pub end_fits : length s < 2 ^ 64 → Fits w64 (at + d.start + d.len)
      end_fits f = omega (arith, lies.within, lies.inside, length-drop at s)

      pub next_fits : length s < 2 ^ 64 → Fits w64 (at + d.next)
      next_fits f = omega (arith, lies.within, length-drop at s)

    -- y is what that field reads as
    module _ (c : Context) (t : FieldType) (y : Result FieldValue Refusal) (f : y ≡ told (read_field c t (field d.quoted (take (at + d.start + d.len - (at + d.start)) (drop (at + d.start) s))))) where
      same_bytes_lem : take (at + d.start + d.len - (at + d.start)) (drop (at + d.start) s) ≡ take d.len (drop d.start (drop at s))
      same_bytes_lem = let z : at + d.start + d.len - (at + d.start) ≡ d.len = omega arith in rw (z, drop-drop d.start at s)

      reply : y ≡ told (read_field c t (field d.quoted (take d.len (drop d.start (drop at s)))))
      reply = rw same_bytes_lem at f

      pub entry_number : (z : ℤ) → SFits w64 z → y ≡ Ok (NumberF z) → Ok (Number (back z) (at + d.next)) ≡ entry_at c t at s
      unfolding entry_at
      entry_number z g k = rw (to_z-of_z w64 z g, sym here ∙ h) (told_number (at + d.start) d.len (at + d.next) (read_field c t (field d.quoted (take d.len (drop d.start (drop at s))))) z (sym k ∙ reply))

      pub entry_word : (n : ℕ) → y ≡ Ok (WordF n) → Ok (Word n (at + d.next)) ≡ entry_at c t at s
      unfolding entry_at
      entry_word n k = rw (sym here ∙ h) (told_word_lem (at + d.start) d.len (at + d.next) (read_field c t (field d.quoted (take d.len (drop d.start (drop at s))))) n (sym k ∙ reply))

      pub entry_bytes : y ≡ Ok BytesF → Ok (Text (at + d.start) d.len (at + d.next)) ≡ entry_at c t at s
      unfolding entry_at
      entry_bytes k = rw (sym here ∙ h) (told_bytes (at + d.start) d.len (at + d.next) (read_field c t (field d.quoted (take d.len (drop d.start (drop at s))))) (sym k ∙ reply))

      pub entry_refused : (n : Refusal) → y ≡ Err n → Err n ≡ entry_at c t at s
      unfolding entry_at
      entry_refused n k = rw (sym here ∙ h) (told_refused (at + d.start) d.len (at + d.next) (read_field c t (field d.quoted (take d.len (drop d.start (drop at s))))) n (sym k ∙ reply))
