-- Laws by which the code of a field follows its definition.
use Rattle.std.proofs.Common.{Option as Maybe, Some, None, Result, Ok, Err}
use Prim.Native.Nat.{ℕ, suc, ◌≤◌}
use mathlib.Core.Path.{◌≡◌, refl, sym, ◌∙◌}
use mathlib.Core.List.{List}
use mathlib.Core.Option.{Option, none, some}
use mathlib.Core.Bool.{Bool, true, false, cond, not, ◌&&◌, and-true}
use native.Mathlib.Omega.{arith}
use borrow.Author.Tests.{le-leb, leb-true, ltb-true, eqb-true}
use lib.Dec.{leb, ltb, eqb}
use lib.IntN.{ℤ, pos, negsuc, nat_abs}
use mir.Syntax.{w64}
use mir.Val.{SFits}
use mir.ValLaws.{to_z-of_z}
use Rattle.basics.proofs.Bools.{and_none}
use Rattle.basics.proofs.Integers.{back}
use Rattle.law.specs.Fields.{field}
use Rattle.law.specs.Limits.{below, most_decimals, largest_length, largest_angle, full_turn, in_turn}
use Rattle.number.specs.Numbers.{read_number}
use Rattle.number.specs.Integers.{read_integer}
use Rattle.law.specs.Dates.{is_date}
use Rattle.number.specs.declared.Integer.{Integer}
use Rattle.number.specs.declared.NumberError.{NumberError}
use Rattle.number.specs.declared.NumberError.TheVariants.{NotNumber, TooFine}
use Rattle.law.specs.Values.{number, text}
use Rattle.form.specs.Values.{good, refused}
use Rattle.law.specs.Bytes.{ascii}
use Rattle.basics.specs.Letters.{cased}
use Rattle.basics.proofs.Meanings.{name_told}
use Rattle.law.specs.Words.{words_of, board_word, named, is_in, folded, same_bytes}
use Rattle.form.specs.Compare.{place_of}
use Rattle.law.specs.Fits.{above, version_of, is_version, kept, largest, within, meaning, is_board, barred, fits}
use Rattle.law.proofs.LargestLaws.{largest_most}
use Rattle.number_read.proofs.NumberSpelling.{number_sound, number_small}
use Rattle.form.specs.Fits.{beyond}
use Rattle.form.specs.Reading.{of_place, read_field}
use Rattle.form_words.specs.Padded.{found}
use Rattle.line_fields.specs.Told.{told, told_count, told_integer, told_word, told_text, told_date}
use Rattle.law.specs.declared.Rules.{Rules}
use Rattle.law.specs.declared.Rules.TheVariants.{Idf3}
use Rattle.law.specs.declared.Context.{Context}
use Rattle.law.specs.declared.Words.{Words}
use Rattle.law.specs.declared.Limit.{Limit}
use Rattle.law.specs.declared.Limit.TheVariants.{Length as L, NotBelow as L0, Above as Lp, Included as A, Rotation as R, Version as Ver}
use Rattle.law.specs.declared.Texts.{Texts}
use Rattle.law.specs.declared.Texts.TheVariants.{Plain, Reference, Hole}
use Rattle.law.specs.declared.FieldType.{FieldType}
use Rattle.law.specs.declared.FieldType.TheVariants.{Text as T, Date as D, Integer as I, Number as N, Word as W}
use Rattle.law.specs.declared.refusals.Refusal.{Refusal}
use Rattle.law.specs.declared.refusals.Refusal.TheVariants.{NoNumber, TooFine as FineRefusal, WrongWord}
use Rattle.line_fields.specs.declared.FieldValue.{FieldValue}
use Rattle.line_fields.specs.declared.FieldValue.TheVariants.{Number, Word, Bytes}

-- Limits, of a number z that was read back
pub version_is : (v : Rules) → 300_000 ≡ version_of v
version_is Idf3 = refl

module _ (z : ℤ) (f : SFits w64 z) (t : Bool) (e : t ≡ below (back z)) where
  sign : t ≡ below z
  sign = rw (to_z-of_z w64 z f) at e

  module _ (n : ℕ) (m : n ≡ nat_abs (back z)) where
    size : n ≡ nat_abs z
    size = rw (to_z-of_z w64 z f) at m

    pub above_is : not t && ltb 0 n ≡ above z
    above_is = rw (sign, size) (go z)
      where
        go : (z : ℤ) → not (below z) && ltb 0 (nat_abs z) ≡ above z
        go (pos n) = refl
        go (negsuc n) = refl

    pub is_version_lem : (v : Rules) (x : ℕ) → x ≡ version_of v → not t && eqb n x ≡ is_version v z
    is_version_lem v x k = rw (sign, size, k) (go z)
      where
        go : (z : ℤ) → not (below z) && eqb (nat_abs z) (version_of v) ≡ is_version v z
        go (pos n) = refl
        go (negsuc n) = refl

  module _ (c : Context) (l : Limit) (m : Bool) (k : m ≡ leb (nat_abs (back z)) largest_length) where
    pub within_zero : l ≡ L0 → m && not t ≡ fits c (N l) (number z)
    unfolding fits within
    within_zero h = rw (h, sign, k, to_z-of_z w64 z f)

-- a small magnitude is one of a length, and of an angle
implied : (a b : Bool) → (b ≡ true → a ≡ true) → (a && b) ≡ b
implied a true h = rw (h refl)
implied a false h = and_none a false refl

turn_small : (z : ℤ) → (leb (nat_abs z) largest_angle && in_turn z) ≡ in_turn z
turn_small (pos n) = implied (leb n largest_angle) (leb n full_turn) (λ h. le-leb n largest_angle (omega (arith, leb-true n full_turn h)))
turn_small (negsuc n) = implied (leb (suc n) largest_angle) (ltb (suc n) full_turn) (λ h. le-leb (suc n) largest_angle (omega (arith, ltb-true (suc n) full_turn h)))

version_small : (v : Rules) (z : ℤ) → (leb (nat_abs z) largest_length && is_version v z) ≡ is_version v z
version_small v (pos n) = implied (leb n largest_length) (eqb n (version_of v)) (λ h. le-leb n largest_length (omega (arith, eqb-true n (version_of v) h, version_is v)))
version_small v (negsuc n) = and_none (leb (suc n) largest_length) false refl

module _ (c : Context) (l : Limit) (z : ℤ) (f : SFits w64 z) (r : Bool) where
  pub within_length : l ≡ L → r ≡ leb (nat_abs (back z)) largest_length → r ≡ fits c (N l) (number z)
  unfolding fits within
  within_length h e = rw h ((rw (to_z-of_z w64 z f) at e) ∙ sym (and-true (leb (nat_abs z) largest_length)))

  pub within_rotation : l ≡ R → r ≡ leb (nat_abs (back z)) largest_angle → r ≡ fits c (N l) (number z)
  unfolding fits within
  within_rotation h e = rw h ((rw (to_z-of_z w64 z f) at e) ∙ sym (and-true (leb (nat_abs z) largest_angle)))

  pub within_above : (m : Bool) → l ≡ Lp → m ≡ leb (nat_abs (back z)) largest_length → r ≡ above (back z) → m && r ≡ fits c (N l) (number z)
  unfolding fits within
  within_above m h k e = rw (h, k, e, to_z-of_z w64 z f)

  pub within_turn : l ≡ A → r ≡ in_turn (back z) → r ≡ fits c (N l) (number z)
  unfolding fits within
  within_turn h e = rw h ((rw (to_z-of_z w64 z f) at e) ∙ sym (turn_small z))

  pub within_version : l ≡ Ver → r ≡ is_version c.rules (back z) → r ≡ fits c (N l) (number z)
  unfolding fits within
  within_version h e = rw h ((rw (to_z-of_z w64 z f) at e) ∙ sym (version_small c.rules z))

-- Answers of the parts
pub kept_is : (c : Context) (l : Limit) → 5 ≡ kept c l
unfolding kept
kept_is c l = refl

pub largest_fits : (l : Limit) (x : ℕ) → x ≡ largest l → x ≤ largest_length
largest_fits l x e = rw e (largest_most l)

module _ (c : Context) (l : Limit) (s : List ℕ) (a : Result ℤ NumberError) (n x : ℕ) (k : n ≡ kept c l) (q : x ≡ largest l) (e : a ≡ read_number n x s) where
  here : a ≡ read_number (kept c l) (largest l) s
  here = rw (k, q) at e

  pub count_not : a ≡ Err NotNumber → Err NoNumber ≡ told_count c l s
  count_not h = rw (sym here ∙ h)

  pub count_fine : a ≡ Err TooFine → Err FineRefusal ≡ told_count c l s
  count_fine h = rw (sym here ∙ h)

  module _ (z : ℤ) (h : a ≡ Ok z) (f : SFits w64 z) (r : Bool) (w : r ≡ fits c (N l) (number (back z))) where
    -- what was read is not beyond its kind
    limited : r ≡ within c l z
    unfolding fits
    limited = (rw (to_z-of_z w64 z f) at w) ∙ rw (le-leb (nat_abs z) (largest l) (number_small (number_sound (kept c l) (largest l) s (sym here ∙ h))))

    pub count_good : r ≡ true → Ok (Number (back z)) ≡ told_count c l s
    count_good t = rw (sym here ∙ h, sym limited ∙ t, to_z-of_z w64 z f)

    pub count_beyond : (y : Refusal) → r ≡ false → y ≡ beyond l → Err y ≡ told_count c l s
    count_beyond y t b = rw (sym here ∙ h, sym limited ∙ t, b)

pub kept_most : (c : Context) (l : Limit) (n : ℕ) → n ≡ kept c l → n ≤ most_decimals
unfolding kept
kept_most c l n e = omega arith

module _ (s : List ℕ) (a : Maybe Integer) (e : a ≡ read_integer s) where
  pub integer_whole : (z : Integer) (n : ℤ) → a ≡ Some z → n ≡ z.0 → SFits w64 n → Ok (Number (back n)) ≡ told_integer s
  integer_whole z n h k f = rw (sym e ∙ h, to_z-of_z w64 n f, k)

  pub integer_not : a ≡ None → Err NoNumber ≡ told_integer s
  integer_not h = rw (sym e ∙ h)

module _ (v : Rules) (l : Words) (s : List ℕ) (p : Maybe ℕ) (e : p ≡ found (place_of (words_of v l) (folded s))) where
  pub word_at : (n : ℕ) → p ≡ Some n → Ok (Word n) ≡ told_word v l s
  word_at n h = go (place_of (words_of v l) (folded s)) (sym h ∙ e)
    where
      go : (o : Option ℕ) → Some n ≡ found o → Ok (Word n) ≡ told (of_place o)
      go none e = cc
      go (some m) e = cc

  pub word_not : p ≡ None → Err WrongWord ≡ told_word v l s
  word_not h = go (place_of (words_of v l) (folded s)) (sym h ∙ e)
    where
      go : (o : Option ℕ) → None ≡ found o → Err WrongWord ≡ told (of_place o)
      go none e = refl
      go (some m) e = cc

-- BOARD in a board
module _ (c : Context) (s : List ℕ) (x : Bool) (e : x ≡ is_board c.file) where
  pub barred_by : (y : Bool) → x ≡ true → y ≡ same_bytes (cased true s) (cased false (ascii "BOARD")) → y ≡ barred c Reference (meaning (T Reference) s)
  unfolding barred cased named is_in same_bytes
  barred_by y h i = rw (sym e ∙ h) (i ∙ name_told Reference s board_word refl)

  pub barred_not : x ≡ false → x ≡ barred c Reference (meaning (T Reference) s)
  unfolding barred
  barred_not h = h ∙ rw (sym e ∙ h)

-- a text that may name nothing else is never barred
module _ (c : Context) (k : Texts) (s : List ℕ) where
  pub plain_free : k ≡ Plain → false ≡ barred c k (meaning (T k) s)
  unfolding barred
  plain_free h = rw h

  pub hole_free : k ≡ Hole → false ≡ barred c k (meaning (T k) s)
  unfolding barred
  hole_free h = rw h

  pub reference_barred : (r : Bool) → k ≡ Reference → r ≡ barred c Reference (meaning (T Reference) s) → r ≡ barred c k (meaning (T k) s)
  reference_barred r h e = rw h e

  module _ (r : Bool) (e : r ≡ barred c k (meaning (T k) s)) where
    pub text_barred : r ≡ true → Err WrongWord ≡ told_text c k s
    text_barred t = rw (sym e ∙ t)

    pub text_free : r ≡ false → Ok Bytes ≡ told_text c k s
    text_free t = rw (sym e ∙ t)

module _ (s : List ℕ) (r : Bool) (e : r ≡ is_date s) where
  pub date_good : r ≡ true → Ok Bytes ≡ told_date s
  date_good t = rw (sym e ∙ t)

  pub date_not : r ≡ false → Err WrongWord ≡ told_date s
  date_not t = rw (sym e ∙ t)

-- A field by its type, bare or quoted
told_test : (t : Bool) (s : List ℕ) → cond t (Err WrongWord) (Ok Bytes) ≡ told (cond t (refused WrongWord) (good (text s)))
told_test true s = refl
told_test false s = refl

told_date_lem : (t : Bool) (s : List ℕ) → cond t (Ok Bytes) (Err WrongWord) ≡ told (cond t (good (text s)) (refused WrongWord))
told_date_lem true s = refl
told_date_lem false s = refl

module _ (c : Context) (t : FieldType) (s : List ℕ) where
  module _ (q : Bool) where
    pub field_text : (k : Texts) (r : Result FieldValue Refusal) → t ≡ T k → r ≡ told_text c k s → r ≡ told (read_field c t (field q s))
    unfolding read_field
    field_text k r h e = rw h (e ∙ told_test (barred c k (meaning (T k) s)) (meaning (T k) s))

  module _ (r : Result FieldValue Refusal) where
    pub field_date : t ≡ D → r ≡ told_date s → r ≡ told (read_field c t (field false s))
    unfolding read_field
    field_date h e = rw h (e ∙ told_date_lem (is_date s) s)

    pub field_integer : t ≡ I → r ≡ told_integer s → r ≡ told (read_field c t (field false s))
    unfolding read_field
    field_integer h e = rw h e

    pub field_number : (l : Limit) → t ≡ N l → r ≡ told_count c l s → r ≡ told (read_field c t (field false s))
    unfolding read_field
    field_number l h e = rw h e

    pub field_word : (l : Words) → t ≡ W l → r ≡ told_word c.rules l s → r ≡ told (read_field c t (field false s))
    unfolding read_field
    field_word l h e = rw h e

  pub quoted_date : t ≡ D → Err WrongWord ≡ told (read_field c t (field true s))
  unfolding read_field
  quoted_date h = rw h

  pub quoted_integer : t ≡ I → Err NoNumber ≡ told (read_field c t (field true s))
  unfolding read_field
  quoted_integer h = rw h

  pub quoted_number : (l : Limit) → t ≡ N l → Err NoNumber ≡ told (read_field c t (field true s))
  unfolding read_field
  quoted_number l h = rw h

  pub quoted_word : (l : Words) → t ≡ W l → Err WrongWord ≡ told (read_field c t (field true s))
  unfolding read_field
  quoted_word l h = rw h

  module _ (q : Bool) (r : Result FieldValue Refusal) where
    pub read_quoted : q ≡ true → r ≡ told (read_field c t (field true s)) → r ≡ told (read_field c t (field q s))
    read_quoted h e = rw h e

    pub read_bare : q ≡ false → r ≡ told (read_field c t (field false s)) → r ≡ told (read_field c t (field q s))
    read_bare h e = rw h e

-- what `count_field` cites
pub ruleset count_laws = (kept_most, largest_fits, count_not, count_fine, count_good, count_beyond)

pub ruleset reference_laws = (barred_by, barred_not)
