-- A line is read as a free line exactly where the rules call it one.
use Prim.Native.Nat.{ℕ}
use mathlib.Core.Path.{◌≡◌, refl}
use mathlib.Core.List.{List, [], ◌∷◌}
use mathlib.Core.Option.{Option, none, some}
use mathlib.Core.Bool.{Bool, true, false, cond, false≢true}
use native.Mathlib.Omega.{arith}
use borrow.Author.Tests.{eqb-true}
use Rattle.basics.proofs.Bools.{cond_both}
use Rattle.basics.proofs.Lists.{all_complete}
use Rattle.law.specs.declared.refusals.Refusal.{Refusal}
use Rattle.law.specs.declared.refusals.Refusal.TheVariants.{ForbiddenByte}
use Rattle.law.specs.Bytes as by
use Rattle.law.specs.Bytes.{permitted, is_space, All, all_of, begins}
use Rattle.law.specs.Fields.{Field, field, Spelled, end, space}
use Rattle.law.specs.Lines.{Free, blank, comment}
use Rattle.text_fields.specs.Fields.{fields_of}
use Rattle.text_fields.proofs.FieldSpelling.{fields_sound, fields_complete}
use Rattle.form.specs.Reading.{Line, free, bad, key_line, data_line, by_first, by_fields, line_as}
use Rattle.shown_spelling.proofs.BareBytes.{all_map}
use Rattle.shown_spelling.proofs.FileSpelling.{spaces_spell}
use Rattle.law.specs.Words.{folded}

space_permitted : (b : ℕ) → is_space b ≡ true → permitted b ≡ true
unfolding permitted
space_permitted b e = rw (eqb-true b 32 e)

pub free_line_lem : {l : List ℕ} → Free l → line_as l ≡ free
unfolding line_as begins
free_line_lem comment = refl
free_line_lem (blank {l} a) = rw (all_complete permitted (all_map space_permitted a), fields_complete l [] (spaces_spell a)) (cond_both (begins 35 l) refl refl)

-- what is answered of a line that is not free
abbrev Other : Line → Type 0
Other x = x ≡ free → ⊥

not_bad : {n : Refusal} → Other (bad n)
not_bad {n} e = let z : ◌≡◌ {A = ℕ} 0 1 = cc in omega arith

not_key : {w : List ℕ} {fs : List Field} → Other (key_line w fs)
not_key {w} {fs} e = let z : ◌≡◌ {A = ℕ} 0 1 = cc in omega arith

not_data : {fs : List Field} → Other (data_line fs)
not_data {fs} e = let z : ◌≡◌ {A = ℕ} 0 1 = cc in omega arith

pick_other : (b : Bool) (x y : Line) → Other x → Other y → Other (cond b x y)
pick_other true x y p q = p
pick_other false x y p q = q

-- # in front makes a comment
hashed : (l : List ℕ) → begins 35 l ≡ true → Free l
unfolding begins
hashed [] h = absurd (false≢true h)
hashed (b ∷ l) h = rw (eqb-true b 35 h) comment

-- spaces alone have no field
no_field : {s : List ℕ} → Spelled [] s → All is_space s
no_field end = by.none
no_field (space r) = by.one refl (no_field r)

module _ {l : List ℕ} where
  by_fields_lem : (fs : List Field) → Spelled fs l → by_first fs ≡ free → Free l
  by_fields_lem [] r e = blank (no_field r)
  by_fields_lem (field true s ∷ fs) r e = absurd (not_data e)
  by_fields_lem (field false s ∷ fs) r e = absurd (pick_other (begins 46 s) (key_line (folded s) fs) (data_line (field false s ∷ fs)) not_key not_data e)

  pub line_free : line_as l ≡ free → Free l
  unfolding line_as
  line_free = go (begins 35 l) (all_of permitted l) (fields_of l) refl refl
    where
      go : (h c : Bool) (o : Option (List Field)) → begins 35 l ≡ h → fields_of l ≡ o → cond h free (cond c (by_fields o) (bad ForbiddenByte)) ≡ free → Free l
      go true c o i f e = hashed l i
      go false true none i f e = absurd (not_bad e)
      go false true (some fs) i f e = by_fields_lem fs (fields_sound l fs f) e
      go false false o i f e = absurd (not_bad e)
