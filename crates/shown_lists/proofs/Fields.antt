-- Values and their fields: what does not depend on the file's type, and points with another x.
use mathlib.Core.Path.{◌≡◌, refl, sym}
use mathlib.Core.List.{List, [], ◌∷◌}
use mathlib.Core.Bool.{Bool, true, false, not, ◌&&◌, false≢true}
use lib.Dec.{leb}
use lib.IntN.{ℤ, pos, nat_abs}
use borrow.Author.Tests.{not-true}
use Rattle.basics.proofs.Bools.{both}
use Rattle.law.specs.Limits.{largest_length}
use Rattle.law.specs.Values.{Value, number, word, text}
use Rattle.law.specs.Fits.{under, within, barred, fits, fits_all}
use Rattle.law.specs.declared.Rules.{Rules}
use Rattle.law.specs.declared.FileType.{FileType}
use Rattle.law.specs.declared.Context.{Context}
use Rattle.law.specs.declared.Limit.{Limit}
use Rattle.law.specs.declared.Limit.TheVariants.{Length, NotBelow, Above, Included, Rotation, Version}
use Rattle.law.specs.declared.Texts.TheVariants.{Plain, Reference, Hole}
use Rattle.law.specs.declared.FieldType.{FieldType}
use Rattle.law.specs.declared.FieldType.TheVariants.{Text, Date, Integer, Number, Word}

-- BOARD as reference occurs only in a panel: only a reference depends on the file's type
abbrev is_reference : FieldType → Bool
is_reference (Text Plain) = false
is_reference (Text Reference) = true
is_reference (Text Hole) = false
is_reference Date = false
is_reference Integer = false
is_reference (Number l) = false
is_reference (Word l) = false

abbrev pub no_reference : List FieldType → Bool
no_reference [] = true
no_reference (t ∷ ts) = not (is_reference t) && no_reference ts

-- a length without a limit on its sign
abbrev is_length : FieldType → Bool
is_length (Text k) = false
is_length Date = false
is_length Integer = false
is_length (Number Length) = true
is_length (Number NotBelow) = false
is_length (Number Above) = false
is_length (Number Included) = false
is_length (Number Rotation) = false
is_length (Number Version) = false
is_length (Word l) = false

abbrev pub length_second : List FieldType → Bool
length_second [] = false
length_second (t ∷ []) = false
length_second (t ∷ u ∷ ts) = is_length u

-- label, x, y and angle 0
abbrev pub origin : List Value
origin = number (pos 0) ∷ number (pos 0) ∷ number (pos 0) ∷ number (pos 0) ∷ []

-- the same values with another x
abbrev pub set_x : List Value → ℤ → List Value
set_x [] z = []
set_x (a ∷ []) z = a ∷ []
set_x (a ∷ b ∷ vs) z = a ∷ number z ∷ vs

module _ (v : Rules) (t u : FileType) where
  within_any : (l : Limit) (z : ℤ) → within (under v t) l z ≡ within (under v u) l z
  unfolding within
  within_any Length z = refl
  within_any NotBelow z = refl
  within_any Above z = refl
  within_any Included z = refl
  within_any Rotation z = refl
  within_any Version z = refl

  fits_any : (f : FieldType) (x : Value) → is_reference f ≡ false → fits (under v t) f x ≡ fits (under v u) f x
  unfolding fits barred
  fits_any (Text k) (number z) h = refl
  fits_any (Text k) (word n) h = refl
  fits_any (Text Plain) (text s) h = refl
  fits_any (Text Reference) (text s) h = absurd (false≢true (sym h))
  fits_any (Text Hole) (text s) h = refl
  fits_any Date (number z) h = refl
  fits_any Date (word n) h = refl
  fits_any Date (text s) h = refl
  fits_any Integer (number z) h = refl
  fits_any Integer (word n) h = refl
  fits_any Integer (text s) h = refl
  fits_any (Number l) (number z) h = rw (within_any l z)
  fits_any (Number l) (word n) h = refl
  fits_any (Number l) (text s) h = refl
  fits_any (Word l) (number z) h = refl
  fits_any (Word l) (word n) h = refl
  fits_any (Word l) (text s) h = refl

  pub fits_all_any : (fs : List FieldType) (xs : List Value) → no_reference fs ≡ true → fits_all (under v t) fs xs ≡ fits_all (under v u) fs xs
  unfolding fits_all
  fits_all_any [] [] h = refl
  fits_all_any [] (x ∷ xs) h = refl
  fits_all_any (f ∷ fs) [] h = refl
  fits_all_any (f ∷ fs) (x ∷ xs) h =
      let w = both _ _ h in
      rw (fits_any f x (not-true _ w.0), fits_all_any fs xs w.1)

module _ (c : Context) where
  pub has_label : (fs : List FieldType) → length_second fs ≡ true → fits_all c fs [] ≡ true → ⊥
  unfolding fits_all
  has_label [] l h = false≢true l
  has_label (f ∷ fs) l h = false≢true h

  pub has_x : (fs : List FieldType) (a : Value) → length_second fs ≡ true → fits_all c fs (a ∷ []) ≡ true → ⊥
  unfolding fits_all
  has_x [] a l h = false≢true l
  has_x (f ∷ []) a l h = false≢true l
  has_x (f ∷ g ∷ fs) a l h = false≢true (both (fits c f a) false h).1

  length_fits : (f : FieldType) (z : ℤ) → leb (nat_abs z) largest_length ≡ true → is_length f ≡ true → fits c f (number z) ≡ true
  unfolding fits within
  length_fits (Text k) z e h = absurd (false≢true h)
  length_fits Date z e h = absurd (false≢true h)
  length_fits Integer z e h = absurd (false≢true h)
  length_fits (Number Length) z e h = rw e
  length_fits (Number NotBelow) z e h = absurd (false≢true h)
  length_fits (Number Above) z e h = absurd (false≢true h)
  length_fits (Number Included) z e h = absurd (false≢true h)
  length_fits (Number Rotation) z e h = absurd (false≢true h)
  length_fits (Number Version) z e h = absurd (false≢true h)
  length_fits (Word l) z e h = absurd (false≢true h)

  pub set_fits : (fs : List FieldType) (xs : List Value) (z : ℤ) → leb (nat_abs z) largest_length ≡ true → length_second fs ≡ true
      → fits_all c fs xs ≡ true → fits_all c fs (set_x xs z) ≡ true
  unfolding fits_all
  set_fits fs [] z e l h = h
  set_fits fs (a ∷ []) z e l h = h
  set_fits [] (a ∷ b ∷ xs) z e l h = absurd (false≢true l)
  set_fits (f ∷ []) (a ∷ b ∷ xs) z e l h = absurd (false≢true l)
  set_fits (f ∷ g ∷ fs) (a ∷ b ∷ xs) z e l h =
      let w = both (fits c f a) (fits c g b && fits_all c fs xs) h in
      let y = both (fits c g b) (fits_all c fs xs) w.1 in
      rw (w.0, length_fits g z e l, y.1)
