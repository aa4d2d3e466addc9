-- The numbers of a well_formed_lem point line are of their kinds: the constructors take them as they are.
use Prim.Native.Nat.{ℕ, zero, suc, ◌≤◌}
use mathlib.Core.Path.{◌≡◌}
use mathlib.Core.List.{List, [], ◌∷◌}
use mathlib.Core.Option.{Option, none, some}
use mathlib.Core.Bool.{Bool, true, false, ◌&&◌, false≢true}
use native.Mathlib.Omega.{arith}
use borrow.Author.Tests.{leb-true, le-leb}
use lib.Dec.{leb}
use lib.IntN.{nat_abs}
use lib.ListN.{get_or}
use Rattle.basics.proofs.Bools.{both}
use Rattle.law.specs.Limits.{largest_length, largest_integer, in_turn}
use Rattle.law.specs.Values.{Value, number, word, text}
use Rattle.law.specs.Layouts.{Layout, layout_of, types_by, types_of}
use Rattle.law.specs.Fits.{largest, within, fits, fits_all, fits_by, well_formed, WellFormed}
use Rattle.law.proofs.LargestLaws.{largest_most}
use Rattle.law.specs.declared.Context.{Context}
use Rattle.law.specs.declared.Limit.TheVariants.{Length as L, NotBelow as L0, Above as Lp, Included as A, Rotation as R, Version as Ver}
use Rattle.law.specs.declared.FieldType.{FieldType}
use Rattle.law.specs.declared.FieldType.TheVariants.{Text as T, Date as D, Integer as I, Number as N, Word as W}
use Rattle.law.specs.Rows.{is_number}
use Rattle.law.specs.Records.{num_of}

-- the types up to number n are of numbers
abbrev pub numbers_to : ℕ → List FieldType → Bool
numbers_to n [] = false
numbers_to zero (t ∷ ts) = is_number t
numbers_to (suc n) (t ∷ ts) = is_number t && numbers_to n ts

pub number_first : (n : ℕ) (t : FieldType) (ts : List FieldType) → numbers_to n (t ∷ ts) ≡ true → is_number t ≡ true
number_first zero t ts h = h
number_first (suc n) t ts h = (both (is_number t) (numbers_to n ts) h).0

-- type n is of an included angle
abbrev is_included : FieldType → Bool
is_included (T k) = false
is_included D = false
is_included I = false
is_included (N L) = false
is_included (N L0) = false
is_included (N Lp) = false
is_included (N A) = true
is_included (N R) = false
is_included (N Ver) = false
is_included (W l) = false

abbrev pub included_at : ℕ → List FieldType → Bool
included_at n [] = false
included_at zero (t ∷ ts) = is_included t
included_at (suc n) (t ∷ ts) = included_at n ts

module _ (c : Context) where
  -- no number has a larger magnitude than a length
  number_small : (t : FieldType) (x : Value) → is_number t ≡ true → fits c t x ≡ true → nat_abs (num_of x) ≤ largest_length
  unfolding fits
  number_small (T k) x i h = absurd (false≢true i)
  number_small D x i h = absurd (false≢true i)
  number_small I (number z) i h = omega (arith, leb-true (nat_abs z) largest_integer h)
  number_small I (word n) i h = absurd (false≢true h)
  number_small I (text s) i h = absurd (false≢true h)
  number_small (N l) (number z) i h = omega (arith, leb-true (nat_abs z) (largest l) (both (leb (nat_abs z) (largest l)) (within c l z) h).0, largest_most l)
  number_small (N l) (word n) i h = absurd (false≢true h)
  number_small (N l) (text s) i h = absurd (false≢true h)
  number_small (W l) x i h = absurd (false≢true i)

  included_turn : (t : FieldType) (x : Value) → is_included t ≡ true → fits c t x ≡ true → in_turn (num_of x) ≡ true
  unfolding fits within
  included_turn (T k) x i h = absurd (false≢true i)
  included_turn D x i h = absurd (false≢true i)
  included_turn I x i h = absurd (false≢true i)
  included_turn (N L) x i h = absurd (false≢true i)
  included_turn (N L0) x i h = absurd (false≢true i)
  included_turn (N Lp) x i h = absurd (false≢true i)
  included_turn (N A) (number z) i h = (both (leb (nat_abs z) (largest A)) (in_turn z) h).1
  included_turn (N A) (word n) i h = absurd (false≢true h)
  included_turn (N A) (text s) i h = absurd (false≢true h)
  included_turn (N R) x i h = absurd (false≢true i)
  included_turn (N Ver) x i h = absurd (false≢true i)
  included_turn (W l) x i h = absurd (false≢true i)

  -- value i of those that fit
  pub length_at : (ts : List FieldType) (vs : List Value) (n i : ℕ) → i ≤ n → numbers_to n ts ≡ true → fits_all c ts vs ≡ true → leb (nat_abs (num_of (get_or vs i (word 0)))) largest_length ≡ true
  unfolding fits_all
  length_at [] vs n i h e f = absurd (false≢true e)
  length_at (t ∷ ts) [] n i h e f = absurd (false≢true f)
  length_at (t ∷ ts) (x ∷ vs) n zero h e f = le-leb (nat_abs (num_of x)) largest_length (number_small t x (number_first n t ts e) (both (fits c t x) _ f).0)
  length_at (t ∷ ts) (x ∷ vs) zero (suc i) h e f = absurd (omega arith)
  length_at (t ∷ ts) (x ∷ vs) (suc n) (suc i) h e f = length_at ts vs n i (omega arith) (both (is_number t) (numbers_to n ts) e).1 (both (fits c t x) _ f).1

  pub turn_at_lem : (ts : List FieldType) (vs : List Value) (n : ℕ) → included_at n ts ≡ true → fits_all c ts vs ≡ true → in_turn (num_of (get_or vs n (word 0))) ≡ true
  unfolding fits_all
  turn_at_lem [] vs n e f = absurd (false≢true e)
  turn_at_lem (t ∷ ts) [] n e f = absurd (false≢true f)
  turn_at_lem (t ∷ ts) (x ∷ vs) zero e f = included_turn t x e (both (fits c t x) _ f).0
  turn_at_lem (t ∷ ts) (x ∷ vs) (suc n) e f = turn_at_lem ts vs n e (both (fits c t x) _ f).1

  -- the values of a well_formed_lem record fit the types of its kind
  pub fits_types : (k : ℕ) (vs : List Value) → WellFormed c (record { kind = k; values = vs }) → fits_all c (types_of c.rules k) vs ≡ true
  unfolding well_formed types_of
  fits_types k vs = go (layout_of c.rules k)
    where
      go : (o : Option Layout) → fits_by c o vs ≡ true → fits_all c (types_by o) vs ≡ true
      go none h = absurd (false≢true h)
      go (some l) h = h
