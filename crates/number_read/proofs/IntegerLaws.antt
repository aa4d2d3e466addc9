-- Laws of an integer's definitions at an index of the list, as the loop cites them.
use Rattle.std.proofs.Common.{Some, None}
use Prim.Native.Nat.{ℕ, ◌+◌, ◌*◌, ◌-◌, ◌≤◌, ◌<◌}
use mathlib.Core.Path.{◌≡◌, refl}
use mathlib.Core.List.{List, [], ◌∷◌}
use mathlib.Core.Bool.{Bool, true, false, cond, ◌||◌}
use native.Mathlib.Omega.{arith}
use borrow.Author.Tests.{lt-leb}
use lib.Dec.{eqb}
use lib.ListN.{length, drop, get_or}
use Rattle.basics.proofs.Lists.{at_cons, at_end}
use Rattle.law.specs.Limits.{largest_integer}
use Rattle.law.specs.Numbers.{is_digit}
use Rattle.number.specs.Numbers.{digit_here}
use Rattle.number_read.specs.Signs.{is_minus, without_sign}
use Rattle.number.specs.Integers.{digits, whole_by, unsigned, read_integer}

module _ (s : List ℕ) (i : ℕ) where
  pub digits_end : (n : ℕ) → length s ≤ i → digits n (drop i s) ≡ Some n
  unfolding digits
  digits_end n h = rw (at_end s i h)

  pub digits_bad : (n : ℕ) → i < length s → is_digit (get_or s i 0) ≡ false → digits n (drop i s) ≡ None
  unfolding digits
  digits_bad n h d = rw (at_cons s i h, d)

  pub digits_more : (n : ℕ) → i < length s → is_digit (get_or s i 0) ≡ true → digits n (drop i s) ≡ digits (n * 10 + (get_or s i 0 - 48)) (drop (i + 1) s)
  unfolding digits
  digits_more n h d = rw (at_cons s i h, d)

-- a number beyond the limit stays there
pub digits_big : (l : List ℕ) (neg : Bool) (n : ℕ) → largest_integer < n → whole_by neg (digits n l) ≡ None
unfolding digits
digits_big [] neg n h = rw (lt-leb n largest_integer h)
digits_big (b ∷ l) neg n h = go (is_digit b) (digits_big l neg (n * 10 + (b - 48)) (omega arith))
  where
    go : (t : Bool) → whole_by neg (digits (n * 10 + (b - 48)) l) ≡ None → whole_by neg (cond t (digits (n * 10 + (b - 48)) l) None) ≡ None
    go true e = e
    go false e = refl

pub unsigned_none : (neg : Bool) (l : List ℕ) → length l ≡ 0 → unsigned neg l ≡ None
unfolding unsigned digit_here
unsigned_none neg [] h = refl
unsigned_none neg (b ∷ l) h = absurd (omega arith)

pub unsigned_some : (neg : Bool) (l : List ℕ) → 0 < length l → unsigned neg l ≡ whole_by neg (digits 0 l)
unfolding unsigned digit_here digits
unsigned_some neg [] h = absurd (omega arith)
unsigned_some neg (b ∷ l) h = go (is_digit b)
  where
    go : (t : Bool) → cond t (whole_by neg (cond t (digits (0 * 10 + (b - 48)) l) None)) None ≡ whole_by neg (cond t (digits (0 * 10 + (b - 48)) l) None)
    go true = refl
    go false = refl

-- the sign
pub read_signed : (l : List ℕ) → unsigned (is_minus l) (without_sign l) ≡ read_integer l
unfolding read_integer unsigned digit_here
read_signed [] = refl
read_signed (b ∷ l) = go (eqb b 45) (eqb b 43)
  where
    go : (m p : Bool) → unsigned m (cond (m || p) l (b ∷ l)) ≡ cond m (unsigned true l) (cond p (unsigned false l) (unsigned false (b ∷ l)))
    go true p = refl
    go false true = refl
    go false false = refl

-- what `unsigned` cites
pub ruleset unsigned_laws = (unsigned_none, unsigned_some, digits_end, digits_bad, digits_more, digits_big)
