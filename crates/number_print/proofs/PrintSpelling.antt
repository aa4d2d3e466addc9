-- What is printed spells its value, so reading it gives the value back.
use Rattle.std.proofs.Common.{Some, Ok}
use Prim.Native.Nat.{ℕ, zero, suc, ◌+◌, ◌/◌, ◌%◌, ◌≤◌, ◌<◌}
use mathlib.Core.Path.{◌≡◌, refl, subst}
use mathlib.Core.List.{List, [], ◌∷◌, ◌++◌}
use mathlib.Core.Bool.{Bool, true, false, cond}
use native.Mathlib.Omega.{arith}
use borrow.Author.Tests.{ltb-true, ltb-false}
use lib.Dec.{ltb}
use lib.IntN.{ℤ, pos, negsuc, nat_abs}
use Rattle.law.specs.Limits.{most_decimals, largest_length, largest_integer}
use Rattle.law.specs.Numbers.{Digit, Numeral, one, more, Decimals, last, next, Unsigned, with_point, SpellsNumber, plain, minus}
use Rattle.number.specs.Numbers.{read_number}
use Rattle.number.specs.Integers.{read_integer}
use Rattle.number_print.specs.Printing.{top}
use Rattle.law.specs.Printing.{numeral_of, decimals_of, magnitude_of, sign_of, printed, printed_count, printed_integer}
use Rattle.law.specs.Integers as int
use Rattle.law.specs.Integers.{SpellsInteger}
use Rattle.number_read.proofs.NumberSpelling.{number_complete}
use Rattle.number_read.proofs.IntegerSpelling.{integer_complete}

pub digit : (d : ℕ) → d < 10 → Digit d (48 + d)
digit d h = record { small = h; byte = refl }

-- by whether a number has one digit
numeral_cases : (t : Bool) (n : ℕ) {l : List ℕ} → ltb n 10 ≡ t → (10 ≤ n → Numeral n l) → Numeral n (cond t ((48 + n) ∷ []) l)
numeral_cases true n e r = one (digit n (ltb-true n 10 e))
numeral_cases false n e r = r (ltb-false n 10 e)

pub numeral_spells : (k n : ℕ) → n < top k → Numeral n (numeral_of k n)
unfolding numeral_of
numeral_spells zero n h = one (digit n h)
numeral_spells (suc k) n h =
    numeral_cases (ltb n 10) n refl (λ g.
    subst (λ (x : ℕ). Numeral x (numeral_of k (n / 10) ++ (48 + n % 10) ∷ [])) (omega arith)
    (more (numeral_spells k (n / 10) (omega arith)) (digit (n % 10) (omega arith))))

decimals_spell : (f : ℕ) → f < 100000 → Decimals 10000 f (decimals_of f)
unfolding decimals_of
decimals_spell f h =
    subst (λ (x : ℕ). Decimals 10000 x (decimals_of f)) (omega arith)
    (next (digit (f / 10 / 10 / 10 / 10) (omega arith)) (omega arith)
    (next (digit (f / 10 / 10 / 10 % 10) (omega arith)) (omega arith)
    (next (digit (f / 10 / 10 % 10) (omega arith)) (omega arith)
    (next (digit (f / 10 % 10) (omega arith)) (omega arith)
    (last (digit (f % 10) (omega arith)) (omega arith))))))

magnitude_spells : (c : ℕ) → c ≤ largest_length → Unsigned 100_000 c (magnitude_of c)
unfolding magnitude_of
magnitude_spells c h =
    subst (λ (x : ℕ). Unsigned 100_000 x (magnitude_of c)) (omega arith)
    (with_point (numeral_spells 10 (c / 100_000) (omega arith)) (decimals_spell (c % 100_000) (omega arith)))

pub count_spells : (z : ℤ) → nat_abs z ≤ largest_length → SpellsNumber most_decimals largest_length z (printed_count z)
unfolding printed sign_of
count_spells (pos n) h = plain (magnitude_spells n h) h
count_spells (negsuc n) h = minus (magnitude_spells (suc n) h) h

pub integer_spells : (z : ℤ) → nat_abs z ≤ largest_integer → SpellsInteger z (printed_integer z)
unfolding printed sign_of
integer_spells (pos n) h = int.plain (numeral_spells 10 n (omega arith)) h
integer_spells (negsuc n) h = int.minus (numeral_spells 10 (suc n) (omega arith)) h

pub count_back : (z : ℤ) → nat_abs z ≤ largest_length → read_number most_decimals largest_length (printed_count z) ≡ Ok z
count_back z h = number_complete (count_spells z h)

pub integer_back : (z : ℤ) → nat_abs z ≤ largest_integer → read_integer (printed_integer z) ≡ Some (record { 0 = z })
integer_back z h = integer_complete (integer_spells z h)
