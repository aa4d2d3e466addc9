-- "Integers without leading zeros, numbers with exactly five decimals, - only below zero."
use Rattle.std.specs.Prelude.{ℕ, zero, suc, ◌+◌, ◌/◌, ◌%◌, List, [], ◌∷◌, ◌++◌, Bool, true, false, cond, ltb, ℤ, nat_abs}
use Rattle.law.specs.Limits.{below}

-- a number of at most k + 1 digits, without leading zeros
unfoldable pub numeral_of : ℕ → ℕ → List ℕ
numeral_of zero n = (48 + n) ∷ []
numeral_of (suc k) n = cond (ltb n 10) ((48 + n) ∷ []) (numeral_of k (n / 10) ++ (48 + n % 10) ∷ [])

-- exactly five decimals
unfoldable pub decimals_of : ℕ → List ℕ
decimals_of f = (48 + f / 10 / 10 / 10 / 10) ∷ (48 + f / 10 / 10 / 10 % 10) ∷ (48 + f / 10 / 10 % 10) ∷ (48 + f / 10 % 10) ∷ (48 + f % 10) ∷ []

-- a whole part, a point, five decimals
unfoldable pub magnitude_of : ℕ → List ℕ
magnitude_of c = numeral_of 10 (c / 100_000) ++ 46 ∷ decimals_of (c % 100_000)

-- the two forms of a number: with five decimals, and whole
pub data Form : Type 0 where
  decimal : Form
  whole : Form

abbrev pub digits_of : Form → ℕ → List ℕ
digits_of decimal c = magnitude_of c
digits_of whole n = numeral_of 10 n

-- - only below zero
unfoldable pub sign_of : Bool → List ℕ → List ℕ
sign_of true l = 45 ∷ l
sign_of false l = l

unfoldable pub printed : Form → ℤ → List ℕ
printed k z = sign_of (below z) (digits_of k (nat_abs z))

abbrev pub printed_count : ℤ → List ℕ
printed_count z = printed decimal z

abbrev pub printed_integer : ℤ → List ℕ
printed_integer z = printed whole z
