-- "Each limit stands once, with the kind it belongs to."
use Rattle.std.specs.Prelude.{ℕ, suc, Bool, true, false, leb, ltb, ℤ, pos, negsuc}

-- a number is held as a count of hundred-thousandths: so many decimals are kept, and no more
abbrev pub most_decimals : ℕ
most_decimals = 5

-- the largest magnitude of a length's count, and of an angle's
abbrev pub largest_length : ℕ
largest_length = 99_999_999_999

abbrev pub largest_angle : ℕ
largest_angle = largest_length

-- the largest magnitude of an integer
abbrev pub largest_integer : ℕ
largest_integer = 999_999_999

-- 360 degrees
abbrev pub full_turn : ℕ
full_turn = 36_000_000

-- above minus a turn and not above a turn
abbrev pub turn_at : ℕ → ℤ → Bool
turn_at x (pos n) = leb n x
turn_at x (negsuc n) = ltb (suc n) x

-- above -360 degrees and not above 360
abbrev pub in_turn : ℤ → Bool
in_turn z = turn_at full_turn z

-- 360 degrees, as a count
abbrev pub whole_turn : ℤ
whole_turn = pos full_turn

-- below zero
abbrev pub below : ℤ → Bool
below (pos n) = false
below (negsuc n) = true
