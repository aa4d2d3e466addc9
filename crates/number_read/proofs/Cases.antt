-- Document 01's proved cases on numbers and angles, computed from the definitions.
use Rattle.std.proofs.Common.{Option, Some, None, Result, Ok, Err}
use Prim.Native.String.{String}
use mathlib.Core.Path.{◌≡◌, refl}
use lib.IntN.{ℤ, pos, negsuc}
use Rattle.law.specs.Bytes.{ascii}
use Rattle.law.specs.Limits.{most_decimals, largest_length}
use Rattle.number.specs.Limits.{included_of}
use Rattle.number.specs.Numbers.{digit_here, to_count, decimals, whole, body, read_number}
use Rattle.number.specs.declared.NumberError.{NumberError}
use Rattle.number.specs.declared.NumberError.TheVariants.{NotNumber, TooFine}
use Rattle.number.specs.declared.Angle.{Angle}

-- a number as lengths and angles are read
abbrev as_number : String → Result ℤ NumberError
as_number s = read_number most_decimals largest_length (ascii s)

-- and then as an included angle
abbrev angle_by : Result ℤ NumberError → Option Angle
angle_by (Ok z) = included_of z
angle_by (Err NotNumber) = None
angle_by (Err TooFine) = None

abbrev as_angle : String → Option Angle
as_angle s = angle_by (as_number s)

-- P, numbers and angles: 7 is NotNumber, 8 TooFine, and 10 an angle that is none
pub p_numbers :
    (as_number "-0.00001" ≡ Ok (negsuc 0))
    × (as_number "-0" ≡ Ok (pos 0))
    × (as_number "+007" ≡ Ok (pos 700_000))
    × (as_number "1.000010" ≡ Ok (pos 100_001))
    × (as_number "999999.99999" ≡ Ok (pos largest_length))
    × (as_number "1000000" ≡ Err NotNumber)
    × (as_number "1.000001" ≡ Err TooFine)
    × (as_number "5." ≡ Err NotNumber)
    × (as_number "1e3" ≡ Err NotNumber)
    × (as_number "360.00001" ≡ Ok (pos 36_000_001))
    × (as_angle "360.00001" ≡ None)
    × (as_number "-360" ≡ Ok (negsuc 35_999_999))
    × (as_angle "-360" ≡ None)
    × (as_angle "-359.99999" ≡ Some (record { 0 = negsuc 35_999_998 }))
unfolding read_number body whole decimals to_count digit_here
p_numbers = (refl, refl, refl, refl, refl, refl, refl, refl, refl, refl, refl, refl, refl, refl)
