-- The values of each kind, within the limit that belongs to it.
use Rattle.std.specs.Prelude.{cond, leb, ℤ, nat_abs, Option, Some, None}
use Rattle.law.specs.Limits.{largest_length, largest_angle, largest_integer, in_turn}
use Rattle.number.specs.declared.Length.{Length}
use Rattle.number.specs.declared.Angle.{Angle}
use Rattle.number.specs.declared.Integer.{Integer}

abbrev pub length_of : ℤ → Option Length
length_of z = cond (leb (nat_abs z) largest_length) (Some (record { 0 = z })) None

abbrev pub angle_of : ℤ → Option Angle
angle_of z = cond (leb (nat_abs z) largest_angle) (Some (record { 0 = z })) None

abbrev pub included_of : ℤ → Option Angle
included_of z = cond (in_turn z) (Some (record { 0 = z })) None

abbrev pub integer_of : ℤ → Option Integer
integer_of z = cond (leb (nat_abs z) largest_integer) (Some (record { 0 = z })) None
