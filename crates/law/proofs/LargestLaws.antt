-- No number is held with a larger magnitude than a length, so what is proved of lengths serves angles and the version.
use Prim.Native.Nat.{◌≤◌}
use native.Mathlib.Omega.{arith}
use Rattle.law.specs.Limits.{largest_length}
use Rattle.law.specs.Fits.{largest}
use Rattle.law.specs.declared.Limit.{Limit}
use Rattle.law.specs.declared.Limit.TheVariants.{Length as L, NotBelow as L0, Above as Lp, Included as A, Rotation as R, Version as Ver}

pub largest_most : (l : Limit) → largest l ≤ largest_length
largest_most L = omega arith
largest_most L0 = omega arith
largest_most Lp = omega arith
largest_most A = omega arith
largest_most R = omega arith
largest_most Ver = omega arith
