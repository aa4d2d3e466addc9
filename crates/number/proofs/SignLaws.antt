-- Laws of signed numbers: an i64's bits read back, a magnitude carried to an i64 and negated there.
use Prim.Native.Nat.{ℕ, zero, suc, ◌^◌, ◌<◌}
use mathlib.Core.Path.{◌≡◌, refl, ap, ◌∙◌}
use mathlib.Core.Bool.{Bool, true, false}
use native.Mathlib.Omega.{arith}
use lib.IntN.{ℤ, pos, neg_ℤ, nat_abs, ◌-ℤ◌, +ℤ_idl}
use mir.Syntax.{w64}
use mir.Val.{SFits, to_z}
use mir.ValLaws.{to_z_pos, to_z-of_z}
use Rattle.basics.proofs.Integers.{back}
use Rattle.number.specs.Signs.{signed}

-- the cast u64 as i64
pub cast_pos : (n : ℕ) → n < 2 ^ 63 → to_z w64 n ≡ pos n
cast_pos n h = to_z_pos w64 n h

-- a sign and such a magnitude fit an i64
pub signed_fits : (neg : Bool) (n : ℕ) → n < 2 ^ 63 → SFits w64 (signed neg n)
signed_fits true zero h = record { sfits = h }
signed_fits true (suc n) h = record { sfits = omega arith }
signed_fits false n h = record { sfits = h }

minus : (n : ℕ) → n < 2 ^ 63 → pos 0 -ℤ to_z w64 n ≡ neg_ℤ (pos n)
minus n h = ap (λ (z : ℤ). pos 0 -ℤ z) (cast_pos n h) ∙ +ℤ_idl (neg_ℤ (pos n))

-- `-v` of such a v fits, and is the negative number
pub minus_fits : (n : ℕ) → n < 2 ^ 63 → SFits w64 (pos 0 -ℤ to_z w64 n)
minus_fits n h = rw (minus n h) (signed_fits true n h)

-- the magnitude of a signed number
pub abs_signed : (neg : Bool) (n : ℕ) → nat_abs (signed neg n) ≡ n
abs_signed true zero = refl
abs_signed true (suc n) = refl
abs_signed false n = refl

-- a magnitude n of a number that was read back
module _ (z : ℤ) (f : SFits w64 z) (n : ℕ) (m : n ≡ nat_abs (back z)) where
  pub same_abs : n ≡ nat_abs z
  same_abs = rw (to_z-of_z w64 z f) at m
