-- Integers compared.
use Rattle.std.specs.Prelude.{Bool, false, eqb, ℤ, pos, negsuc}

-- two integers are the same
unfoldable pub eq_z : ℤ → ℤ → Bool
eq_z (pos a) (pos b) = eqb a b
eq_z (pos a) (negsuc b) = false
eq_z (negsuc a) (pos b) = false
eq_z (negsuc a) (negsuc b) = eqb a b
