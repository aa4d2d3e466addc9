-- What the bytes of a field read as where an integer must stand.
use Rattle.std.specs.Prelude.{ℕ, ◌+◌, ◌*◌, ◌-◌, List, [], ◌∷◌, Bool, true, false, cond, leb, eqb, Option, Some, None}
use Rattle.number.specs.Signs.{signed}
use Rattle.law.specs.Limits.{largest_integer}
use Rattle.law.specs.Numbers.{is_digit}
use Rattle.number.specs.Numbers.{digit_here}
use Rattle.number.specs.declared.Integer.{Integer}

-- digits after a number n, to the end
unfoldable pub digits : ℕ → List ℕ → Option ℕ
digits n [] = Some n
digits n (b ∷ s) = cond (is_digit b) (digits (n * 10 + (b - 48)) s) None

-- a magnitude within the limit
abbrev pub whole_of : Bool → ℕ → Option Integer
whole_of neg n = cond (leb n largest_integer) (Some (record { 0 = signed neg n })) None

abbrev pub whole_by : Bool → Option ℕ → Option Integer
whole_by neg None = None
whole_by neg (Some n) = whole_of neg n

-- digits and nothing else, at least one
unfoldable pub unsigned : Bool → List ℕ → Option Integer
unsigned neg s = cond (digit_here s) (whole_by neg (digits 0 s)) None

-- an optional sign and digits
unfoldable pub read_integer : List ℕ → Option Integer
read_integer [] = None
read_integer (b ∷ s) = cond (eqb b 45) (unsigned true s) (cond (eqb b 43) (unsigned false s) (unsigned false (b ∷ s)))
