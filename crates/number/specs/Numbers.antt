-- What the bytes of a field read as where a number must stand.
use Rattle.std.specs.Prelude.{ℕ, ◌+◌, ◌*◌, ◌-◌, ◌/◌, ◌^◌, List, [], ◌∷◌, Bool, true, false, cond, not, ◌&&◌, ◌||◌, leb, eqb, ℤ, Result, Ok, Err}
use Rattle.number.specs.Signs.{signed}
use Rattle.law.specs.Numbers.{is_digit}
use Rattle.number.specs.declared.NumberError.{NumberError}
use Rattle.number.specs.declared.NumberError.TheVariants.{NotNumber, TooFine}

-- does the list begin with a digit?
unfoldable pub digit_here : List ℕ → Bool
digit_here [] = false
digit_here (b ∷ bs) = is_digit b

-- beyond the largest count x: no number; else too fine where a decimal past those kept was not 0; else the count
unfoldable pub to_count : ℕ → Bool → Bool → ℕ → Result ℤ NumberError
to_count x neg fine n = cond (leb n x) (cond fine (Err TooFine) (Ok (signed neg n))) (Err NotNumber)

-- decimals, of which the next weighs w, a tenth of the one before it; m is the count so far
unfoldable pub decimals : ℕ → Bool → Bool → ℕ → ℕ → List ℕ → Result ℤ NumberError
decimals x neg fine w m [] = to_count x neg fine m
decimals x neg fine w m (b ∷ bs) =
    cond (is_digit b)
    (decimals x neg (fine || (eqb w 0 && not (eqb b 48))) (w / 10) (m + (b - 48) * w) bs)
    (Err NotNumber)

-- the digits before the point, of value n so far; u counts make a whole
unfoldable pub whole : ℕ → ℕ → Bool → ℕ → List ℕ → Result ℤ NumberError
whole x u neg n [] = to_count x neg false (n * u)
whole x u neg n (b ∷ bs) =
    cond (is_digit b) (whole x u neg (n * 10 + (b - 48)) bs)
    (cond (eqb b 46 && digit_here bs) (decimals x neg false (u / 10) (n * u) bs) (Err NotNumber))

-- at least one digit must stand before the point
unfoldable pub body : ℕ → ℕ → Bool → List ℕ → Result ℤ NumberError
body x u neg l = cond (digit_here l) (whole x u neg 0 l) (Err NotNumber)

-- an optional sign and a magnitude, of which k decimals are kept, at most x counts
unfoldable pub read_number : ℕ → ℕ → List ℕ → Result ℤ NumberError
read_number k x [] = Err NotNumber
read_number k x (b ∷ bs) =
    cond (eqb b 45) (body x (10 ^ k) true bs)
    (cond (eqb b 43) (body x (10 ^ k) false bs) (body x (10 ^ k) false (b ∷ bs)))
