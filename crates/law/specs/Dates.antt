-- "The date is 19 bytes, yyyy/mm/dd.hh:mm:ss, month 1 to 12, day 1 to 31, hour to 23, minute and second to 59."
use Rattle.std.specs.Prelude.{ℕ, ◌+◌, ◌*◌, ◌-◌, List, [], ◌∷◌, Bool, true, false, ◌&&◌, leb, eqb}
use Rattle.law.specs.Numbers.{is_digit}

-- two digits of a value from one number to another; or one byte
pub data Piece : Type 0 where
  two : ℕ → ℕ → Piece
  mark : ℕ → Piece

-- yyyy/mm/dd.hh:mm:ss: month 1 to 12, day 1 to 31, hour to 23, minute and second to 59
unfoldable pub date_pieces : List Piece
date_pieces = two 0 99 ∷ two 0 99 ∷ mark 47 ∷ two 1 12 ∷ mark 47 ∷ two 1 31 ∷ mark 46 ∷ two 0 23 ∷ mark 58 ∷ two 0 59 ∷ mark 58 ∷ two 0 59 ∷ []

-- the value of two digits
abbrev pub value_of : ℕ → ℕ → ℕ
value_of a b = (a - 48) * 10 + (b - 48)

-- two digits of a value from one number to another
unfoldable pub is_two : ℕ → ℕ → ℕ → ℕ → Bool
is_two lo hi a b = is_digit a && (is_digit b && (leb lo (value_of a b) && leb (value_of a b) hi))

-- bytes that are made of pieces, one after the other
unfoldable pub fits_in : List Piece → List ℕ → Bool
fits_in [] [] = true
fits_in [] (b ∷ s) = false
fits_in (mark m ∷ ps) [] = false
fits_in (mark m ∷ ps) (b ∷ s) = eqb b m && fits_in ps s
fits_in (two lo hi ∷ ps) [] = false
fits_in (two lo hi ∷ ps) (a ∷ []) = false
fits_in (two lo hi ∷ ps) (a ∷ b ∷ s) = is_two lo hi a b && fits_in ps s

-- a date is made of these pieces
unfoldable pub is_date : List ℕ → Bool
is_date s = fits_in date_pieces s
