-- The sign that a number or an integer may begin with.
use Rattle.std.specs.Prelude.{ℕ, List, [], ◌∷◌, Bool, false, cond, ◌||◌, eqb}

-- does the list begin with a minus?
abbrev pub is_minus : List ℕ → Bool
is_minus [] = false
is_minus (b ∷ s) = eqb b 45

-- what follows a sign, or the whole where there is none
abbrev pub without_sign : List ℕ → List ℕ
without_sign [] = []
without_sign (b ∷ s) = cond (eqb b 45 || eqb b 43) s (b ∷ s)
