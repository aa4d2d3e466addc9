-- "Integer: optional sign and digits, magnitude at most 999,999,999."
use Rattle.std.specs.Prelude.{ℕ, ◌≤◌, List, ◌∷◌, ℤ, pos, neg_ℤ}
use Rattle.law.specs.Limits.{largest_integer}
use Rattle.law.specs.Numbers.{Numeral}

-- an integer: a sign or none, and a numeral
pub data SpellsInteger : ℤ → List ℕ → Type 0 where
  plain : {n : ℕ} {l : List ℕ} → Numeral n l → n ≤ largest_integer → SpellsInteger (pos n) l
  plus : {n : ℕ} {l : List ℕ} → Numeral n l → n ≤ largest_integer → SpellsInteger (pos n) (43 ∷ l)
  minus : {n : ℕ} {l : List ℕ} → Numeral n l → n ≤ largest_integer → SpellsInteger (neg_ℤ (pos n)) (45 ∷ l)
